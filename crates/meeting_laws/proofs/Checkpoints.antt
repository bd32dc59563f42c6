-- Checkpoints: they begin with the start, ascend, and each place is fewer than two spans after one.
use Rattle.std.proofs.Common.{◌≡◌, ◌⊎◌, inl, inr, ⊎_elim, ℕ, zero, suc, ◌+◌, ◌-◌, ◌*◌, ◌/◌, ◌%◌, ◌<◌, ◌≤◌, max, Bool, true, false, cond, eqb, ◌&&◌, ◌||◌, leb}
use Rattle.std.proofs.Common.{ltb, List, [], ◌∷◌, Some, Ok, slice_get, refl, sym, ap, ap₂, subst, ◌∙◌, arith, length-set, mod-lt, mod-eq_of_lt, div-mul-le_self}
use Rattle.std.proofs.Common.{div-add-mod'}
use Rattle.std.specs.Prelude.{◌↔◌, All, AllPairs, filter}
use Rattle.std.specs.List.{list_any, range_with_len}
use Rattle.std.specs.List.Sorted.{IsStrictlyIncreasing}
use Rattle.std.proofs.Math.Nat.{mul-mod_left}
use Rattle.std.proofs.lemmas.Bool.{and_parts}
use Rattle.std.proofs.lemmas.Bool.Decides.{nat_tests}
use Rattle.std.proofs.lemmas.List.FromFn.{length-range_with_len, get_or-range_with_len}
use Rattle.std.proofs.lemmas.List.Kept.{AllPairs-from_increasing, IsStrictlyIncreasing-filter}
use Rattle.std.proofs.lemmas.List.Elements.{All-from_recursion, recursion_from_All}
use Rattle.bench_types.specs.declared.edit.Edit.{Edit}
use Rattle.bench_types.specs.declared.edit.Edit.TheVariants.{Insert, Remove, Replace, ChangeTask}
use Rattle.bench_types.specs.declared.step.Step.{Step}
use Rattle.bench_types.specs.Session.{Session}
use Rattle.list_orders.specs.Search.{numbers, has}
use Rattle.list_orders.proofs.Filters.{All-has, All-weaker, All-filter, has-filter}
use Rattle.list_orders.proofs.Stamped.{numbers_below, numbers_have}
use Rattle.order_laws.proofs.Selects.{list_any_at}
use Rattle.bench_model.specs.Edits.{accepted, edited}
use Rattle.bench_model.specs.Meeting.{CheckpointedSession, last_place, checkpoint_before, first_checkpoints, place_of, moved_place, is_compared, replayed_from}
use Rattle.bench_model.specs.Meeting.{met, moved_checkpoints, segment_end, is_added, next_checkpoints}
use Rattle.bench_model.specs.Tally.{greatest}
use Rattle.meeting_laws.specs.CheckpointLaws.{AreCheckpoints, IsLastBefore, IsMoved, IsAdded}
use Rattle.meeting_laws.proofs.Meetings.{met_within, met_after, met_from}
use Rattle.meeting_laws.proofs.Moves.{is_after, last_after_insert, last_after_remove, stays_before, inserted_after, moved_within, edit_there, insert_bounds}
use Rattle.meeting_laws.proofs.Moves.{remove_bounds}
use Rattle.meeting_laws.proofs.Places.{has_first, has_rest, has_later, any_found, least_within, least_from, least_each}

-- ---- the greatest of some places

greatest_each : (place : ℕ) (places : List ℕ) → has place places ≡ true → place ≤ greatest places
greatest_each place [] found = absurd (cc found)
greatest_each place (first ∷ places) found = at (eqb first place) refl (greatest_each place places)
  where
    at : (b : Bool) → eqb first place ≡ b → (has place places ≡ true → place ≤ greatest places) → place ≤ max first (greatest places)
    at true is later =
        let same : first ≡ place = grind (arith, nat_tests, is) in
        omega (arith, same)
    at false is later = omega (arith, later (has_later first place places is found))

greatest_reached : (places : List ℕ) → (greatest places ≡ 0) ⊎ (has (greatest places) places ≡ true)
greatest_reached [] = inl refl
greatest_reached (first ∷ places) = at (leb (greatest places) first) refl (greatest_reached places)
  where
    n : ℕ
    n = max first (greatest places)

    at : (b : Bool) → leb (greatest places) first ≡ b → (greatest places ≡ 0) ⊎ (has (greatest places) places ≡ true) → (n ≡ 0) ⊎
        (has n (first ∷ places) ≡ true)
    at true is later =
        let low : greatest places ≤ first = grind (arith, nat_tests, is) in
        let here : n ≡ first = omega (arith, low) in
        inr (ap (λ m. has m (first ∷ places)) here ∙ has_first first places)
    at false is (inl none) =
        let low : first < greatest places = grind (arith, nat_tests, is) in
        absurd (omega (arith, low, none))
    at false is (inr found) =
        let low : first < greatest places = grind (arith, nat_tests, is) in
        let here : n ≡ greatest places = omega (arith, low) in
        inr (ap (λ m. has m (first ∷ places)) here ∙ has_rest first (greatest places) places found)

-- ---- the last checkpoint before a place

module _ (checkpoints : List ℕ) (place : ℕ) where
  abbrev earlier : List ℕ
  earlier = filter (λ checkpoint. leb checkpoint place) checkpoints

  is_earlier : (checkpoint : ℕ) → has checkpoint checkpoints ≡ true → checkpoint ≤ place → has checkpoint earlier ≡ true
  is_earlier checkpoint listed before =
      let so : leb checkpoint place ≡ true = grind (arith, nat_tests, before) in
      has-filter (λ checkpoint. leb checkpoint place) checkpoint checkpoints ∙ ap₂ (λ a b. a && b) so listed

  earlier_parts : (checkpoint : ℕ) → has checkpoint earlier ≡ true → (leb checkpoint place ≡ true) × (has checkpoint checkpoints ≡ true)
  earlier_parts checkpoint found = and_parts (leb checkpoint place) (has checkpoint checkpoints)
      (sym (has-filter (λ checkpoint. leb checkpoint place) checkpoint checkpoints) ∙ found)

  pub before_within : checkpoint_before checkpoints place ≤ place
  unfolding checkpoint_before
  before_within = ⊎_elim (λ none. omega (arith, none)) (λ found. grind (arith, nat_tests, (earlier_parts (greatest earlier) found).0))
      (greatest_reached earlier)

  pub before_is_last : has 0 checkpoints ≡ true → IsLastBefore checkpoints place (checkpoint_before checkpoints place)
  unfolding checkpoint_before
  before_is_last start =
      let zero_there = is_earlier 0 start (omega arith) in
      let there : has (greatest earlier) earlier ≡ true = ⊎_elim (λ none. ap (λ n. has n earlier) none ∙ zero_there) (λ found. found) (greatest_reached earlier)
      in
      let parts = earlier_parts (greatest earlier) there in
      record {
        listed = parts.1;
        before = grind (arith, nat_tests, parts.0);
        last = λ other listed before. greatest_each other earlier (is_earlier other listed before);
      }

  -- a checkpoint that is near is no nearer than the last
  pub near_by : (checkpoint far : ℕ) → has 0 checkpoints ≡ true → has checkpoint checkpoints ≡ true → checkpoint ≤ place → place < checkpoint + far → place <
      checkpoint_before checkpoints place + far
  near_by checkpoint far start listed before near = omega (arith, near, (before_is_last start).last checkpoint listed before)

-- where each place but the start has a checkpoint before it and near it, each segment is short
module _ (span last : ℕ) (checkpoints : List ℕ) where
  abbrev NearOne : ℕ → Type 0
  NearOne place = (checkpoint : ℕ) × (has checkpoint checkpoints ≡ true) × (checkpoint < place) × (place < checkpoint + 2 * span)

  segment_first : (checkpoint next : ℕ) → has next checkpoints ≡ true → checkpoint < next → segment_end last checkpoints checkpoint ≤ next
  segment_first checkpoint next listed past =
      let so : ltb checkpoint next ≡ true = grind (arith, nat_tests, past) in
      least_each last next (filter (λ next. ltb checkpoint next) checkpoints)
      (has-filter (λ next. ltb checkpoint next) next checkpoints ∙ ap₂ (λ a b. a && b) so listed)

  segment_from : (bound checkpoint : ℕ) → bound ≤ last → ((next : ℕ) → has next checkpoints ≡ true → checkpoint < next → bound ≤ next) → bound ≤ segment_end
      last checkpoints checkpoint
  segment_from bound checkpoint within each =
      least_from bound last (filter (λ next. ltb checkpoint next) checkpoints) within (λ next found.
      let parts = and_parts (ltb checkpoint next) (has next checkpoints) (sym (has-filter (λ next. ltb checkpoint next) next checkpoints) ∙ found) in
      let past : checkpoint < next = grind (arith, nat_tests, parts.0) in
      each next parts.1 past)

  segment_within : (checkpoint : ℕ) → segment_end last checkpoints checkpoint ≤ last
  segment_within checkpoint = least_within last (filter (λ next. ltb checkpoint next) checkpoints)

  short_by : 1 ≤ span → ((place : ℕ) → 0 < place → place ≤ last → NearOne place) → (checkpoint : ℕ) → segment_end last checkpoints checkpoint < checkpoint + 2 *
      span
  short_by some near checkpoint = at (ltb checkpoint end) refl
    where
      end : ℕ
      end = segment_end last checkpoints checkpoint

      at : (b : Bool) → ltb checkpoint end ≡ b → end < checkpoint + 2 * span
      at false is =
          let low : end ≤ checkpoint = grind (arith, nat_tests, is) in
          omega (arith, low, some)
      at true is =
          let past : checkpoint < end = grind (arith, nat_tests, is) in
          let one = near end (omega (arith, past)) (segment_within checkpoint) in
          before one.0 one.2 one.3 (segment_first checkpoint one.0 one.1)
        where
          before : (q : ℕ) → q < end → end < q + 2 * span → (checkpoint < q → end ≤ q) → end < checkpoint + 2 * span
          before q low close later = by (ltb checkpoint q) refl
            where
              by : (b : Bool) → ltb checkpoint q ≡ b → end < checkpoint + 2 * span
              by true is =
                  let past : checkpoint < q = grind (arith, nat_tests, is) in
                  absurd (omega (arith, later past, low))
              by false is =
                  let not : q ≤ checkpoint = grind (arith, nat_tests, is) in
                  omega (arith, not, close)

-- ---- places that pass a test, in order

numbers_ascend : (n : ℕ) → IsStrictlyIncreasing (numbers n)
numbers_ascend n k within =
    let long = length-range_with_len 0 n in
    omega (arith, within, long, get_or-range_with_len 0 n k 0 (omega (arith, within, long)), get_or-range_with_len 0 n (k + 1) 0 (omega (arith, within, long)))

module _ (test : ℕ → Bool) (top : ℕ) where
  abbrev passing : List ℕ
  passing = filter test (numbers (suc top))

  is_passing : (n : ℕ) → n ≤ top → test n ≡ true → has n passing ≡ true
  is_passing n within passes = has-filter test n (numbers (suc top)) ∙ ap₂ (λ a b. a && b) passes (numbers_have (suc top) n (omega (arith, within)))

  starts_passing : test 0 ≡ true → slice_get passing 0 ≡ Some 0
  starts_passing passes = ap (λ b. slice_get (cond b (0 ∷ filter test (range_with_len 1 top)) (filter test (range_with_len 1 top))) 0) passes

  within_passing : (last : ℕ) → top ≤ last → All (λ n. n ≤ last) passing
  within_passing last high = All-from_recursion (λ n. n ≤ last) passing (All-weaker (λ n. n < suc top) (λ n. n ≤ last) (λ n low. omega (arith, low, high))
      passing (All-filter (λ n. n < suc top) test (numbers (suc top)) (numbers_below (suc top))))

  pub passing_fit : (span last : ℕ) → 1 ≤ span → top ≤ last → test 0 ≡ true →
      ((place : ℕ) → 0 < place → place ≤ last → (n : ℕ) × (n ≤ top) × (test n ≡ true) × (n < place) × (place < n + 2 * span)) → AreCheckpoints span last passing
  passing_fit span last some high passes near = record {
    start = starts_passing passes;
    ascend = IsStrictlyIncreasing-filter test (numbers (suc top)) (numbers_ascend (suc top));
    within = within_passing last high;
    short = λ checkpoint listed.
        short_by span last passing some
        (λ place late within. let by = near place late within in (by.0, is_passing by.0 by.1 by.2, by.3, by.4))
        checkpoint;
  }

-- ---- at the opening

first_near : (span n place : ℕ) → 1 ≤ span → 0 < place → place ≤ n → (c : ℕ) × (c ≤ n - 1) × (eqb (c % span) 0 ≡ true) × (c < place) × (place < c + 2 * span)
first_near span n place some late within =
    let c : ℕ = (place - 1) / span * span in
    let low = div-mul-le_self (place - 1) span in
    let left = div-add-mod' (place - 1) span in
    let below = mod-lt (place - 1) some in
    let multiple : c % span ≡ 0 = mul-mod_left ((place - 1) / span) span in
    let so : eqb (c % span) 0 ≡ true = grind (arith, nat_tests, multiple) in
    (c, omega (arith, low, within), so, omega (arith, low, late), omega (arith, left, below, some))

pub first_fit : (span : ℕ) (session : Session) → 1 ≤ span → AreCheckpoints span (last_place session) (first_checkpoints span session)
first_fit span session some =
    let n = last_place session in
    let same : suc (n - 1) ≡ max 1 n = omega arith in
    let none : 0 % span ≡ 0 = mod-eq_of_lt some in
    let so : eqb (0 % span) 0 ≡ true = grind (arith, nat_tests, none) in
    subst (λ count. AreCheckpoints span n (filter (λ place. eqb (place % span) 0) (numbers count))) same
    (passing_fit (λ place. eqb (place % span) 0) (n - 1) span n some (omega arith) so (λ place late within. first_near span n place some late within))

-- ---- after an edit

-- the checkpoints of a session, as a list that has them
module _ (span last : ℕ) (checkpoints : List ℕ) (fit : AreCheckpoints span last checkpoints) where
  has_start : has 0 checkpoints ≡ true
  has_start = at checkpoints fit.start
    where
      at : (places : List ℕ) → slice_get places 0 ≡ Some 0 → has 0 places ≡ true
      at [] first = absurd (cc first)
      at (place ∷ places) first =
          let same : place ≡ 0 = cc first in
          ap (λ n. has 0 (n ∷ places)) same ∙ has_first 0 places

  listed_within : (checkpoint : ℕ) → has checkpoint checkpoints ≡ true → checkpoint ≤ last
  listed_within checkpoint listed = All-has (λ n. n ≤ last) checkpoint checkpoints (recursion_from_All (λ n. n ≤ last) checkpoints fit.within) listed

  -- each place but the start has a checkpoint before it and near it
  near_one : (place : ℕ) → 0 < place → place ≤ last → NearOne span last checkpoints place
  near_one place late within =
      let is = before_is_last checkpoints (place - 1) has_start in
      let q = checkpoint_before checkpoints (place - 1) in
      let far = segment_from span last checkpoints place q within (λ next listed past. not_before next place late (λ before. is.last next listed before) past)
      in
      (q, is.listed, omega (arith, late, is.before), omega (arith, far, fit.short q is.listed))
    where
      not_before : {q : ℕ} (next place : ℕ) → 0 < place → (next ≤ place - 1 → next ≤ q) → q < next → place ≤ next
      not_before {q} next place late none past = at (leb place next) refl
        where
          at : (b : Bool) → leb place next ≡ b → place ≤ next
          at true is = grind (arith, nat_tests, is)
          at false is =
              let before : next < place = grind (arith, nat_tests, is) in
              let early : next ≤ place - 1 = omega (arith, before) in
              absurd (omega (arith, none early, past))

pub places_near : (span last : ℕ) (checkpoints : List ℕ) (place : ℕ) → 1 ≤ span → AreCheckpoints span last checkpoints → place ≤ last → place <
    checkpoint_before checkpoints place + 2 * span
places_near span last checkpoints zero some fit within = omega (arith, some)
places_near span last checkpoints (suc place) some fit within =
    let near = near_one span last checkpoints fit (suc place) (omega arith) within in
    near_by checkpoints (suc place) near.0 (2 * span) (has_start span last checkpoints fit) near.1 (omega (arith, near.2)) near.3

-- a place of the edited session is fewer than two spans after a checkpoint that has moved; or it is
-- just two spans after one, as an inserted step lies between them
abbrev IsLonger : CheckpointedSession → Edit → ℕ → ℕ → Type 0
IsLonger kept edit checkpoint place =
    (place ≡ checkpoint + 2 * kept.span) × (checkpoint ≤ place_of edit) × (place_of edit < place)
    × ((other : ℕ) → is_compared edit other ≡ true → checkpoint < moved_place edit other)

abbrev NearMoved : CheckpointedSession → Edit → ℕ → Type 0
NearMoved kept edit place =
    (checkpoint : ℕ) × (has checkpoint kept.checkpoints ≡ true) × (moved_place edit checkpoint < place)
    × ((place < moved_place edit checkpoint + 2 * kept.span) ⊎ IsLonger kept edit checkpoint place)

module _ (kept : CheckpointedSession) (some : 1 ≤ kept.span) (fit : AreCheckpoints kept.span (last_place kept.session) kept.checkpoints) where
  abbrev near_old : (place : ℕ) → 0 < place → place ≤ last_place kept.session → NearOne kept.span (last_place kept.session) kept.checkpoints place
  near_old = near_one kept.span (last_place kept.session) kept.checkpoints fit

  near_before : (edit : Edit) (place : ℕ) → 0 < place → place ≤ last_place kept.session → place ≤ place_of edit → NearMoved kept edit place
  near_before edit place late within before =
      let near = near_old place late within in
      let stays = stays_before edit near.0 (omega (arith, before, near.2)) in
      (near.0, near.1, omega (arith, stays, near.2), inl (omega (arith, stays, near.3)))

  near_inserted : (at : ℕ) (step : Step) (place : ℕ) → accepted kept.session (Insert at step) ≡ Ok tt → at < place → place ≤ last_place
      (edited (Insert at step) kept.session) → NearMoved kept (Insert at step) place
  near_inserted at step place accepts past within = by (ltb 1 place) refl
    where
      edit : Edit
      edit = Insert at step

      fits : (q : ℕ) → q < place - 1 → place - 1 < q + 2 * kept.span → (b : Bool) → ltb at q ≡ b → (c : Bool) → ltb place (q + 2 * kept.span) ≡ c →
          (place < moved_place (Insert at step) q + 2 * kept.span) ⊎ IsLonger kept (Insert at step) q place
      fits q low close true is c short =
          let later : at < q = grind (arith, nat_tests, is) in
          inl (omega (arith, close, inserted_after at q step later))
      fits q low close false is true short =
          let near : place < q + 2 * kept.span = grind (arith, nat_tests, short) in
          inl (omega (arith, near, (insert_bounds at step q).0))
      fits q low close false is false short =
          let before : q ≤ at = grind (arith, nat_tests, is) in
          let far : q + 2 * kept.span ≤ place = grind (arith, nat_tests, short) in
          inr (
            omega (arith, far, close),
            before,
            past,
            λ other compared.
                let after = is_after at other compared in
                omega (arith, before, after, inserted_after at other step after),
          )

      by : (b : Bool) → ltb 1 place ≡ b → NearMoved kept (Insert at step) place
      by true is =
          let late : 1 < place = grind (arith, nat_tests, is) in
          let near = near_old (place - 1) (omega (arith, late)) (omega (arith, within, last_after_insert kept.session at step accepts)) in
          let moved = insert_bounds at step near.0 in
          (near.0, near.1, omega (arith, late, moved.1, near.2), fits near.0 near.2 near.3 (ltb at near.0) refl (ltb place (near.0 + 2 * kept.span)) refl)
      by false is =
          let early : place ≤ 1 = grind (arith, nat_tests, is) in
          let stays = stays_before (Insert at step) 0 (omega arith) in
          (0, has_start kept.span (last_place kept.session) kept.checkpoints fit, omega (arith, stays, past), inl (omega (arith, stays, early, some)))

  near_removed : (at place : ℕ) → accepted kept.session (Remove at) ≡ Ok tt → at < place → place ≤ last_place (edited (Remove at) kept.session) → NearMoved kept
      (Remove at) place
  near_removed at place accepts past within =
      let near = near_old (place + 1) (omega arith) (omega (arith, within, last_after_remove kept.session at accepts)) in
      let moved = remove_bounds at near.0 place (omega (arith, near.2)) past in
      (near.0, near.1, moved.0, inl (omega (arith, near.3, moved.1)))

  near_moved : (edit : Edit) (place : ℕ) → accepted kept.session edit ≡ Ok tt → 0 < place → place ≤ last_place (edited edit kept.session) → NearMoved kept edit
      place
  near_moved (Insert at step) place accepts late within = by (leb place at) refl
    where
      by : (b : Bool) → leb place at ≡ b → NearMoved kept (Insert at step) place
      by true is =
          let before : place ≤ at = grind (arith, nat_tests, is) in
          near_before (Insert at step) place late (omega (arith, before, edit_there kept.session (Insert at step) accepts)) before
      by false is = near_inserted at step place accepts (grind (arith, nat_tests, is)) within
  near_moved (Remove at) place accepts late within = by (leb place at) refl
    where
      by : (b : Bool) → leb place at ≡ b → NearMoved kept (Remove at) place
      by true is = near_before (Remove at) place late (omega (arith, within, last_after_remove kept.session at accepts)) (grind (arith, nat_tests, is))
      by false is = near_removed at place accepts (grind (arith, nat_tests, is)) within
  near_moved (Replace at step) place accepts late within =
      let near = near_old place late (omega (arith, within, length-set kept.session.steps at step)) in
      (near.0, near.1, near.2, inl near.3)
  near_moved (ChangeTask task priority mask) place accepts late within =
      let near = near_old place late within in
      (near.0, near.1, near.2, inl near.3)

-- where each place is at most two spans after one of the places, it is fewer after one of them or of
-- those that are added
module _ (span last : ℕ) (places : List ℕ) (some : 1 ≤ span) (start : has 0 places ≡ true) where
  kept_one : (n : ℕ) → has n places ≡ true → (has n places || is_added span last places n) ≡ true
  kept_one n listed = ap (λ b. b || is_added span last places n) listed

  added_one : (n : ℕ) → is_added span last places n ≡ true → (has n places || is_added span last places n) ≡ true
  added_one n added = at (has n places)
    where
      at : (b : Bool) → (b || is_added span last places n) ≡ true
      at true = refl
      at false = added

  -- a checkpoint whose segment has two spans
  added_after : (c place : ℕ) → IsLastBefore places (place - 1) c → 0 < place → place ≤ last → place ≡ c + 2 * span → is_added span last places (c + span) ≡
      true
  added_after c place is late within far =
      let long = segment_from span last places (c + 2 * span) c (omega (arith, far, within)) (λ next listed past. not_before next past (is.last next listed)) in
      let here : eqb (c + span) (c + span) ≡ true = grind (arith, nat_tests) in
      let so : leb (c + 2 * span) (segment_end last places c) ≡ true = grind (arith, nat_tests, long) in
      list_any_at (λ checkpoint. eqb (checkpoint + span) (c + span) && leb (checkpoint + 2 * span) (segment_end last places checkpoint)) c places is.listed
      (ap₂ (λ a b. a && b) here so)
    where
      not_before : (next : ℕ) → c < next → (next ≤ place - 1 → next ≤ c) → c + 2 * span ≤ next
      not_before next past none = at (leb next (place - 1)) refl
        where
          at : (b : Bool) → leb next (place - 1) ≡ b → c + 2 * span ≤ next
          at true is =
              let before : next ≤ place - 1 = grind (arith, nat_tests, is) in
              absurd (omega (arith, none before, past))
          at false is =
              let later : place - 1 < next = grind (arith, nat_tests, is) in
              omega (arith, later, far)

  near_added : (place near : ℕ) → 0 < place → place ≤ last → has near places ≡ true → near < place → place ≤ near + 2 * span → (n : ℕ) × (n ≤ last) ×
      ((has n places || is_added span last places n) ≡ true) × (n < place) × (place < n + 2 * span)
  near_added place near late within listed before close = by (ltb place (c + 2 * span)) refl
    where
      c : ℕ
      c = checkpoint_before places (place - 1)

      is : IsLastBefore places (place - 1) (checkpoint_before places (place - 1))
      is = before_is_last places (place - 1) start

      by : (b : Bool) → ltb place (c + 2 * span) ≡ b → (n : ℕ) × (n ≤ last) × ((has n places || is_added span last places n) ≡ true) × (n < place) ×
          (place < n + 2 * span)
      by true so =
          let short : place < c + 2 * span = grind (arith, nat_tests, so) in
          (c, omega (arith, is.before, within), kept_one c is.listed, omega (arith, is.before, late), short)
      by false so =
          let long : c + 2 * span ≤ place = grind (arith, nat_tests, so) in
          let nearer : near ≤ c = is.last near listed (omega (arith, before)) in
          let far : place ≡ c + 2 * span = omega (arith, long, close, nearer) in (
            c + span,
            omega (arith, far, within),
            added_one (c + span) (added_after c place is late within far),
            omega (arith, far, some),
            omega
                (arith, far, some),
          )

-- a checkpoint of the session lies where it has moved to
module _ (kept : CheckpointedSession) (edit : Edit) (accepts : accepted kept.session edit ≡ Ok tt)
    (fit : AreCheckpoints kept.span (last_place kept.session) kept.checkpoints) where
  moved_listed : (checkpoint : ℕ) → has checkpoint kept.checkpoints ≡ true → has (moved_place edit checkpoint) (moved_checkpoints kept edit) ≡ true
  moved_listed checkpoint listed =
      let within = listed_within kept.span (last_place kept.session) kept.checkpoints fit checkpoint listed in
      let same : eqb (moved_place edit checkpoint) (moved_place edit checkpoint) ≡ true = grind (arith, nat_tests) in
      is_passing (λ place. list_any (λ checkpoint. eqb (moved_place edit checkpoint) place) kept.checkpoints) (last_place (edited edit kept.session))
      (moved_place edit checkpoint) (moved_within kept.session edit checkpoint accepts within)
      (list_any_at (λ other. eqb (moved_place edit other) (moved_place edit checkpoint)) checkpoint kept.checkpoints listed same)

  start_moved : has 0 (moved_checkpoints kept edit) ≡ true
  start_moved =
      sym (ap (λ n. has n (moved_checkpoints kept edit)) (stays_before edit 0 (omega arith)))
      ∙ moved_listed 0 (has_start kept.span (last_place kept.session) kept.checkpoints fit)

-- at most two spans in either case
moved_close : (kept : CheckpointedSession) (edit : Edit) (checkpoint place : ℕ) → (place < moved_place edit checkpoint + 2 * kept.span) ⊎ IsLonger kept edit
    checkpoint place → place ≤ moved_place edit checkpoint + 2 * kept.span
moved_close kept edit checkpoint place (inl near) = omega (arith, near)
moved_close kept edit checkpoint place (inr longer) = omega (arith, longer.0, stays_before edit checkpoint longer.1)

pub next_fit : (kept : CheckpointedSession) (edit : Edit) → 1 ≤ kept.span → accepted kept.session edit ≡ Ok tt → AreCheckpoints kept.span
    (last_place kept.session) kept.checkpoints → AreCheckpoints kept.span (last_place (edited edit kept.session)) (next_checkpoints kept edit)
next_fit kept edit some accepts fit =
    let last = last_place (edited edit kept.session) in
    let places = moved_checkpoints kept edit in
    let start = start_moved kept edit accepts fit in
    passing_fit (λ place. has place places || is_added kept.span last places place) last kept.span last some (omega arith)
    (kept_one kept.span last places some start 0 start)
    (λ place late within.
    let near = near_moved kept some fit edit place accepts late within in
    near_added kept.span last places some start place (moved_place edit near.0) late within (moved_listed kept edit accepts fit near.0 near.1) near.2
    (moved_close kept edit near.0 place near.3))

-- ---- the checkpoint that is added

module _ (kept : CheckpointedSession) (edit : Edit) (some : 1 ≤ kept.span) (accepts : accepted kept.session edit ≡ Ok tt)
    (fit : AreCheckpoints kept.span (last_place kept.session) kept.checkpoints) where
  -- no checkpoint lies between c and two spans after it
  module _ (c : ℕ) (long : c + 2 * kept.span ≤ segment_end (last_place (edited edit kept.session)) (moved_checkpoints kept edit) c) where
    not_between : (checkpoint : ℕ) → has checkpoint kept.checkpoints ≡ true → c < moved_place edit checkpoint → c + 2 * kept.span ≤ moved_place edit checkpoint
    not_between checkpoint listed past =
        omega (
          arith,
          long,
          segment_first kept.span (last_place (edited edit kept.session)) (moved_checkpoints kept edit) c (moved_place edit checkpoint)
              (moved_listed kept edit accepts fit checkpoint listed) past,
        )

    not_past : (checkpoint : ℕ) → has checkpoint kept.checkpoints ≡ true → moved_place edit checkpoint < c + 2 * kept.span → moved_place edit checkpoint ≤ c
    not_past checkpoint listed low = at (ltb c (moved_place edit checkpoint)) refl
      where
        at : (b : Bool) → ltb c (moved_place edit checkpoint) ≡ b → moved_place edit checkpoint ≤ c
        at true is =
            let past : c < moved_place edit checkpoint = grind (arith, nat_tests, is) in
            absurd (omega (arith, not_between checkpoint listed past, low))
        at false is = grind (arith, nat_tests, is)

    begins_there : (q : ℕ) → has q kept.checkpoints ≡ true → q ≡ c → q ≤ place_of edit → place_of edit < c + 2 * kept.span → c ≡ replayed_from kept edit
    begins_there q listed same before past =
        let is = before_is_last kept.checkpoints (place_of edit) (has_start kept.span (last_place kept.session) kept.checkpoints fit) in
        let from = replayed_from kept edit in
        let stays = stays_before edit from is.before in
        let low = not_past from is.listed (omega (arith, stays, is.before, past)) in
        omega (arith, same, stays, low, is.last q listed before)

    longer_there : (q : ℕ) → has q kept.checkpoints ≡ true → moved_place edit q < c + 2 * kept.span → (c + 2 * kept.span < moved_place edit q + 2 * kept.span) ⊎
        IsLonger kept edit q (c + 2 * kept.span) → (c ≡ replayed_from kept edit) × (c + 2 * kept.span ≤ met kept edit)
    longer_there q listed low (inl near) = absurd (omega (arith, near, not_past q listed low))
    longer_there q listed low (inr longer) =
        let same : q ≡ c = omega (arith, longer.0) in
        let within = segment_within kept.span (last_place (edited edit kept.session)) (moved_checkpoints kept edit) c in (
          begins_there q listed same longer.1 longer.2,
          met_after kept edit (c + 2 * kept.span) (omega (arith, long, within))
              (λ other there compared. not_between other there (omega (arith, same, longer.3 other compared))),
        )

  -- so a checkpoint that has no other for two spans is where the replay begins
  long_is_first : (c : ℕ) → c + 2 * kept.span ≤ segment_end (last_place (edited edit kept.session)) (moved_checkpoints kept edit) c →
      (c ≡ replayed_from kept edit) × (c + 2 * kept.span ≤ met kept edit)
  long_is_first c long =
      let within = segment_within kept.span (last_place (edited edit kept.session)) (moved_checkpoints kept edit) c in
      let near = near_moved kept some fit edit (c + 2 * kept.span) accepts (omega (arith, some)) (omega (arith, long, within)) in
      longer_there c long near.0 near.1 near.2 near.3

  pub added_is_replayed : (place : ℕ) → IsAdded kept edit place → place + kept.span ≤ met kept edit
  added_is_replayed place added = omega (arith, added.0, (long_is_first (replayed_from kept edit) added.1).1)

  -- ---- which places are checkpoints of the edited session

  abbrev next_test : ℕ → Bool
  next_test place = has place (moved_checkpoints kept edit) || is_added kept.span (last_place (edited edit kept.session)) (moved_checkpoints kept edit) place

  from_listed : has (replayed_from kept edit) (moved_checkpoints kept edit) ≡ true
  from_listed =
      let is = before_is_last kept.checkpoints (place_of edit) (has_start kept.span (last_place kept.session) kept.checkpoints fit) in
      sym (ap (λ n. has n (moved_checkpoints kept edit)) (stays_before edit (replayed_from kept edit) is.before)) ∙ moved_listed kept edit accepts fit
      (replayed_from kept edit) is.listed

  moved_to : (place : ℕ) → has place (moved_checkpoints kept edit) ≡ true → IsMoved kept edit place
  moved_to place listed =
      let test = λ (place : ℕ). list_any (λ checkpoint. eqb (moved_place edit checkpoint) place) kept.checkpoints in
      let all = numbers (suc (last_place (edited edit kept.session))) in
      let parts = and_parts (test place) (has place all) (sym (has-filter test place all) ∙ listed) in
      let found = any_found (λ checkpoint. eqb (moved_place edit checkpoint) place) kept.checkpoints parts.0 in
      let same : moved_place edit found.0 ≡ place = grind (arith, nat_tests, found.2) in
      (found.0, found.1, same)

  added_to : (place : ℕ) → is_added kept.span (last_place (edited edit kept.session)) (moved_checkpoints kept edit) place ≡ true → IsAdded kept edit place
  added_to place added =
      let last = last_place (edited edit kept.session) in
      let places = moved_checkpoints kept edit in
      let found = any_found (λ checkpoint. eqb (checkpoint + kept.span) place && leb (checkpoint + 2 * kept.span) (segment_end last places checkpoint)) places
      added in
      let parts = and_parts (eqb (found.0 + kept.span) place) (leb (found.0 + 2 * kept.span) (segment_end last places found.0)) found.2 in
      let here : found.0 + kept.span ≡ place = grind (arith, nat_tests, parts.0) in
      let long : found.0 + 2 * kept.span ≤ segment_end last places found.0 = grind (arith, nat_tests, parts.1) in
      let first = (long_is_first found.0 long).0 in
      (omega (arith, here, first), subst (λ c. c + 2 * kept.span ≤ segment_end last places c) first long)

  one_of_these : (place : ℕ) → has place (next_checkpoints kept edit) ≡ true → IsMoved kept edit place ⊎ IsAdded kept edit place
  one_of_these place listed = at (has place (moved_checkpoints kept edit)) refl
      (and_parts (next_test place) (has place all) (sym (has-filter next_test place all) ∙ listed)).0
    where
      all : List ℕ
      all = numbers (suc (last_place (edited edit kept.session)))

      at : (b : Bool) → has place (moved_checkpoints kept edit) ≡ b → (b || is_added kept.span (last_place (edited edit kept.session))
          (moved_checkpoints kept edit) place) ≡ true → IsMoved kept edit place ⊎ IsAdded kept edit place
      at true is passes = inl (moved_to place is)
      at false is passes = inr (added_to place passes)

  these_are_listed : (place : ℕ) → IsMoved kept edit place ⊎ IsAdded kept edit place → has place (next_checkpoints kept edit) ≡ true
  these_are_listed place (inl moved) =
      let last = last_place (edited edit kept.session) in
      let places = moved_checkpoints kept edit in
      let within = moved_within kept.session edit moved.0 accepts (listed_within kept.span (last_place kept.session) kept.checkpoints fit moved.0 moved.1) in
      let listed = ap (λ n. has n places) (sym moved.2) ∙ moved_listed kept edit accepts fit moved.0 moved.1 in
      is_passing next_test last place (omega (arith, moved.2, within)) (kept_one kept.span last places some (start_moved kept edit accepts fit) place listed)
  these_are_listed place (inr added) =
      let last = last_place (edited edit kept.session) in
      let places = moved_checkpoints kept edit in
      let from = replayed_from kept edit in
      let within = segment_within kept.span last places from in
      let here : eqb (from + kept.span) place ≡ true = grind (arith, nat_tests, added.0) in
      let so : leb (from + 2 * kept.span) (segment_end last places from) ≡ true = grind (arith, nat_tests, added.1) in
      let is = list_any_at (λ checkpoint. eqb (checkpoint + kept.span) place && leb (checkpoint + 2 * kept.span) (segment_end last places checkpoint)) from
      places from_listed (ap₂ (λ a b. a && b) here so) in
      is_passing next_test last place (omega (arith, added.0, added.1, within))
      (added_one kept.span last places some (start_moved kept edit accepts fit) place is)

  pub next_are_these : (place : ℕ) → (has place (next_checkpoints kept edit) ≡ true) ↔ (IsMoved kept edit place ⊎ IsAdded kept edit place)
  next_are_these place = (one_of_these place, these_are_listed place)

-- ---- ascending places

rest_pairs : (x : ℕ) (xs : List ℕ) → AllPairs (λ a b. a < b) (x ∷ xs) → AllPairs (λ a b. a < b) xs
rest_pairs x xs pairs i j d low within = pairs (suc i) (suc j) d (omega (arith, low)) (omega (arith, within))

first_below : (x place : ℕ) (xs : List ℕ) → AllPairs (λ a b. a < b) (x ∷ xs) → has place xs ≡ true → x < place
first_below x place xs pairs listed =
    let all : All (λ b. x < b) xs = λ k d within. pairs zero (suc k) d (omega arith) (omega (arith, within)) in
    All-has (λ b. x < b) place xs (recursion_from_All (λ b. x < b) xs all) listed

first_or_rest : (first place : ℕ) (places : List ℕ) → has place (first ∷ places) ≡ true → (first ≡ place) ⊎ (has place places ≡ true)
first_or_rest first place places found = at (eqb first place) refl
  where
    at : (b : Bool) → eqb first place ≡ b → (first ≡ place) ⊎ (has place places ≡ true)
    at true is = inl (grind (arith, nat_tests, is))
    at false is = inr (has_later first place places is found)

same_first : (x y : ℕ) (xs ys : List ℕ) → AllPairs (λ a b. a < b) (x ∷ xs) → AllPairs (λ a b. a < b) (y ∷ ys) → has x (y ∷ ys) ≡ true → has y (x ∷ xs) ≡ true →
    x ≡ y
same_first x y xs ys up upward one other =
    ⊎_elim (λ same. sym same) (λ later. ⊎_elim (λ same. same) (λ earlier. absurd
    (omega (arith, first_below x y xs up earlier, first_below y x ys upward later))) (first_or_rest x y xs other)) (first_or_rest y x ys one)

same_rest : (x y place : ℕ) (xs ys : List ℕ) → x ≡ y → AllPairs (λ a b. a < b) (x ∷ xs) → (has place (x ∷ xs) ≡ true → has place (y ∷ ys) ≡ true) → has place xs
    ≡ true → has place ys ≡ true
same_rest x y place xs ys same up over listed =
    ⊎_elim (λ here. absurd (omega (arith, here, same, first_below x place xs up listed))) (λ later. later)
    (first_or_rest y place ys (over (has_rest x place xs listed)))

same_pairs : (xs ys : List ℕ) → AllPairs (λ a b. a < b) xs → AllPairs (λ a b. a < b) ys → ((place : ℕ) → (has place xs ≡ true) ↔ (has place ys ≡ true)) → xs ≡
    ys
same_pairs [] [] up upward same = refl
same_pairs [] (y ∷ ys) up upward same = absurd (cc ((same y).1 (has_first y ys)))
same_pairs (x ∷ xs) [] up upward same = absurd (cc ((same x).0 (has_first x xs)))
same_pairs (x ∷ xs) (y ∷ ys) up upward same =
    let first = same_first x y xs ys up upward ((same x).0 (has_first x xs)) ((same y).1 (has_first y ys)) in
    let rest = same_pairs xs ys (rest_pairs x xs up) (rest_pairs y ys upward)
    (λ place. (same_rest x y place xs ys first up (same place).0, same_rest y x place ys xs (sym first) upward (same place).1)) in
    ap₂ (λ z zs. z ∷ zs) first rest

pub ascending_are_one : (xs ys : List ℕ) → IsStrictlyIncreasing xs → IsStrictlyIncreasing ys → ((place : ℕ) → (has place xs ≡ true) ↔ (has place ys ≡ true)) →
    xs ≡ ys
ascending_are_one xs ys up upward same = same_pairs xs ys (AllPairs-from_increasing xs up) (AllPairs-from_increasing ys upward) same

-- ---- the replay between its two ends

pub replay_is_within : (kept : CheckpointedSession) (edit : Edit) → accepted kept.session edit ≡ Ok tt → (replayed_from kept edit ≤ met kept edit) ×
    (met kept edit ≤ last_place (edited edit kept.session))
replay_is_within kept edit accepts = (omega (arith, before_within kept.checkpoints (place_of edit), met_from kept edit accepts), met_within kept edit)
