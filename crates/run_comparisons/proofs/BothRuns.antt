-- Each step of two settled runs stands in one row, in its order, and each shared event in a row of both.
use Rattle.std.proofs.Common.{◌≡◌, ℕ, zero, suc, ◌+◌, ◌-◌, ◌≤◌, ◌<◌, Bool, true, false, cond, List, [], ◌∷◌, ◌++◌, length, take, get_or, flat_map, Option, Some}
use Rattle.std.proofs.Common.{None, refl, ap, ap₂, sym, subst, ◌∙◌, add-one, arith, inl, inr}
use Rattle.std.specs.Prelude.{◌⊎◌, All, Contains, slice_get}
use Rattle.std.specs.List.{cons_option, filter_map, range_with_len}
use Rattle.std.proofs.lemmas.Grind.{flat_map-append}
use Rattle.std.proofs.lemmas.List.{length-take-le}
use Rattle.std.proofs.lemmas.List.Elements.{All-cons, All-head, Contains-append_right}
use Rattle.std.proofs.lemmas.Option.{slice_get_cases, slice_get_within}
use Rattle.bench_types.specs.declared.step.Step.{Step}
use Rattle.run_comparisons.specs.declared.place_pair.PlacePair.{PlacePair}
use Rattle.run_comparisons.specs.declared.rows.Row.{Row}
use Rattle.run_comparisons.specs.declared.rows.Row.TheVariants.{Both, Removed, Inserted}
use Rattle.run_comparisons.specs.Alike.{are_alike}
use Rattle.run_comparisons.specs.Rows.{place_after, place_before}
use Rattle.run_comparisons.specs.SideBySide.{found_after, is_nearer, next_row, past, row_of, row_of_those, AreAligned, AreSideBySide, IsWithin}
use Rattle.run_comparisons.proofs.SharedPlaces.{Ascend}
use Rattle.run_comparisons.proofs.Tiling.{joined}

-- ---- one row

-- the row has the step at the place, and the next place is behind it, or it has none
abbrev pub Moves : (Row → List ℕ) → (PlacePair → ℕ) → List Step → PlacePair → Row → Type 0
Moves side pick steps at row =
    ((side row ≡ pick at ∷ []) × (pick (past row at) ≡ suc (pick at)) × (pick at < length steps))
    ⊎ ((side row ≡ []) × (pick (past row at) ≡ pick at))

past_end : (steps : List Step) (place : ℕ) → slice_get steps place ≡ None → length steps ≤ place
past_end steps place none = elim ((slice_get_cases steps place).1) [
  | inl there ↦ absurd (cc (none, there.2))
  | inr away ↦ away.0
]

pub before_moves : (before after : List Step) (at : PlacePair) (row : Row) → next_row before after at ≡ Some row → Moves place_before (λ pair. pair.before)
    before at row
before_moves before after at row next = of_those (slice_get before at.before) (slice_get after at.after) refl next
  where
    it : Row → Type 0
    it = Moves place_before (λ pair. pair.before) before at

    it_by : (one : Row) → one ≡ row → it one → it row
    it_by one is = subst it is

    of_two : at.before < length before → (alike near : Bool) → cond alike (Both at.before at.after) (cond near (Inserted at.after) (Removed at.before)) ≡ row →
        it row
    of_two low true near is = subst it is (inl (refl, refl, low))
    of_two low false true is = subst it is (inr (refl, refl))
    of_two low false false is = subst it is (inl (refl, refl, low))

    of_those : (old new : Option Step) → slice_get before at.before ≡ old → row_of_those before after at old new ≡ Some row → it row
    of_those None None found is = absurd (cc is)
    of_those (Some old) None found is = it_by (Removed at.before) (cc is) (inl (refl, refl, slice_get_within before at.before old found))
    of_those None (Some new) found is = it_by (Inserted at.after) (cc is) (inr (refl, refl))
    of_those (Some old) (Some new) found is =
        of_two (slice_get_within before at.before old found) (are_alike old new) (is_nearer (found_after old after at.after) (found_after new before at.before))
        (cc is)

pub after_moves : (before after : List Step) (at : PlacePair) (row : Row) → next_row before after at ≡ Some row → Moves place_after (λ pair. pair.after) after
    at row
after_moves before after at row next = of_those (slice_get before at.before) (slice_get after at.after) refl next
  where
    it : Row → Type 0
    it = Moves place_after (λ pair. pair.after) after at

    it_by : (one : Row) → one ≡ row → it one → it row
    it_by one is = subst it is

    of_two : at.after < length after → (alike near : Bool) → cond alike (Both at.before at.after) (cond near (Inserted at.after) (Removed at.before)) ≡ row → it
        row
    of_two low true near is = subst it is (inl (refl, refl, low))
    of_two low false true is = subst it is (inl (refl, refl, low))
    of_two low false false is = subst it is (inr (refl, refl))

    of_those : (old new : Option Step) → slice_get after at.after ≡ new → row_of_those before after at old new ≡ Some row → it row
    of_those None None found is = absurd (cc is)
    of_those (Some old) None found is = it_by (Removed at.before) (cc is) (inr (refl, refl))
    of_those None (Some new) found is = it_by (Inserted at.after) (cc is) (inl (refl, refl, slice_get_within after at.after new found))
    of_those (Some old) (Some new) found is =
        of_two (slice_get_within after at.after new found) (are_alike old new) (is_nearer (found_after old after at.after) (found_after new before at.before))
        (cc is)

-- there is none where no step is left
none_left : (before after : List Step) (at : PlacePair) → next_row before after at ≡ None → (slice_get before at.before ≡ None) ×
    (slice_get after at.after ≡ None)
none_left before after at none = of_those (slice_get before at.before) (slice_get after at.after) refl refl none
  where
    of_those : (old new : Option Step) → slice_get before at.before ≡ old → slice_get after at.after ≡ new → row_of_those before after at old new ≡ None →
        (slice_get before at.before ≡ None) × (slice_get after at.after ≡ None)
    of_those None None found met is = (found, met)
    of_those (Some old) None found met is = absurd (cc is)
    of_those None (Some new) found met is = absurd (cc is)
    of_those (Some old) (Some new) found met is = absurd (cc is)

-- ---- either side of the rows

module _ (side : Row → List ℕ) (pick : PlacePair → ℕ) (which : List Step → List Step → List Step)
    (moves : (before after : List Step) (at : PlacePair) (row : Row) → next_row before after at ≡ Some row → Moves side pick (which before after) at row)
    (ends : (before after : List Step) (at : PlacePair) → next_row before after at ≡ None → length (which before after) ≤ pick at)
    (alone : (event : PlacePair) → side (row_of event) ≡ pick event ∷ [])
    (behind : (event at : PlacePair) → pick (past (row_of event) at) ≡ suc (pick event))
    (cut : (event : PlacePair) (before after : List Step) → which (take event.before before) (take event.after after) ≡ take (pick event) (which before after))
  where
    -- the steps of a run from a place on
    abbrev from : List Step → List Step → ℕ → List ℕ
    from before after place = range_with_len place (length (which before after) - place)

    window_tiles : (before after : List Step) (at : PlacePair) (rows : List Row) → AreAligned before after at rows → pick at ≤ length (which before after) →
        flat_map side rows ≡ from before after (pick at)
    window_tiles before after at [] none low =
        let all : length (which before after) - pick at ≡ 0 = omega (arith, ends before after at none) in
        sym (ap (range_with_len (pick at)) all)
    window_tiles before after at (row ∷ rows) aligned low = elim (moves before after at row aligned.0) [
      | inl moved ↦
          let rest = window_tiles before after (past row at) rows aligned.1 (omega (arith, moved.1, moved.2)) in
          let one_less : length (which before after) - pick at ≡ suc (length (which before after) - suc (pick at)) = omega (arith, moved.2) in
          ap (λ list. list ++ flat_map side rows) moved.0
          ∙ ap (λ list. pick at ∷ list) (rest ∙ ap (from before after) moved.1 ∙ ap
          (λ place. range_with_len place (length (which before after) - suc (pick at)))
          (sym (add-one (pick at))))
          ∙ sym (ap (range_with_len (pick at)) one_less)
      | inr stayed ↦
          ap (λ list. list ++ flat_map side rows) stayed.0
          ∙ window_tiles before after (past row at) rows aligned.1 (omega (arith, low, stayed.1))
          ∙ ap (from before after) stayed.1
    ]

    run_tiles : (before after : List Step) (events : List PlacePair) (at : PlacePair) (rows : List Row) → AreSideBySide before after events at rows → Ascend
        pick
        (length (which before after)) (pick at) events → pick at ≤ length (which before after) → flat_map side rows ≡ from before after (pick at)
    run_tiles before after [] at rows aligned up low = window_tiles before after at rows aligned low
    run_tiles before after (event ∷ events) at rows aligned up low =
        let window = aligned.0 in
        let rest = aligned.1 in
        let size : length (which (take event.before before) (take event.after after)) ≡ pick event = ap (λ (list : List Step). length list)
        (cut event before after) ∙ length-take-le (pick event) (which before after) (omega (arith, up.1)) in
        let early = window_tiles (take event.before before) (take event.after after) at window aligned.3 (omega (arith, size, up.0)) in
        let late = run_tiles before after events (past (row_of event) at) rest aligned.4
        (subst (λ place. Ascend pick (length (which before after)) place events) (sym (behind event at)) up.2) (omega (arith, behind event at, up.1)) in
        let many = length (which before after) in
        ap (flat_map side) aligned.2 ∙ flat_map-append side window (row_of event ∷ rest)
        ∙ ap₂ (λ (xs ys : List ℕ). xs ++ ys) (early ∙ ap (λ n. range_with_len (pick at) (n - pick at)) size)
        (ap (λ list. list ++ flat_map side rest) (alone event) ∙ ap (λ list. pick event ∷ list)
        (late ∙ ap (from before after) (behind event at) ∙ ap (λ place. range_with_len place (many - suc (pick event))) (sym (add-one (pick event)))))
        ∙ joined (pick at) (pick event - pick at) (suc (many - suc (pick event))) (pick event) (many - pick at) (omega (arith, up.0))
        (omega (arith, up.0, up.1))

pub before_tiles : (before after : List Step) (events : List PlacePair) (at : PlacePair) (rows : List Row) → AreSideBySide before after events at rows → Ascend
    (λ pair. pair.before) (length before) at.before events → at.before ≤ length before → flat_map place_before rows ≡ range_with_len at.before
    (length before - at.before)
before_tiles = run_tiles place_before (λ pair. pair.before) (λ before after. before) before_moves
    (λ before after at none. past_end before at.before (none_left before after at none).0) (λ event. refl) (λ event at. refl) (λ event before after. refl)

pub after_tiles : (before after : List Step) (events : List PlacePair) (at : PlacePair) (rows : List Row) → AreSideBySide before after events at rows → Ascend
    (λ pair. pair.after) (length after) at.after events → at.after ≤ length after → flat_map place_after rows ≡ range_with_len at.after
    (length after - at.after)
after_tiles = run_tiles place_after (λ pair. pair.after) (λ before after. after) after_moves
    (λ before after at none. past_end after at.after (none_left before after at none).1) (λ event. refl) (λ event at. refl) (λ event before after. refl)

-- ---- each shared event

-- what a row gives is among what all give
pub given_there : {X Y : Type 0} (h : X → Option Y) (xs : List X) (k : ℕ) (x : X) (y : Y) → k < length xs → get_or xs k x ≡ x → h x ≡ Some y → Contains
    (filter_map h xs) y
given_there h [] k x y low is gives = absurd (omega (arith, low))
given_there {X} {Y} h (first ∷ xs) zero x y low is gives =
    let all : filter_map h (first ∷ xs) ≡ y ∷ filter_map h xs = ap (λ (o : Option Y). cons_option o (filter_map h xs)) (ap h is ∙ gives) in
    subst (λ (list : List Y). Contains list y) (sym all) (0, omega arith, refl)
given_there {X} {Y} h (first ∷ xs) (suc k) x y low is gives = at (given_there h xs k x y (omega (arith, low)) is gives) (h first)
  where
    at : Contains (filter_map h xs) y → (o : Option Y) → Contains (cons_option o (filter_map h xs)) y
    at there None = there
    at there (Some other) = Contains-append_right (other ∷ []) (filter_map h xs) y there

-- each shared event stands in a row
pub event_there : (before after : List Step) (events : List PlacePair) (at : PlacePair) (rows : List Row) → AreSideBySide before after events at rows → (k : ℕ)
    (pair : PlacePair) → k < length events → get_or events k pair ≡ pair → Contains rows (row_of pair)
event_there before after [] at rows aligned k pair low is = absurd (omega (arith, low))
event_there before after (event ∷ events) at rows aligned zero pair low is =
    subst (λ (list : List Row). Contains list (row_of pair)) (sym aligned.2)
    (Contains-append_right aligned.0 (row_of event ∷ aligned.1) (row_of pair) (0, omega arith, ap row_of is))
event_there before after (event ∷ events) at rows aligned (suc k) pair low is =
    let there = event_there before after events (past (row_of event) at) aligned.1 aligned.4 k pair (omega (arith, low)) is in
    subst (λ (list : List Row). Contains list (row_of pair)) (sym aligned.2)
    (Contains-append_right aligned.0 (row_of event ∷ aligned.1) (row_of pair) (Contains-append_right (row_of event ∷ []) aligned.1 (row_of pair) there))

-- ---- the places of a row

abbrev pub AreBelow : ℕ → List ℕ → Type 0
AreBelow most places = All (λ place. place < most) places

pub one_below : (most place : ℕ) (places : List ℕ) → places ≡ place ∷ [] → AreBelow most places → place < most
one_below most place places is below = All-head (λ n. n < most) place [] (subst (AreBelow most) is below)

none_below : (most : ℕ) → AreBelow most []
none_below most k d short = absurd (omega (arith, short))

below_one : (most place : ℕ) → place < most → AreBelow most (place ∷ [])
below_one most place low = All-cons (λ n. n < most) place [] low (none_below most)

-- those of the next row are places of steps
moved_below : (side : Row → List ℕ) (pick : PlacePair → ℕ) (steps : List Step) (at : PlacePair) (row : Row) (most : ℕ) → length steps ≤ most → Moves side pick
    steps at row → AreBelow most (side row)
moved_below side pick steps at row most few (inl moved) = subst (AreBelow most) (sym moved.0) (below_one most (pick at) (omega (arith, few, moved.2)))
moved_below side pick steps at row most few (inr stayed) = subst (AreBelow most) (sym stayed.0) (none_below most)

pub next_before : (before after : List Step) (at : PlacePair) (row : Row) (most : ℕ) → length before ≤ most → next_row before after at ≡ Some row → AreBelow
    most (place_before row)
next_before before after at row most few next = moved_below place_before (λ pair. pair.before) before at row most few (before_moves before after at row next)

pub next_after : (before after : List Step) (at : PlacePair) (row : Row) (most : ℕ) → length after ≤ most → next_row before after at ≡ Some row → AreBelow most
    (place_after row)
next_after before after at row most few next = moved_below place_after (λ pair. pair.after) after at row most few (after_moves before after at row next)

-- and so are those of an event
pub event_before : (before after : List Step) (event : PlacePair) (row : Row) (most : ℕ) → length before ≤ most → IsWithin before after event → row ≡ row_of
    event → AreBelow most (place_before row)
event_before before after event row most few within is = subst (λ (one : Row). AreBelow most (place_before one)) (sym is)
    (below_one most event.before (omega (arith, few, within.0)))

pub event_after : (before after : List Step) (event : PlacePair) (row : Row) (most : ℕ) → length after ≤ most → IsWithin before after event → row ≡ row_of event
    → AreBelow most (place_after row)
event_after before after event row most few within is = subst (λ (one : Row). AreBelow most (place_after one)) (sym is)
    (below_one most event.after (omega (arith, few, within.1)))

-- fewer steps are left behind a row
moved_on : (side : Row → List ℕ) (pick : PlacePair → ℕ) (steps : List Step) (at : PlacePair) (row : Row) → Moves side pick steps at row →
    (pick at ≤ pick (past row at)) × (length (side row) ≡ 0 → pick (past row at) ≡ pick at) ×
    (1 ≤ length (side row) → (pick at < pick (past row at)) × (pick at < length steps))
moved_on side pick steps at row (inl moved) =
    let one : length (side row) ≡ 1 = ap (λ (list : List ℕ). length list) moved.0 in (
      omega (arith, moved.1),
      λ none. absurd (omega (arith, one, none)),
      λ some. (omega (arith, moved.1), moved.2),
    )
moved_on side pick steps at row (inr stayed) =
    let none : length (side row) ≡ 0 = ap (λ (list : List ℕ). length list) stayed.0 in (
      omega (arith, stayed.1),
      λ is. stayed.1,
      λ some. absurd (omega (arith, none, some)),
    )

pub fewer_left : (before after : List Step) (at : PlacePair) (row : Row) → next_row before after at ≡ Some row → length before - (past row at).before +
    (length after - (past row at).after) < length before - at.before + (length after - at.after)
fewer_left before after at row next =
    let old = moved_on place_before (λ pair. pair.before) before at row (before_moves before after at row next) in
    let new = moved_on place_after (λ pair. pair.after) after at row (after_moves before after at row next) in
    at_row row old new
  where
    at_row : (one : Row)
        → (at.before ≤ (past row at).before) × (length (place_before one) ≡ 0 → (past row at).before ≡ at.before) ×
        (1 ≤ length (place_before one) → (at.before < (past row at).before) × (at.before < length before))
        → (at.after ≤ (past row at).after) × (length (place_after one) ≡ 0 → (past row at).after ≡ at.after) ×
        (1 ≤ length (place_after one) → (at.after < (past row at).after) × (at.after < length after))
        → length before - (past row at).before + (length after - (past row at).after) < length before - at.before + (length after - at.after)
    at_row (Both i j) old new = let one = old.2 (omega arith) in omega (arith, one, new.0)
    at_row (Removed i) old new = let one = old.2 (omega arith) in omega (arith, one, new.0)
    at_row (Inserted j) old new = let one = new.2 (omega arith) in omega (arith, one, old.0)
