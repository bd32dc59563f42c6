-- Where segments begin, one segment after another.
use Rattle.std.proofs.Common.{◌≡◌, ℕ, zero, suc, ◌+◌, ◌-◌, ◌^◌, ◌<◌, ◌≤◌, List, [], ◌∷◌, ◌++◌, length, map, take, drop, get_or, Some, refl, sym, ap, subst, ◌∙◌}
use Rattle.std.proofs.Common.{arith}
use Rattle.std.specs.Prelude.{slice_get}
use Rattle.std.specs.List.{splice}
use Rattle.std.proofs.lemmas.List.{length-append, length-take-le, length-drop, take_all, take_at, take_more, take-append-drop, take-take, map-append}
use Rattle.std.proofs.lemmas.List.{append-nil, append_assoc, map-id}
use Rattle.std.proofs.lemmas.Option.{get_or_from_slice_get, same_Some, slice_get_within}
use Rattle.bench_types.specs.declared.step.Step.{Step}
use Rattle.std.proofs.lemmas.List.Folds.{length-flat_map-take}
use Rattle.segment_laws.specs.Segments.{SegmentView, steps_of, all_steps, lengths, starts}
use Rattle.segment_laws.proofs.Following.{all_more}
use Rattle.segment_laws.proofs.Starts.{all_length, starts_append, starts_at}

-- the places of segments one after another
pub places_append : (place : ℕ) (xs ys : List SegmentView) → starts place (lengths (xs ++ ys)) ≡ starts place (lengths xs) ++ starts
    (place + length (all_steps xs)) (lengths ys)
places_append place xs ys =
    ap (starts place) (map-append (λ (s : SegmentView). length s.steps) xs ys) ∙ starts_append place (lengths xs) (lengths ys)
    ∙ ap (λ n. starts place (lengths xs) ++ starts (place + n) (lengths ys)) (sym (all_length xs))

pub steps_append : (xs ys : List SegmentView) → length (all_steps (xs ++ ys)) ≡ length (all_steps xs) + length (all_steps ys)
steps_append xs ys = ap length (all_more xs ys) ∙ length-append (all_steps xs) (all_steps ys)

-- what a loop over the segments has added
pub record HasPlaces (place : ℕ) (old new : List ℕ) (next : ℕ) (segments : List SegmentView) (i : ℕ) : Type 0 where
  pub places : new ≡ old ++ starts place (lengths (take i segments))
  pub next_is : next ≡ place + length (all_steps (take i segments))

pub place_more : (place : ℕ) (old new : List ℕ) (next : ℕ) (segments : List SegmentView) (i : ℕ) (segment : SegmentView) (steps : List Step) (pushed : List ℕ) →
    i < length segments → segment ≡ get_or segments i segment → steps ≡ segment.steps
    → pushed ≡ new ++ next ∷ [] → HasPlaces place old new next segments i → HasPlaces place old pushed (next + length steps) segments (i + 1)
place_more place old new next segments i segment steps pushed early read are push so_far =
    let before = take i segments in
    let taken : take (i + 1) segments ≡ before ++ segment ∷ [] = take_more segments i segment early ∙ ap (λ s. before ++ s ∷ []) (sym read) in
    let more = ap (λ xs. starts place (lengths xs)) taken ∙ places_append place before (segment ∷ []) in
    let last : length (all_steps (segment ∷ [])) ≡ length steps = ap length (append-nil segment.steps ∙ sym are) in
    record {
      places = push ∙ ap (λ ps. ps ++ next ∷ []) so_far.places ∙ append_assoc old (starts place (lengths before)) (next ∷ [])
          ∙ ap (λ n. old ++ (starts place (lengths before) ++ n ∷ [])) so_far.next_is ∙ ap (λ ps. old ++ ps) (sym more);
      next_is = ap (λ n. n + length steps) so_far.next_is ∙ omega (arith, last, ap (λ xs. length (all_steps xs)) taken, steps_append before (segment ∷ []));
    }

pub place_fits : (place next : ℕ) (old new : List ℕ) (segments : List SegmentView) (i : ℕ) (segment : SegmentView) (steps : List Step) → i < length segments →
    segment ≡ get_or segments i segment → steps ≡ segment.steps
    → place + length (all_steps segments) < 2 ^ 32 → HasPlaces place old new next segments i → next + length steps < 2 ^ 32
place_fits place next old new segments i segment steps early read are few so_far =
    let within : length (all_steps (take i segments)) + length segment.steps ≤ length (all_steps segments) =
    subst (λ (s : SegmentView). length (all_steps (take i segments)) + length s.steps ≤ length (all_steps segments)) (sym read)
    (length-flat_map-take steps_of segments i segment early) in
    omega (arith, few, so_far.next_is, within, ap (λ (ss : List Step). length ss) are)

-- the end of the last of the segments that have a place
pub end_found : (segments : List SegmentView) (n last : ℕ) (segment : SegmentView) → slice_get segments n ≡ Some segment → slice_get
    (starts 0 (lengths (take (n + 1) segments))) n ≡ Some last
    → last + length segment.steps ≡ length (all_steps (take (n + 1) segments))
end_found segments n last segment found replayable =
    let early = slice_get_within segments n segment found in
    let own : get_or segments n segment ≡ segment = get_or_from_slice_get segments n segment segment found in
    let taken : take (n + 1) segments ≡ take n segments ++ segment ∷ [] = take_more segments n segment early ∙ ap (λ s. take n segments ++ s ∷ []) own in
    let many : length (take (n + 1) segments) ≡ n + 1 = length-take-le (n + 1) segments (omega (arith, early)) in
    let before = ap (λ (ss : List SegmentView). length (all_steps ss)) (take-take n (n + 1) segments (omega arith)) in
    let begins : last ≡ 0 + length (all_steps (take n (take (n + 1) segments))) = same_Some last _
    (sym replayable ∙ starts_at (take (n + 1) segments) 0 n (omega (arith, many))) in
    let one : length (all_steps (segment ∷ [])) ≡ length segment.steps = ap length (append-nil segment.steps) in
    omega (arith, begins, before, one, ap (λ (ss : List SegmentView). length (all_steps ss)) taken, steps_append (take n segments) (segment ∷ []))

pub first_place : (place : ℕ) (segments : List SegmentView) → 0 < length segments → slice_get (starts place (lengths segments)) 0 ≡ Some place
first_place place [] some = absurd (omega (arith, some))
first_place place (segment ∷ segments) some = refl

pub places_count : (place : ℕ) (segments : List SegmentView) → length (starts place (lengths segments)) ≡ length segments
places_count place [] = refl
places_count place (segment ∷ segments) = ap (λ n. suc n) (places_count (place + length segment.steps) segments)

pub front_places : (n place : ℕ) (segments : List SegmentView) → take n (starts place (lengths segments)) ≡ starts place (lengths (take n segments))
front_places zero place segments = refl
front_places (suc n) place [] = refl
front_places (suc n) place (segment ∷ segments) = ap (λ ps. place ∷ ps) (front_places n (place + length segment.steps) segments)

-- what is put in place of a part leaves the front, and is as long as its parts
pub front_stays : {X : Type 0} (from : ℕ) (old made rest : List X) → from ≤ length old → take from (take from old ++ made ++ rest) ≡ take from old
front_stays from old made rest within = ap (take from) (append_assoc (take from old) made rest) ∙ take_at (take from old) (made ++ rest) from
    (length-take-le from old within)

pub parts_fit : {X : Type 0} (from to : ℕ) (old made : List X) → from ≤ to → to ≤ length old → length (take from old ++ made ++ drop to old) ≤ length old +
    length made
parts_fit from to old made order within =
    omega (
      arith,
      length-append (take from old ++ made) (drop to old),
      length-append (take from old) made,
      length-take-le from old
          (omega (arith, order, within)),
      length-drop to old,
      order,
    )

-- what is put in place of a part
pub parts_made : {X : Type 0} (from to : ℕ) (old made xs new : List X) → map (λ x. x) xs ≡ made → new ≡ splice old from to xs → new ≡ take from old ++ made ++
    drop to old
parts_made from to old made xs new drained put =
    let same : xs ≡ made = sym (map-id xs) ∙ drained in
    put ∙ ap (λ ys. take from old ++ (ys ++ drop to old)) same ∙ sym (append_assoc (take from old) made (drop to old))

-- the places of a front and of the rest
pub front_count : (from : ℕ) (front kept : List ℕ) (segments : List SegmentView) → from ≤ length segments → front ≡ starts 0 (lengths (take from segments)) →
    kept ≡ front → length kept ≡ from
front_count from front kept segments within placed same = ap (λ ps. length ps) (same ∙ placed) ∙ places_count 0 (take from segments) ∙ length-take-le from
    segments within

pub rest_taken : (from : ℕ) (segments : List SegmentView) → take (length segments - from) (drop from segments) ≡ drop from segments
rest_taken from segments = take_all (length segments - from) (drop from segments) (omega (arith, length-drop from segments))

pub front_end : (from : ℕ) (segments : List SegmentView) → length (all_steps (take from segments)) + length
    (all_steps (take (length segments - from) (drop from segments))) ≡ length (all_steps segments)
front_end from segments =
    ap (λ ss. length (all_steps (take from segments)) + length (all_steps ss)) (rest_taken from segments) ∙ sym
    (steps_append (take from segments) (drop from segments))
    ∙ ap (λ ss. length (all_steps ss)) (take-append-drop from segments)

pub all_placed : (from n : ℕ) (front new : List ℕ) (next : ℕ) (segments : List SegmentView) → front ≡ starts 0 (lengths (take from segments)) → length
    (take (length segments - from) (drop from segments)) ≤ n
    → HasPlaces (length (all_steps (take from segments))) front new next (take (length segments - from) (drop from segments)) n → new ≡ starts 0
    (lengths segments)
all_placed from n front new next segments placed all so_far =
    let before = take from segments in
    let base = length (all_steps before) in
    let zero_base : base ≡ 0 + base = omega arith in
    so_far.places ∙ ap (λ ss. front ++ starts base (lengths ss)) (take_all n (take (length segments - from) (drop from segments)) all ∙ rest_taken from
    segments)
    ∙ ap (λ ps. ps ++ starts base (lengths (drop from segments))) placed ∙ ap (λ b. starts 0 (lengths before) ++ starts b (lengths (drop from segments)))
    zero_base
    ∙ sym (places_append 0 before (drop from segments)) ∙ ap (λ ss. starts 0 (lengths ss)) (take-append-drop from segments)
