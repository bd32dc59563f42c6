-- Where what is in the way is told of first places alone, it is told of these.
use Rattle.std.proofs.Common.{◌≡◌, ◌<◌, ◌≤◌, ℕ, zero, suc, ◌+◌, ◌-◌, List, [], ◌∷◌, ◌++◌, filter, length, map, min, nat_le, Bool, true, false, Option, Some}
use Rattle.std.proofs.Common.{option_map, slice_get, refl, sym, ap, subst, ◌∙◌, add-one, arith}
use Rattle.std.specs.Prelude.{◌&&◌, All, if◌then◌else◌}
use Rattle.std.specs.List.{AllByRecursion}
use Rattle.std.specs.Option.{option_map_or}
use Rattle.std.proofs.lemmas.Bool.Decides.{nat_tests}
use Rattle.std.proofs.lemmas.List.{append-nil, length-map, map-append}
use Rattle.std.proofs.lemmas.List.Elements.{All-from_recursion}
use Rattle.std.proofs.lemmas.Option.{slice_get-get_or, slice_get-map}
use Rattle.bench_types.specs.declared.header.Header.{Header}
use Rattle.bench_types.specs.declared.step.Step.{Step}
use Rattle.list_orders.specs.Search.{numbers}
use Rattle.list_orders.proofs.Stamped.{numbers_more}
use Rattle.bench_model.specs.Session.{state_at}
use Rattle.run_views.specs.declared.look.Look.{Look}
use Rattle.run_views.specs.declared.places.Places.{Places}
use Rattle.run_views.specs.Looks.{look_of}
use Rattle.run_views.specs.Trace.{shows}
use Rattle.run_views.proofs.States.{filter_more}
use Rattle.session_laws.proofs.Tallies.{each_at, length_each}
use Rattle.run_pictures.specs.declared.pose.Pose.{Pose}
use Rattle.run_pictures.specs.declared.stance.Stance.{Stance}
use Rattle.run_pictures.specs.declared.stretch.Stretch.{Stretch}
use Rattle.run_pictures.specs.Hindrances.{hindrances_in}
use Rattle.run_pictures.specs.Poses.{opening, openings, stance_of_pose}
use Rattle.run_pictures.specs.RunLooks.{looks_of, shown_places}
use Rattle.run_pictures.specs.StretchesOf.{extended, stretches_of, with_value}

-- ---- the places that are shown are those from the first on

module _ (places : Places) where
  from_first : ℕ → List ℕ
  from_first count = map (λ k. places.from + k) (numbers count)

  length_first : (count : ℕ) → length (from_first count) ≡ count
  unfolding from_first
  length_first count = length_each (λ k. places.from + k) count

  first_more : (count : ℕ) → from_first (count + 1) ≡ from_first count ++ (places.from + count) ∷ []
  unfolding from_first
  first_more count = ap (map (λ k. places.from + k)) (numbers_more count) ∙ map-append (λ k. places.from + k) (numbers count) (count ∷ [])

  shown_more : (count : ℕ) (a b : Bool) → nat_le places.from count ≡ a → nat_le count places.to ≡ b →
      from_first (min (suc places.to) count - places.from) ++ (if a && b then count ∷ [] else []) ≡ from_first (min (suc places.to) (suc count) - places.from)
  shown_more count true true above below =
      let least : places.from ≤ count = grind (arith, nat_tests, above) in
      let most : count ≤ places.to = grind (arith, nat_tests, below) in
      let now : min (suc places.to) count - places.from ≡ count - places.from = omega (arith, least, most) in
      let next : count - places.from + 1 ≡ min (suc places.to) (suc count) - places.from = omega (arith, least, most) in
      let place : count ≡ places.from + (count - places.from) = omega (arith, least) in
      ap (λ n. from_first n ++ count ∷ []) now
      ∙ ap (λ n. from_first (count - places.from) ++ n ∷ []) place
      ∙ sym (first_more (count - places.from))
      ∙ ap from_first next
  shown_more count true false above below =
      let most : places.to < count = grind (arith, nat_tests, below) in
      let same : min (suc places.to) count - places.from ≡ min (suc places.to) (suc count) - places.from = omega (arith, most) in
      append-nil (from_first (min (suc places.to) count - places.from)) ∙ ap from_first same
  shown_more count false b above below =
      let least : count < places.from = grind (arith, nat_tests, above) in
      let same : min (suc places.to) count - places.from ≡ min (suc places.to) (suc count) - places.from = omega (arith, least) in
      append-nil (from_first (min (suc places.to) count - places.from)) ∙ ap from_first same

  shown_are : (count : ℕ) → filter (shows places) (numbers count) ≡ from_first (min (suc places.to) count - places.from)
  unfolding from_first
  shown_are zero = let none : 0 ≡ min (suc places.to) 0 - places.from = omega arith in ap from_first none
  shown_are (suc count) =
      ap (λ k. filter (shows places) (numbers k)) (sym (add-one count)) ∙ ap (filter (shows places)) (numbers_more count)
      ∙ filter_more (shows places) (numbers count) count
      ∙ ap (λ ns. ns ++ (if shows places count then count ∷ [] else [])) (shown_are count)
      ∙ shown_more count (nat_le places.from count) (nat_le count places.to) refl refl

  pub place_there : (count k : ℕ) → k < length (filter (shows places) (numbers count)) → slice_get (filter (shows places) (numbers count)) k ≡ Some (places.from + k)
  unfolding from_first
  place_there count k within =
      let n = min (suc places.to) count - places.from in
      let many : length (filter (shows places) (numbers count)) ≡ n = ap length (shown_are count) ∙ length_each (λ k. places.from + k) n in
      let few : k < n = omega (arith, within, many) in
      ap (λ ns. slice_get ns k) (shown_are count)
      ∙ slice_get-get_or (from_first n) k 0 (omega (arith, few, length_each (λ k. places.from + k) n))
      ∙ ap Some (each_at (λ k. places.from + k) n k 0 few)

  pub look_there : (header : Header) (steps : List Step) (k : ℕ) → k < length (looks_of places header steps) → slice_get (looks_of places header steps) k ≡
      Some (look_of (state_at header steps (places.from + k)))
  unfolding looks_of
  look_there header steps k within =
      let looked : ℕ → Look = λ place. look_of (state_at header steps place) in
      slice_get-map looked (shown_places places steps) k
      ∙ ap (option_map looked)
      (place_there (suc (length steps)) k (omega (arith, within, length-map (shown_places places steps) looked)))

-- so many are shown
pub many_shown : (places : Places) (header : Header) (steps : List Step) → length (looks_of places header steps) ≡
    suc (min places.to (length steps)) - places.from
unfolding looks_of
many_shown places header steps =
    let n = min (suc places.to) (suc (length steps)) - places.from in
    let same : n ≡ suc (min places.to (length steps)) - places.from = omega arith in
    length-map (shown_places places steps) (λ place. look_of (state_at header steps place))
    ∙ ap length (shown_are places (suc (length steps)))
    ∙ length_first places n ∙ same

-- ---- each stretch begins at one of the places

abbrev BeginsWithin : {X : Type 0} → ℕ → ℕ → Stretch X → Type 0
BeginsWithin place count stretch = (place ≤ stretch.first) × (stretch.first < place + count)

module _ {X : Type 0} (same : X → X → Bool) where
  begin_later : (place count : ℕ) (stretches : List (Stretch X)) → AllByRecursion (BeginsWithin (suc place) count) stretches → AllByRecursion
      (BeginsWithin place (suc count)) stretches
  begin_later place count [] all = tt
  begin_later place count (stretch ∷ stretches) all = ((omega (arith, all.0.0), omega (arith, all.0.1)), begin_later place count stretches all.1)

  one_begins : (place count : ℕ) (value : X) (stretches : List (Stretch X)) → AllByRecursion (BeginsWithin (suc place) count) stretches → AllByRecursion
      (BeginsWithin place (suc count)) (extended same place value stretches)
  one_begins place count value [] all = ((omega arith, omega arith), tt)
  one_begins place count value (stretch ∷ stretches) all = at (same stretch.value value)
    where
      at : (b : Bool) → AllByRecursion (BeginsWithin place (suc count))
          (if b then record stretch { first = place } ∷ stretches else record { first = place; last = place; value = value } ∷ stretch ∷ stretches)
      at true = ((omega arith, omega arith), begin_later place count stretches all.1)
      at false = ((omega arith, omega arith), begin_later place count (stretch ∷ stretches) all)

  all_begin : (place : ℕ) (values : List X) → AllByRecursion (BeginsWithin place (length values)) (stretches_of same place values)
  all_begin place [] = tt
  all_begin place (value ∷ values) = one_begins place (length values) value (stretches_of same (suc place) values) (all_begin (suc place) values)

-- ---- what is told of first places

-- the stretches are those of how the task stands
pub stances_opened : (first : ℕ) (looks : List Look) (task : ℕ) (stretches : List (Stretch Stance)) → map (with_value stance_of_pose)
    (openings first looks task stretches) ≡ stretches
stances_opened first looks task [] = refl
stances_opened first looks task (stretch ∷ stretches) = ap (λ rest. stretch ∷ rest) (stances_opened first looks task stretches)

-- and each has what is in the way at its first place
module _ (first : ℕ) (looks : List Look) (task : ℕ) (there : ℕ → Look)
    (seen : (k : ℕ) → k < length looks → slice_get looks k ≡ Some (there (first + k))) where
  abbrev TellsFirst : Stretch Pose → Type 0
  TellsFirst stretch = stretch.value.hindrances ≡ hindrances_in task (there stretch.first)

  first_told : (stretch : Stretch Stance) → BeginsWithin first (length looks) stretch → TellsFirst (opening first looks task stretch)
  first_told stretch within =
      let k = stretch.first - first in
      let place : first + k ≡ stretch.first = omega (arith, within.0) in
      ap (λ (look : Option Look). option_map_or (hindrances_in task) look []) (seen k (omega (arith, within.0, within.1)))
      ∙ ap (λ n. hindrances_in task (there n)) place

  each_told : (stretches : List (Stretch Stance)) → AllByRecursion (BeginsWithin first (length looks)) stretches → AllByRecursion TellsFirst
      (openings first looks task stretches)
  each_told [] all = tt
  each_told (stretch ∷ stretches) all = (first_told stretch all.0, each_told stretches all.1)

  pub all_told : (same : Stance → Stance → Bool) (in_look : Look → Stance) → All TellsFirst
      (openings first looks task (stretches_of same first (map in_look looks)))
  all_told same in_look =
      let stretches = stretches_of same first (map in_look looks) in
      let begin : AllByRecursion (BeginsWithin first (length (map in_look looks))) stretches = all_begin same first (map in_look looks) in
      All-from_recursion TellsFirst (openings first looks task stretches)
      (each_told stretches (subst (λ n. AllByRecursion (BeginsWithin first n) stretches) (length-map looks in_look) begin))
