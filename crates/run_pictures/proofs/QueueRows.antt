-- The bars of a queue tell how many messages it has at each place.
use Rattle.std.proofs.Common.{◌≡◌, ◌<◌, ◌≤◌, ℕ, suc, ◌+◌, ◌-◌, List, [], ◌∷◌, flat_map, length, map, Bool, true, false, Option, Some, option_map, slice_get, inl, inr, refl, sym, ap, subst, ◌∙◌, arith}
use Rattle.std.specs.Prelude.{◌==◌, All, Contains, Decides, nat_eq, not, slice_index_or, if◌then◌else◌}
use Rattle.std.specs.List.{AllByRecursion}
use Rattle.std.proofs.lemmas.Bool.{cases_eq}
use Rattle.std.proofs.lemmas.Bool.Decides.{nat_tests}
use Rattle.std.proofs.lemmas.List.{length-map}
use Rattle.std.proofs.lemmas.List.Elements.{All-from_recursion, Contains-get_or}
use Rattle.std.proofs.lemmas.Option.{slice_get-get_or, slice_get-map, slice_get_within}
use Rattle.bench_types.specs.declared.header.Header.{Header}
use Rattle.bench_types.specs.declared.kernel_data.Settings.{Settings}
use Rattle.bench_types.specs.declared.step.Step.{Step}
use Rattle.bench_types.specs.Header.{IsCheckedHeader}
use Rattle.bench_types.specs.Step.{queue_total, settings_of, IsCheckedStep}
use Rattle.list_orders.specs.Search.{numbers}
use Rattle.bench_model.specs.Session.{state_at}
use Rattle.run_views.specs.declared.look.Look.{Look}
use Rattle.run_views.specs.declared.places.Places.{Places}
use Rattle.run_views.specs.Looks.{look_of}
use Rattle.run_pictures.specs.declared.bar.Bar.{Bar}
use Rattle.run_pictures.specs.declared.ink.Ink.TheVariants as ink
use Rattle.run_pictures.specs.declared.stretch.Stretch.{Stretch}
use Rattle.run_pictures.specs.Bars.{bar_over, messages_shape, queue_top}
use Rattle.run_pictures.specs.Picture.{shown_at}
use Rattle.run_pictures.specs.QueueLaws.{messages_at, QueueRowsAreSo, TellMessages}
use Rattle.run_pictures.specs.QueueLines.{changed_queues, is_changed, queues_of}
use Rattle.run_pictures.specs.RunLooks.{looks_of, run_looks, shown_places}
use Rattle.run_pictures.specs.StretchesOf.{extended, stretches_of, Follow}
use Rattle.run_pictures.specs.StretchValues.{numbers_decided}
use Rattle.run_pictures.specs.TaskStretches.{message_stretches, messages_in}
use Rattle.run_pictures.proofs.Legends.{drawn_one, one_drawn}
use Rattle.run_pictures.proofs.Members.{filter_from, flat_from, flat_to, here, here_or, none, number_from, there}
use Rattle.run_pictures.proofs.Opened.{look_there, place_there}
use Rattle.run_pictures.proofs.Seen.{kept_settings, messages_seen}
use Rattle.run_pictures.proofs.Tiling.{tiled}

-- ---- the places of stretches

module _ {X : Type 0} (same : X → X → Bool) (tells : (a b : X) → Decides (same a b) (a ≡ b)) where
  -- the stretch has the value of each of its places
  abbrev IsSoOver : ℕ → List X → Stretch X → Type 0
  IsSoOver place values stretch = (p : ℕ) → stretch.first ≤ p → p ≤ stretch.last → (place ≤ p) × (slice_get values (p - place) ≡ Some stretch.value)

  later : (place : ℕ) (value : X) (values : List X) (stretch : Stretch X) → IsSoOver (suc place) values stretch → IsSoOver place (value ∷ values) stretch
  later place value values stretch so p from to =
      let rest = so p from to in
      let next : p - place ≡ suc (p - suc place) = omega (arith, rest.0) in
      (omega (arith, rest.0), ap (slice_get (value ∷ values)) next ∙ rest.1)

  all_later : (place : ℕ) (value : X) (values : List X) (stretches : List (Stretch X)) → AllByRecursion (IsSoOver (suc place) values) stretches
      → AllByRecursion (IsSoOver place (value ∷ values)) stretches
  all_later place value values [] all = tt
  all_later place value values (stretch ∷ stretches) all = (later place value values stretch all.0, all_later place value values stretches all.1)

  first_there : (place : ℕ) (value : X) (values : List X) (p : ℕ) → p ≡ place → slice_get (value ∷ values) (p - place) ≡ Some value
  first_there place value values p is = let none : p - place ≡ 0 = omega (arith, is) in ap (slice_get (value ∷ values)) none

  alone : (place : ℕ) (value : X) (values : List X) → IsSoOver place (value ∷ values) (record { first = place; last = place; value = value })
  alone place value values p from to = (from, first_there place value values p (omega (arith, from, to)))

  longer : (place : ℕ) (value : X) (values : List X) (stretch : Stretch X) → stretch.value ≡ value → stretch.first ≡ suc place
      → IsSoOver (suc place) values stretch → IsSoOver place (value ∷ values) (record stretch { first = place })
  longer place value values stretch stays next so p from to = elim (cases_eq p place) [
    | inl here ↦ (from, first_there place value values p here ∙ ap Some (sym stays))
    | inr away ↦ later place value values stretch so p (omega (arith, next, from, away)) to
  ]

  next_so : (place : ℕ) (value : X) (values : List X) (stretches : List (Stretch X)) → Follow (suc place) stretches
      → AllByRecursion (IsSoOver (suc place) values) stretches → AllByRecursion (IsSoOver place (value ∷ values)) (extended same place value stretches)
  next_so place value values [] follow all = (alone place value values, tt)
  next_so place value values (stretch ∷ stretches) follow all = at (same stretch.value value) (tells stretch.value value)
    where
      at : (b : Bool) → Decides b (stretch.value ≡ value) → AllByRecursion (IsSoOver place (value ∷ values))
          (if b then record stretch { first = place } ∷ stretches else record { first = place; last = place; value = value } ∷ stretch ∷ stretches)
      at true decides = (longer place value values stretch (decides.0 refl) follow.0 all.0, all_later place value values stretches all.1)
      at false decides = (alone place value values, all_later place value values (stretch ∷ stretches) all)

  all_so : (place : ℕ) (values : List X) → AllByRecursion (IsSoOver place values) (stretches_of same place values)
  all_so place [] = tt
  all_so place (value ∷ values) =
      next_so place value values (stretches_of same (suc place) values) (tiled same tells (suc place) values).follow (all_so (suc place) values)

  pub one_so : (place : ℕ) (values : List X) (stretch : Stretch X) → Contains (stretches_of same place values) stretch → IsSoOver place values stretch
  one_so place values stretch (k, within, is) =
      subst (IsSoOver place values) is
      (All-from_recursion (IsSoOver place values) (stretches_of same place values) (all_so place values) k stretch within)

  -- one of the stretches is over the place
  abbrev IsOver : List (Stretch X) → ℕ → Type 0
  IsOver stretches p = (stretch : Stretch X) × Contains stretches stretch × (stretch.first ≤ p) × (p ≤ stretch.last)

  over_first : (place : ℕ) (value : X) (stretches : List (Stretch X)) → Follow (suc place) stretches → IsOver (extended same place value stretches) place
  over_first place value [] follow = (record { first = place; last = place; value = value }, here _ [], omega arith, omega arith)
  over_first place value (stretch ∷ stretches) follow = at (same stretch.value value)
    where
      at : (b : Bool) → IsOver (if b then record stretch { first = place } ∷ stretches else record { first = place; last = place; value = value } ∷ stretch ∷
          stretches) place
      at true =
          let order : stretch.first ≤ stretch.last = follow.1 in
          let next : stretch.first ≡ suc place = follow.0 in
          (record stretch { first = place }, here _ stretches, omega arith, omega (arith, order, next))
      at false = (record { first = place; last = place; value = value }, here _ (stretch ∷ stretches), omega arith, omega arith)

  over_rest : (place p : ℕ) (value : X) (stretches : List (Stretch X)) → place ≤ p → IsOver stretches p → IsOver (extended same place value stretches) p
  over_rest place p value [] low (one, has, from, to) = absurd (none one has)
  over_rest place p value (stretch ∷ stretches) low (one, has, from, to) = at (same stretch.value value)
    where
      at : (b : Bool) → IsOver (if b then record stretch { first = place } ∷ stretches else record { first = place; last = place; value = value } ∷ stretch ∷
          stretches) p
      at true = elim (here_or stretch one stretches has) [
        | inl is ↦ (record stretch { first = place }, here _ stretches, low, subst (λ (s : Stretch X). p ≤ s.last) (sym is) to)
        | inr rest ↦ (one, there _ one stretches rest, from, to)
      ]
      at false = (one, there _ one (stretch ∷ stretches) has, from, to)

  pub over : (place p : ℕ) (values : List X) → place ≤ p → p < place + length values → IsOver (stretches_of same place values) p
  over place p [] low few = absurd (omega (arith, low, few))
  over place p (value ∷ values) low few = elim (cases_eq p place) [
    | inl is ↦ subst (IsOver (extended same place value (stretches_of same (suc place) values))) (sym is)
        (over_first place value (stretches_of same (suc place) values) (tiled same tells (suc place) values).follow)
    | inr away ↦ over_rest place p value (stretches_of same (suc place) values) low (over (suc place) p values (omega (arith, low, away)) (omega (arith, few)))
  ]

-- ---- the rows of a checked session

not_none : (n : ℕ) → 0 < n → not (n == 0) ≡ true
not_none n some = at (n == 0) refl
  where
    at : (b : Bool) → (n == 0) ≡ b → not b ≡ true
    at true is = let none : n ≡ 0 = grind (arith, nat_tests, is) in absurd (omega (arith, none, some))
    at false is = refl

same_some : {X : Type 0} (a b : X) → Some a ≡ Some b → a ≡ b
same_some a b is = cc is

module _ (places : Places) (header : Header) (steps : List Step) (is : IsCheckedHeader header) (checked : All (IsCheckedStep (settings_of header)) steps) where
  abbrev looks : List Look
  looks = looks_of places header steps

  module _ (queue : ℕ) (few : queue < queues_of header) where
    abbrev values : List ℕ
    values = map (messages_in queue) looks

    seen : (place : ℕ) → messages_in queue (look_of (state_at header steps place)) ≡ messages_at header steps queue place
    seen place = messages_seen (state_at header steps place) queue
        (subst (λ (settings : Settings). queue < queue_total settings) (sym (kept_settings header steps place is checked)) few)

    value_there : (place value : ℕ) → places.from ≤ place → slice_get values (place - places.from) ≡ Some value → value ≡ messages_at header steps queue place
    value_there place value low there =
        let k = place - places.from in
        let same : places.from + k ≡ place = omega (arith, low) in
        let within : k < length looks = omega (arith, slice_get_within values k value there, length-map looks (messages_in queue)) in
        let look : Look = look_of (state_at header steps (places.from + k)) in
        let found : slice_get values k ≡ Some (messages_in queue look) =
        slice_get-map (messages_in queue) looks k ∙ ap (option_map (messages_in queue)) (look_there places header steps k within) in
        same_some value (messages_in queue look) (sym there ∙ found) ∙ seen (places.from + k) ∙ ap (messages_at header steps queue) same

    -- a place that is shown
    where_shown : (place : ℕ) → Contains (shown_places places steps) place → (places.from ≤ place) × (place < places.from + length values)
    unfolding looks_of
    where_shown place (k, within, at) =
        let there : Some place ≡ Some (places.from + k) =
        ap Some (sym at) ∙ sym (slice_get-get_or (shown_places places steps) k place within) ∙ place_there places (suc (length steps)) k within in
        let same : place ≡ places.from + k = same_some place (places.from + k) there in
        let count = length-map looks (messages_in queue) in
        let all = length-map (shown_places places steps) (λ p. look_of (state_at header steps p)) in
        (omega (arith, same), omega (arith, same, within, count, all))

    abbrev spans : List (Stretch ℕ)
    spans = stretches_of nat_eq places.from values

    tell : (y : ℕ) → TellMessages places header steps queue (flat_map (messages_shape y) spans)
    tell y = record {
      told = λ bar place has covers.
          let found = flat_from (messages_shape y) spans bar has in
          let stretch : Stretch ℕ = found.0 in
          let one = one_drawn (not (stretch.value == 0)) (bar_over (ink.Messages stretch.value) y 14 stretch) bar found.2 in
          let first : stretch.first ≡ bar.first = ap (λ (b : Bar). b.first) one.1 in
          let last : stretch.last ≡ bar.last = ap (λ (b : Bar). b.last) one.1 in
          let so = one_so nat_eq numbers_decided places.from values stretch found.1 place (omega (arith, first, covers.0)) (omega (arith, last, covers.1)) in
          sym (ap (λ (b : Bar). b.ink) one.1) ∙ ap ink.Messages (value_there place stretch.value so.0 so.1);
      all = λ place has some.
          let shown = where_shown place has in
          let found = over nat_eq numbers_decided places.from place values shown.0 shown.1 in
          let stretch : Stretch ℕ = found.0 in
          let so = one_so nat_eq numbers_decided places.from values stretch found.1 place found.2 found.3 in
          let same : stretch.value ≡ messages_at header steps queue place = value_there place stretch.value so.0 so.1 in
          let above : not (stretch.value == 0) ≡ true = not_none stretch.value (omega (arith, same, some)) in
          let bar : Bar = bar_over (ink.Messages stretch.value) y 14 stretch in
          record {
            bar = bar;
            drawn = flat_to (messages_shape y) spans stretch bar found.1 (drawn_one (not (stretch.value == 0)) bar above);
            covers = (found.2, found.3);
          };
    }

  pub rows_so : (y : ℕ) (k : ℕ) → k < length (changed_queues header looks) → TellMessages places header steps (slice_index_or (changed_queues header looks) k 0)
      (flat_map (messages_shape y) (message_stretches places.from looks (slice_index_or (changed_queues header looks) k 0)))
  unfolding message_stretches
  rows_so y k within =
      let queue = slice_index_or (changed_queues header looks) k 0 in
      let row = filter_from (is_changed looks) (numbers (queues_of header)) queue (Contains-get_or (changed_queues header looks) k 0 within) in
      tell queue (number_from (queues_of header) queue row.0) y

pub queue_rows_so : QueueRowsAreSo
unfolding run_looks
queue_rows_so places axis scale left run top drawable k within =
    rows_so places run.header run.steps drawable.header drawable.steps (queue_top (shown_at places axis scale left run) top k) k within
