-- Without edits the steps from outside are those of the settled run, ticks joined as there.
use Rattle.std.proofs.Common.{◌≡◌, ℕ, zero, suc, ◌+◌, ◌-◌, Bool, true, false, cond, ltb, ◌&&◌, List, [], ◌∷◌, ◌++◌, length, map, drop, refl, sym, ap, subst, ◌∙◌, append_assoc, arith}
use Rattle.std.specs.Prelude.{count_by, slice_index_or}
use Rattle.std.specs.List.{filter}
use Rattle.std.proofs.lemmas.Bool.Decides.{nat_tests}
use Rattle.std.proofs.lemmas.List.{length-append}
use Rattle.bench_types.specs.declared.step.Step.{Step}
use Rattle.bench_types.specs.declared.step.Step.TheVariants.{Tick, Switch, Interrupt, QueueInterrupt, ResumeInterrupt, Pass}
use Rattle.bench_types.specs.declared.step.Step.TheVariants as steps
use Rattle.bench_types.specs.Session.{Session}
use Rattle.settled_runs.specs.declared.waiting_call.WaitingCall.{WaitingCall}
use Rattle.settled_runs.specs.Settled.{is_event, IsSettled}
use Rattle.settled_runs.specs.SettleLaws.{comes_from_outside}
use Rattle.settled_runs.proofs.Settlings.{settling_keeps_events}
use Rattle.kept_runs.specs.Items.{Item, is_alike, items_from, passes_at, places_of, settled_place}
use Rattle.kept_runs.specs.declared.works.Outside.{Outside}
use Rattle.kept_runs.specs.Works.{is_behind_pass, is_pass, is_tick, outside_item}
use Rattle.kept_runs.proofs.Ahead.{outsides}
use Rattle.kept_runs.proofs.Starts.{at_places, counted, event_place}

-- ---- steps from outside at their places

step_there : List Step → ℕ → Step
step_there run place = slice_index_or run place Tick

outside_there : (ℕ → Bool) → List Step → ℕ → Outside
outside_there behind run place = record { step = slice_index_or run place Tick; joined = is_tick (slice_index_or run place Tick) && behind place }

steps_at : (run : List Step) → filter comes_from_outside run ≡ map (step_there run) (places_of comes_from_outside run)
unfolding step_there
steps_at [] = refl
steps_at (step ∷ run) =
    ap (λ rest. cond (comes_from_outside step) (step ∷ rest) rest) (steps_at run)
    ∙ sym (at_places comes_from_outside (λ place. slice_index_or (step ∷ run) place Tick) step run)

-- a pass comes before the place; before the first one there is what there was
behind_of : Bool → List Step → ℕ → Bool
behind_of passed run zero = passed
behind_of passed run (suc place) = passes_at is_pass run place

behind_later : (step : Step) (run : List Step) (place : ℕ) → behind_of (is_pass step) run place ≡ passes_at is_pass (step ∷ run) place
unfolding behind_of
behind_later step run zero = refl
behind_later step run (suc place) = refl

outsides_at : (run : List Step) (passed : Bool) → outsides passed run ≡ map (outside_there (behind_of passed run) run) (places_of comes_from_outside run)
unfolding outside_there behind_of
outsides_at [] passed = refl
outsides_at (step ∷ run) passed =
    ap (λ rest. cond (comes_from_outside step) (record { step = step; joined = is_tick step && passed } ∷ rest) rest)
    (outsides_at run (is_pass step)
    ∙ ap (λ (behind : ℕ → Bool). map (λ place. record { step = slice_index_or run place Tick; joined = is_tick (slice_index_or run place Tick) && behind place })
    (places_of comes_from_outside run)) (λ i place. behind_later step run place i))
    ∙ sym (at_places comes_from_outside
    (λ place. record {
      step = slice_index_or (step ∷ run) place Tick;
      joined = is_tick (slice_index_or (step ∷ run) place Tick) && behind_of passed (step ∷ run) place;
    }) step run)

behind_pass : (run : List Step) (place : ℕ) → is_behind_pass run place ≡ behind_of false run place
unfolding behind_of
behind_pass run zero = refl
behind_pass run (suc place) =
    let test : ltb 0 (suc place) ≡ true = grind (arith, nat_tests) in
    let same : suc place - 1 ≡ place = omega arith in
    λ i. test i && passes_at is_pass run (same i)

-- ---- those of the document

alike_outside : (event : Step) → comes_from_outside event ≡ true → (step : Step) → is_alike event step ≡ comes_from_outside step
alike_outside (steps.Call core task call) is step = absurd (cc is)
alike_outside (Switch core) is step = absurd (cc is)
alike_outside Tick is step = refl
alike_outside (Interrupt core note) is step = refl
alike_outside (QueueInterrupt core queue direction) is step = refl
alike_outside (ResumeInterrupt core task) is step = refl
alike_outside (Pass units) is step = refl

outside_event : (step : Step) → comes_from_outside step ≡ true → is_event step ≡ true
outside_event (steps.Call core task call) is = absurd (cc is)
outside_event (Switch core) is = absurd (cc is)
outside_event step is = refl

drop_next : (places : List ℕ) (from place : ℕ) (rest : List ℕ) (last : ℕ) → drop from places ≡ place ∷ rest
    → (drop (suc from) places ≡ rest) × (slice_index_or places from last ≡ place)
drop_next [] zero place rest last are = absurd (cc are)
drop_next [] (suc from) place rest last are = absurd (cc are)
drop_next (first ∷ places) zero place rest last are = (cc are, cc are)
drop_next (first ∷ places) (suc from) place rest last are = drop_next places from place rest last are

module _ (session : Session) (settled : List Step) where
  abbrev outers : List ℕ
  outers = places_of comes_from_outside settled

  abbrev made_there : ℕ → Outside
  made_there place = outside_there (is_behind_pass settled) settled place

  abbrev items_outside : List Item → List Outside
  items_outside items = map (outside_item session settled) (filter (λ (item : Item). comes_from_outside item.step) items)

  outside_of : (before rest : List Step) (step : Step) (place : ℕ) → session.steps ≡ before ++ step ∷ rest → comes_from_outside step ≡ true
      → step ≡ step_there settled place → slice_index_or outers (count_by comes_from_outside before) (length settled) ≡ place
      → outside_item session settled (record { step = step; anchor = length before; inserted = false; changes = [] }) ≡ made_there place
  unfolding step_there outside_there
  outside_of before rest step place parts comes is there =
      let same : is_alike step ≡ comes_from_outside = λ i it. alike_outside step comes it i in
      let stands : settled_place session.steps settled (length before) ≡ place
      = ap (λ steps. settled_place steps settled (length before)) parts ∙ event_place before rest settled step (outside_event step comes)
      ∙ ap (λ test. slice_index_or (places_of test settled) (count_by test before) (length settled)) same ∙ there in
      λ i. record { step = is i; joined = is_tick (is i) && is_behind_pass settled (stands i) }

  outsides_of :
      (rest before : List Step) → session.steps ≡ before ++ rest
      → filter comes_from_outside rest ≡ map (step_there settled) (drop (count_by comes_from_outside before) outers)
      → items_outside (items_from (length before) rest) ≡ map made_there (drop (count_by comes_from_outside before) outers)
  outsides_of [] before parts are = none (drop (count_by comes_from_outside before) outers) are
    where
      none : (places : List ℕ) → [] ≡ map (step_there settled) places → [] ≡ map made_there places
      none [] are = refl
      none (place ∷ places) are = absurd (cc are)
  outsides_of (step ∷ rest) before parts are =
      at (comes_from_outside step) refl are (λ later.
      subst (λ index. items_outside (items_from index rest) ≡ map made_there (drop (count_by comes_from_outside (before ++ step ∷ [])) outers)) one_more
      (outsides_of rest (before ++ step ∷ []) (parts ∙ sym (append_assoc before (step ∷ []) rest)) later))
    where
      one_more : length (before ++ step ∷ []) ≡ suc (length before)
      one_more = let many : length (before ++ step ∷ []) ≡ length before + 1 = length-append before (step ∷ []) in omega (arith, many)

      at : (b : Bool) → comes_from_outside step ≡ b
          → cond b (step ∷ filter comes_from_outside rest) (filter comes_from_outside rest)
          ≡ map (step_there settled) (drop (count_by comes_from_outside before) outers)
          → (filter comes_from_outside rest ≡ map (step_there settled) (drop (count_by comes_from_outside (before ++ step ∷ [])) outers)
          → items_outside (items_from (suc (length before)) rest) ≡ map made_there (drop (count_by comes_from_outside (before ++ step ∷ [])) outers))
          → map (outside_item session settled)
          (cond b (record { step = step; anchor = length before; inserted = false; changes = [] }
          ∷ filter (λ (item : Item). comes_from_outside item.step) (items_from (suc (length before)) rest))
          (filter (λ (item : Item). comes_from_outside item.step) (items_from (suc (length before)) rest)))
          ≡ map made_there (drop (count_by comes_from_outside before) outers)
      at false is are later =
          let same : count_by comes_from_outside (before ++ step ∷ []) ≡ count_by comes_from_outside before
          = let sum = counted comes_from_outside before step ∙ ap (λ b. count_by comes_from_outside before + cond b 1 0) is in omega (arith, sum) in
          later (are ∙ ap (λ from. map (step_there settled) (drop from outers)) (sym same)) ∙ ap (λ from. map made_there (drop from outers)) same
      at true is are later = first (drop (count_by comes_from_outside before) outers) refl are
        where
          more : count_by comes_from_outside (before ++ step ∷ []) ≡ suc (count_by comes_from_outside before)
          more = let sum = counted comes_from_outside before step ∙ ap (λ b. count_by comes_from_outside before + cond b 1 0) is in omega (arith, sum)

          first : (places : List ℕ) → drop (count_by comes_from_outside before) outers ≡ places
              → step ∷ filter comes_from_outside rest ≡ map (step_there settled) places
              → outside_item session settled (record { step = step; anchor = length before; inserted = false; changes = [] })
              ∷ map (outside_item session settled) (filter (λ (item : Item). comes_from_outside item.step) (items_from (suc (length before)) rest))
              ≡ map made_there places
          first [] same are = absurd (cc are)
          first (place ∷ places) same are =
              let next = drop_next outers (count_by comes_from_outside before) place places (length settled) same in
              let behind : drop (count_by comes_from_outside (before ++ step ∷ [])) outers ≡ places = ap (λ from. drop from outers) more ∙ next.0 in
              let others : filter comes_from_outside rest ≡ map (step_there settled) places = cc are in
              let own : step ≡ step_there settled place = cc are in
              λ i. outside_of before rest step place parts is own next.1 i
              ∷ (later (others ∙ ap (map (step_there settled)) (sym behind)) ∙ ap (map made_there) behind) i

pub outside_at_start : (session : Session) (run : List Step) (left : List WaitingCall) → IsSettled session.header session.steps run left
    → map (outside_item session run) (filter (λ (item : Item). comes_from_outside item.step) (items_from 0 session.steps)) ≡ outsides false run
unfolding outside_there
outside_at_start session run left settled =
    outsides_of session run session.steps [] refl (settling_keeps_events session.header session.steps run left settled ∙ steps_at run)
    ∙ ap (λ (behind : ℕ → Bool). map (λ place. record { step = slice_index_or run place Tick; joined = is_tick (slice_index_or run place Tick) && behind place })
    (places_of comes_from_outside run)) (λ i place. behind_pass run place i)
    ∙ sym (outsides_at run false)
