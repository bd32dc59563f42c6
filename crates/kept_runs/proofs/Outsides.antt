-- Steps from outside are those of the edited session, in their order and at their times.
use Rattle.std.proofs.Common.{◌≡◌, ℕ, ◌+◌, ◌-◌, ◌≤◌, Bool, true, false, cond, not, eqb, ltb, ◌&&◌, List, [], ◌∷◌, ◌++◌, map, refl, sym, ap, subst, ◌∙◌, inl, inr, arith}
use Rattle.std.specs.Prelude.{◌⊎◌}
use Rattle.std.specs.List.{filter}
use Rattle.std.proofs.lemmas.Bool.Decides.{nat_tests}
use Rattle.kept_edits.specs.declared.edit.KeptEdit.{KeptEdit}
use Rattle.bench_types.specs.declared.step.Step.{Step}
use Rattle.bench_types.specs.declared.step.Step.TheVariants.{Tick, Switch, Interrupt, QueueInterrupt, ResumeInterrupt, Pass}
use Rattle.bench_types.specs.declared.step.Step.TheVariants as steps
use Rattle.bench_types.specs.Session.{Session}
use Rattle.settled_runs.specs.declared.waiting_call.WaitingCall.{WaitingCall}
use Rattle.settled_runs.specs.SettleLaws.{comes_from_outside}
use Rattle.step_times.specs.Times.{time_of}
use Rattle.workload_runs.specs.Rule.{least}
use Rattle.workload_runs.proofs.Searches.{least_below}
use Rattle.kept_runs.specs.declared.call_order.CallOrder.{CallOrder}
use Rattle.kept_runs.specs.Items.{Item, edited_items, edited_session}
use Rattle.kept_runs.specs.KeptLaws.{comings, time_behind, KeptRunKeepsOutside}
use Rattle.kept_runs.specs.Rule.{Progress, after, cut, first_progress, outside_after, rest_of, works_left, IsRunFrom}
use Rattle.kept_runs.specs.declared.works.Outside.{Outside}
use Rattle.kept_runs.specs.Works.{is_pass, outside_item, outside_steps}
use Rattle.kept_runs.proofs.Listed.{first_good, steps_of, steps_of_edited}
use Rattle.kept_runs.proofs.Pieces.{from_outside, good_after, none_next, origin, outside_stays, quiet_inside, IsFromOutside, IsGood, IsQuiet}

-- ---- the same comings in the same time

abbrev IsAlike : ℕ → List Step → List Step → Type 0
IsAlike units one other =
    (time : ℕ) → (comings units time one ≡ comings units time other) × (time_behind units time one ≡ time_behind units time other)

module _ (units : ℕ) where
  then_alike : (one other third : List Step) → IsAlike units one other → IsAlike units other third → IsAlike units one third
  then_alike one other third first second time = ((first time).0 ∙ (second time).0, (first time).1 ∙ (second time).1)

  back : (one other : List Step) → IsAlike units one other → IsAlike units other one
  back one other same time = (sym (same time).0, sym (same time).1)

  cons_alike : (step : Step) (one other : List Step) → IsAlike units one other → IsAlike units (step ∷ one) (step ∷ other)
  cons_alike step one other same time =
      let later = same (time + time_of units step) in
      (ap (λ rest. cond (comes_from_outside step && not (is_pass step)) ((time, step) ∷ rest) rest) later.0, later.1)

  no_time : (step : Step) → comes_from_outside step ≡ false → time_of units step ≡ 0
  no_time Tick inside = absurd (cc inside)
  no_time (Switch core) inside = refl
  no_time (Interrupt core note) inside = absurd (cc inside)
  no_time (QueueInterrupt core queue direction) inside = absurd (cc inside)
  no_time (ResumeInterrupt core task) inside = absurd (cc inside)
  no_time (Pass passed) inside = absurd (cc inside)
  no_time (steps.Call core task call) inside = refl

  inside_alike : (step : Step) (made : List Step) → comes_from_outside step ≡ false → IsAlike units (step ∷ made) made
  inside_alike step made inside time =
      let same : time + time_of units step ≡ time = omega (arith, no_time step inside) in (
        ap (λ b. cond (b && not (is_pass step)) ((time, step) ∷ comings units (time + time_of units step) made) (comings units (time + time_of units step) made))
            inside
            ∙ ap (λ time. comings units time made) same,
        ap (λ time. time_behind units time made) same,
      )

  outside_alone : (made : List Step) → IsAlike units (filter comes_from_outside made) made
  outside_alone [] = λ time. (refl, refl)
  outside_alone (step ∷ made) = at (comes_from_outside step) refl (outside_alone made)
    where
      at : (b : Bool) → comes_from_outside step ≡ b → IsAlike units (filter comes_from_outside made) made
          → IsAlike units (cond b (step ∷ filter comes_from_outside made) (filter comes_from_outside made)) (step ∷ made)
      at true is rest = cons_alike step (filter comes_from_outside made) made rest
      at false inside rest = then_alike (filter comes_from_outside made) made (step ∷ made) rest (back (step ∷ made) made (inside_alike step made inside))

  -- a pass in two parts
  parts : (time whole part : ℕ) → part ≤ whole → time + time_of units (Pass whole) ≡ time + time_of units (Pass part) + time_of units (Pass (whole - part))
  parts time whole part few = at (eqb units 1)
    where
      at : (b : Bool) → time + cond b 0 whole ≡ time + cond b 0 part + cond b 0 (whole - part)
      at true = omega arith
      at false = omega (arith, few)

  steps_in : List Outside → List Step
  steps_in outside = map (λ (one : Outside). one.step) outside

  pass_alike : (whole part : ℕ) (rest : List Outside) → part ≤ whole
      → IsAlike units (Pass whole ∷ steps_in rest) (Pass part ∷ steps_in (rest_of (Pass part) (Pass whole) ++ rest))
  unfolding steps_in
  pass_alike whole part rest few = at (ltb part whole) refl
    where
      at : (b : Bool) → ltb part whole ≡ b
          → IsAlike units (Pass whole ∷ steps_in rest)
          (Pass part ∷ steps_in (cond b (record { step = Pass (whole - part); joined = false } ∷ []) [] ++ rest))
      at true less time =
          let same = parts time whole part few in
          (ap (λ time. comings units time (steps_in rest)) same, ap (λ time. time_behind units time (steps_in rest)) same)
      at false all time =
          let same : whole ≡ part = grind (arith, nat_tests, all, few) in (
            ap (λ units_made. comings units (time + time_of units (Pass units_made)) (steps_in rest)) same,
            ap (λ units_made. time_behind units (time + time_of units (Pass units_made)) (steps_in rest)) same,
          )

  made_alike : (now : Progress) (next : Step) (rest : List Outside)
      → IsAlike units (next ∷ steps_in rest) (cut now next ∷ steps_in (rest_of (cut now next) next ++ rest))
  unfolding steps_in
  made_alike now Tick rest = λ time. (refl, refl)
  made_alike now (Switch core) rest = λ time. (refl, refl)
  made_alike now (Interrupt core note) rest = λ time. (refl, refl)
  made_alike now (QueueInterrupt core queue direction) rest = λ time. (refl, refl)
  made_alike now (ResumeInterrupt core task) rest = λ time. (refl, refl)
  made_alike now (Pass whole) rest = pass_alike whole (least whole (works_left now)) rest (least_below (works_left now) whole)
  made_alike now (steps.Call core task call) rest = λ time. (refl, refl)

  -- ---- the run

  alike_along : (run : List Step) (now : Progress) (left : List WaitingCall) → IsGood now → IsRunFrom now run left → IsAlike units (steps_in now.outside) run
  unfolding steps_in after
  alike_along [] now left good is = subst (λ outside. IsAlike units (steps_in outside) []) (sym (none_next now is.0).outside) (λ time. (refl, refl))
  alike_along (step ∷ run) now left good is = at (origin now step good.begun is.0) (alike_along run (after step now) left (good_after step now good) is.1)
    where
      at : IsQuiet now step ⊎ IsFromOutside now step → IsAlike units (steps_in (outside_after step now.outside)) run
          → IsAlike units (steps_in now.outside) (step ∷ run)
      at (inl quiet) rest =
          let inside = quiet_inside now step quiet in
          then_alike (steps_in now.outside) run (step ∷ run)
          (subst (λ outside. IsAlike units (steps_in outside) run) (outside_stays step now.outside inside) rest)
          (back (step ∷ run) run (inside_alike step run inside))
      at (inr it) rest =
          let comes = from_outside now step good it in
          let there : outside_after step now.outside ≡ rest_of step it.next.step ++ it.rest
          = ap (outside_after step) it.are ∙ ap (λ b. cond b (rest_of step it.next.step ++ it.rest) (it.next ∷ it.rest)) comes in
          let later : IsAlike units (steps_in (rest_of step it.next.step ++ it.rest)) run = subst (λ outside. IsAlike units (steps_in outside) run) there rest in
          let made : IsAlike units (it.next.step ∷ steps_in it.rest) (step ∷ steps_in (rest_of step it.next.step ++ it.rest))
          = subst (λ step. IsAlike units (it.next.step ∷ steps_in it.rest) (step ∷ steps_in (rest_of step it.next.step ++ it.rest))) (sym it.is)
          (made_alike now it.next.step it.rest) in
          subst (λ outside. IsAlike units (steps_in outside) (step ∷ run)) (sym it.are)
          (then_alike (it.next.step ∷ steps_in it.rest) (step ∷ steps_in (rest_of step it.next.step ++ it.rest)) (step ∷ run) made
          (cons_alike step (steps_in (rest_of step it.next.step ++ it.rest)) run later))

  -- ---- the start

  steps_outside : (session : Session) (settled : List Step) (items : List Item)
      → steps_in (map (outside_item session settled) (filter (λ (item : Item). comes_from_outside item.step) items))
      ≡ filter comes_from_outside (steps_of items)
  unfolding steps_in
  steps_outside session settled [] = refl
  steps_outside session settled (item ∷ items) = at (comes_from_outside item.step) (steps_outside session settled items)
    where
      outer : List Item → List Step
      outer items = map (λ (one : Outside). one.step) (map (outside_item session settled) items)

      at : (b : Bool)
          → map (λ (one : Outside). one.step) (map (outside_item session settled) (filter (λ (item : Item). comes_from_outside item.step) items))
          ≡ filter comes_from_outside (steps_of items)
          → map (λ (one : Outside). one.step)
          (map (outside_item session settled)
          (cond b (item ∷ filter (λ (item : Item). comes_from_outside item.step) items) (filter (λ (item : Item). comes_from_outside item.step) items)))
          ≡ cond b (item.step ∷ filter comes_from_outside (steps_of items)) (filter comes_from_outside (steps_of items))
      at true rest = ap (λ steps. item.step ∷ steps) rest
      at false rest = rest

  kept_outside : (order : CallOrder) (session : Session) (edits : List KeptEdit) (settled run : List Step) (left : List WaitingCall)
      → IsRunFrom (first_progress order session edits settled) run left → IsAlike units (edited_session session edits).steps run
  unfolding steps_in first_progress outside_steps
  kept_outside order session edits settled run left is =
      let items = edited_items session edits in
      let made = alike_along run (first_progress order session edits settled) left (first_good order session edits settled) is in
      let same = steps_outside session settled items ∙ ap (filter comes_from_outside) (steps_of_edited session edits) in
      then_alike (edited_session session edits).steps (filter comes_from_outside (edited_session session edits).steps) run
      (back (filter comes_from_outside (edited_session session edits).steps) (edited_session session edits).steps (outside_alone (edited_session session edits).steps))
      (subst (λ steps. IsAlike units steps run) same made)

pub kept_run_keeps_outside : KeptRunKeepsOutside
kept_run_keeps_outside order session edits run left kept =
    kept_outside (edited_session session edits).header.config.units order session edits kept.settled run left kept.is_run 0
