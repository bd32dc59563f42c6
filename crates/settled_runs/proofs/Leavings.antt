-- How many calls are left.
use Rattle.std.proofs.Common.{ℕ, suc, ◌+◌, ◌≤◌, Bool, true, false, cond, ◌==◌, List, [], ◌∷◌, ◌++◌, length, length-append, subst, arith}
use Rattle.std.proofs.lemmas.List.Sums.{count_by-le-length, length-filter}
use Rattle.bench_types.specs.declared.step.Step.{Step}
use Rattle.bench_types.specs.declared.step.Step.TheVariants.{Tick, Switch, Interrupt, QueueInterrupt, ResumeInterrupt, Pass}
use Rattle.bench_types.specs.declared.step.Step.TheVariants as steps
use Rattle.bench_model.specs.Session.{state_after}
use Rattle.bench_model.specs.Start.{start}
use Rattle.bench_model.specs.Table.{Table}
use Rattle.settled_runs.specs.declared.waiting_call.WaitingCall.{WaitingCall}
use Rattle.settled_runs.specs.Settled.{events_of, is_event, is_finish, made_at_once, still_waiting, waiting_after, waiting_with, without_first, IsSettledFrom}
use Rattle.settled_runs.specs.SettleLaws.{FewAreLeft}

few_without : (task : ℕ) (waiting : List WaitingCall) → length (without_first task waiting) ≤ length waiting
few_without task [] = omega arith
few_without task (waits ∷ waiting) = at (waits.task == task) (few_without task waiting)
  where
    at : (b : Bool) → length (without_first task waiting) ≤ length waiting → length (cond b waiting (waits ∷ without_first task waiting)) ≤ suc (length waiting)
    at true few = omega arith
    at false few = omega (arith, few)

few_after : (waiting : List WaitingCall) (step : Step) → length (waiting_after waiting step) ≤ length waiting
few_after waiting Tick = omega arith
few_after waiting (Switch core) = omega arith
few_after waiting (Interrupt core note) = omega arith
few_after waiting (QueueInterrupt core queue direction) = omega arith
few_after waiting (ResumeInterrupt core task) = omega arith
few_after waiting (Pass units) = omega arith
few_after waiting (steps.Call core task call) = at (is_finish call)
  where
    at : (b : Bool) → length (cond b waiting (without_first task waiting)) ≤ length waiting
    at true = omega arith
    at false = few_without task waiting

few_still : (waiting : List WaitingCall) (made : List Step) → length (still_waiting waiting made) ≤ length waiting
few_still waiting [] = omega arith
few_still waiting (step ∷ made) = omega (arith, few_after waiting step, few_still (waiting_after waiting step) made)

few_with : (waiting : List WaitingCall) (event : Step) → length (waiting_with waiting event) ≤ suc (length waiting)
few_with waiting Tick = omega arith
few_with waiting (Switch core) = omega arith
few_with waiting (Interrupt core note) = omega arith
few_with waiting (QueueInterrupt core queue direction) = omega arith
few_with waiting (ResumeInterrupt core task) = omega arith
few_with waiting (Pass units) = omega arith
few_with waiting (steps.Call core task call) = omega (arith, length-append waiting (record { task = task; call = call } ∷ []))

few_from : (events : List Step) (table : Table) (waiting : List WaitingCall) (run : List Step) (left : List WaitingCall) → IsSettledFrom table waiting events
    run left → length left ≤ length waiting + length events
few_from [] table waiting run left settled = subst (λ calls. length calls ≤ length waiting + 0) settled.1 (omega (arith, few_still waiting run))
few_from (event ∷ events) table waiting run left settled =
    let quiet = settled.0 in
    let waits = still_waiting waiting quiet in
    omega (
      arith,
      few_still waiting quiet,
      few_with waits event,
      few_from events (state_after table (quiet ++ made_at_once event)) (waiting_with waits event)
          settled.1 left settled.4,
    )

pub few_are_left : FewAreLeft
few_are_left header session run left settled = omega (
  arith,
  few_from (events_of session) (start header) [] run left settled,
  length-filter is_event session,
  count_by-le-length is_event session,
)
