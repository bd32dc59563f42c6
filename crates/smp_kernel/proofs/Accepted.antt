-- What a checked step finds in a settled kernel where it is not refused, and what it answers and does either way.
use Rattle.std.proofs.Common.{◌≡◌, ℕ, ◌<◌, ◌≤◌, Bool, true, false, cond, not, eqb, ◌&&◌, List, Option, Some, None, Ok, refl, subst, arith}
use Rattle.std.specs.Option.{ForSome, option_map_or}
use Rattle.std.proofs.lemmas.Bool.Decides.{nat_tests}
use Rattle.bench_types.specs.declared.kernel_data.Hold.{Hold}
use Rattle.bench_types.specs.declared.reply.Reply.TheVariants.{Refused}
use Rattle.bench_types.specs.declared.reply.Refusal.{Refusal}
use Rattle.bench_types.specs.declared.reply.Refusal.TheVariants.{NotHolder}
use Rattle.bench_types.specs.declared.step.Call.TheVariants.{MutexGive}
use Rattle.bench_types.specs.declared.step.Call.{Call}
use Rattle.bench_types.specs.declared.step.Step.{Step}
use Rattle.bench_types.specs.declared.step.Step.TheVariants as steps
use Rattle.bench_types.specs.Step.{step_check, core_check, task_check, call_check, ◌>>◌}
use Rattle.bench_types.specs.Limits.{max_depth}
use Rattle.list_orders.specs.Search.{has}
use Rattle.bench_model.specs.Control.{current, is_due}
use Rattle.bench_model.specs.Holds.{is_held_by, depth_of}
use Rattle.bench_model.specs.Refusals.{give_refusal, refusal}
use Rattle.bench_model.specs.State.{holder_at}
use Rattle.bench_model.specs.Steps.{performed, after}
use Rattle.bench_model.specs.Lists.{View, list_queues}
use Rattle.bench_types.proofs.Passes.{both_pass, checked_core, checked_task}
use Rattle.step_laws.proofs.Holds.{its_hold, accepted}
use Rattle.smp_kernel.specs.Kernel.{IsSettled, FindsItsTask}

-- a task that may give a mutex holds it itself, if a task does
pub own_mutex : (holders : List (Option ℕ)) (task mutex : ℕ) → give_refusal holders task (MutexGive mutex) ≡ None → ForSome (holder_at holders mutex)
    (λ holder. holder ≡ task)
own_mutex holders task mutex accepted holder held = at (eqb holder task) refl
    (subst (λ of. option_map_or (λ holder. cond (eqb holder task) None (Some NotHolder)) of None ≡ None) held accepted)
  where
    at : (b : Bool) → eqb holder task ≡ b → cond b None (Some NotHolder) ≡ None → holder ≡ task
    at true same accepted = grind (arith, nat_tests, same)
    at false other accepted = absurd (cc (accepted))

-- the current task of a core on which a call is accepted is ready
caller_ready : (core : ℕ) (view : View) → IsSettled view → core < view.settings.cores → (is_due view.control core && not (is_held_by core view.hold)) ≡ false →
    has (current view.control core) view.orders.ready ≡ true
caller_ready core view settled low may = at (is_due view.control core) refl (is_held_by core view.hold) refl
  where
    at : (b : Bool) → is_due view.control core ≡ b → (d : Bool) → is_held_by core view.hold ≡ d → has (current view.control core) view.orders.ready ≡ true
    at false idle d held = settled.runs_ready core low idle
    at true due true held = let it = its_hold core view.hold held in subst (λ c. has (current view.control c) view.orders.ready ≡ true) it.2
        (settled.held it.0 it.1).ready
    at true due false free = absurd (cc (may, due, free))

-- the kernel is not held too many times over
depth_most : (view : View) → IsSettled view → depth_of view.hold ≤ max_depth
depth_most view settled = at view.hold refl
  where
    at : (hold : Option Hold) → view.hold ≡ hold → depth_of hold ≤ max_depth
    at None free = omega arith
    at (Some hold) is = (settled.held hold is).depth

pub finds_its_task : (core task : ℕ) (call : Call) (view : View) → IsSettled view → step_check view.settings (steps.Call core task call) ≡ Ok tt → refusal
    list_queues (steps.Call core task call) view ≡ None → FindsItsTask view core task call
finds_its_task core task call view settled passes none =
    let both = both_pass (core_check view.settings core >> task_check view.settings task) (call_check view.settings call) passes in
    let in_range = both_pass (core_check view.settings core) (task_check view.settings task) both.0 in
    let low = checked_core view.settings core in_range.0 in
    let found = accepted list_queues core task call view none in
    record {
      core_below = low;
      task_below = (checked_task view.settings task in_range.1).1;
      ready = subst (λ i. has i view.orders.ready ≡ true) found.current (caller_ready core view settled low found.may_call);
      checked = both.1;
      own = found.own;
      depth = depth_most view settled;
      calls = settled.calls;
    }

pub after_refused : (step : Step) (view : View) (why : Refusal) → refusal list_queues step view ≡ Some why → (Refused why, view) ≡ after list_queues step view
unfolding after
after_refused step view why is = rw is refl

pub after_accepted : (step : Step) (view : View) → refusal list_queues step view ≡ None → performed list_queues step view ≡ after list_queues step view
unfolding after
after_accepted step view is = rw is refl
