-- Setting a priority in use changes no task's readiness, and not the number of tasks.
use Rattle.std.proofs.Common.{◌≡◌, ℕ, Bool, true, false, cond, eqb, ◌||◌, length, refl, sym, ◌∙◌, arith}
use Rattle.std.proofs.lemmas.Bool.Decides.{nat_tests}
use Rattle.std.proofs.lemmas.List.{length-set}
use Rattle.list_orders.specs.Search.{without, has}
use Rattle.bench_model.specs.Control.{Control}
use Rattle.bench_model.specs.Lists.{list_queues, outranks, add_to_ready_list}
use Rattle.bench_model.specs.ControlFields.{with_in_use, in_use_set}
use Rattle.bench_model.specs.Cores.{CoresView, cores_of, bare_view, cores_rule}
use Rattle.list_orders.proofs.Ranks.{list_any-placed}

pub in_use_ready : (task priority : ℕ) (cores : CoresView) → has task (cores_rule (in_use_set list_queues task priority) cores).ready ≡ has task cores.ready
unfolding in_use_set add_to_ready_list
in_use_ready task priority cores = at (has task cores.ready) refl
  where
    changed : Control
    changed = with_in_use task priority cores.control

    itself : (eqb task task || has task (without task cores.ready)) ≡ true
    itself = grind (arith, nat_tests)

    at : (b : Bool) → has task cores.ready ≡ b → has task (cores_of
        (record (bare_view cores) {
          control = changed;
          orders = cond b (add_to_ready_list changed task (bare_view cores).orders) (bare_view cores).orders;
        })).ready ≡ has task cores.ready
    at true ready = list_any-placed (outranks changed) (λ m. eqb m task) task (without task cores.ready) ∙ itself ∙ sym ready
    at false blocked = refl

pub in_use_tasks : (task priority : ℕ) (cores : CoresView) → length (cores_rule (in_use_set list_queues task priority) cores).control.tasks ≡ length
    cores.control.tasks
unfolding in_use_set
in_use_tasks task priority cores = length-set cores.control.tasks task _
