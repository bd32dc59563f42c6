use Rattle.std.proofs.Common.{◌<◌, not, eqb, sym, subst}
use Rattle.std.specs.List.{AllByRecursion}
use Rattle.bench_types.specs.declared.kernel_data.Waiter.{Waiter}
use Rattle.list_orders.proofs.Filters.{All-filter}
use Rattle.slow_replay.proofs.slow.SlowTable.leave.Goals as goal

pub invariant_of-self : goal.invariant_of-self
invariant_of-self c =
    let kept = c.self.invariant in
    record {
      few_cores = kept.few_cores;
      cores = kept.cores;
      controls = kept.controls;
      calls = kept.calls;
      notes = kept.notes;
      few_notes = kept.few_notes;
      holders = kept.holders;
      queues = kept.queues;
      few_lists = kept.few_lists;
      rows = kept.rows;
      deadlines = kept.deadlines;
      waiting_tasks = subst (AllByRecursion (λ (w : Waiter). w.task < c.self.inside.settings.tasks)) (sym c.forget.ensures)
          (All-filter (λ (w : Waiter). w.task < c.self.inside.settings.tasks) (λ (w : Waiter). not (eqb w.task c.args.task)) c.self.inside.waiters.items
          kept.waiting_tasks);
      held_by_tasks = kept.held_by_tasks;
      runs_tasks = kept.runs_tasks;
    }
