use Rattle.std.proofs.Common.{◌≡◌, ◌<◌, true, cond, ltb, length, map, ap, sym, subst, ◌∙◌, arith}
use Rattle.std.specs.List.{AllByRecursion}
use Rattle.std.proofs.lemmas.Bool.Decides.{nat_tests}
use Rattle.std.proofs.lemmas.List.{length-map, with_items_is}
use Rattle.bench_types.specs.declared.kernel_data.Waiter.{Waiter}
use Rattle.bench_model.specs.Waiters.{with_value}
use Rattle.order_laws.proofs.Revalued.{all_revalued}
use Rattle.slow_replay.proofs.slow.SlowTable.set_list_value.Goals as goal

pub invariant_of-self : goal.invariant_of-self
invariant_of-self c =
    let kept = c.self.invariant in
    let values = c.self.inside.values.items in
    let waiters = c.self.inside.waiters.items in
    let later = map (with_value c.args.task c.args.value) waiters in
    let all = all_revalued c.args.task c.args.value values waiters (λ (w : Waiter). w.task < c.self.inside.settings.tasks) (λ w low. low) kept.waiting_tasks in
    let some : ltb c.args.task (length values) ≡ true = grind (arith, nat_tests, c.if-task-len.true, c.len.ensures) in
    let changed = c.revalue.ensures ∙ ap (map (with_value c.args.task c.args.value)) c.deref_mut.ensures.value in
    let count = ap length changed ∙ length-map waiters _ ∙ sym c.self.inside.waiters.ok.0 in
    let written = with_items_is c.self.inside.waiters c.revalue.new.waiters count ∙ changed in
    record {
      few_cores = kept.few_cores;
      cores = kept.cores;
      controls = kept.controls;
      calls = kept.calls;
      notes = kept.notes;
      few_notes = kept.few_notes;
      holders = kept.holders;
      queues = kept.queues;
      few_lists = kept.few_lists;
      rows = kept.rows;
      deadlines = kept.deadlines;
      waiting_tasks = subst (AllByRecursion (λ (w : Waiter). w.task < c.self.inside.settings.tasks)) (sym written)
          (subst (λ b. AllByRecursion (λ (w : Waiter). w.task < c.self.inside.settings.tasks) (cond b later waiters)) some all);
      held_by_tasks = kept.held_by_tasks;
      runs_tasks = kept.runs_tasks;
    }
