use Rattle.std.proofs.Common.{◌<◌, ◌-◌, length, map, ◌∙◌, ap, arith}
use Rattle.std.proofs.lemmas.List.{length-map}
use Rattle.std.proofs.lemmas.List.Elements.{All-set}
use Rattle.index_lists.specs.Listed.{keyed}
use Rattle.mutex_inherit.specs.Parts.{MutexPart}
use Rattle.mutex_inherit.proofs.Rows.{waiters_keyed}
use Rattle.mutex_inherit.proofs.Waits.{seen_valued}
use Rattle.mutex_inherit.proofs.mutexes.Mutexes.set_list_value.Goals as goal

pub invariant_of-self : goal.invariant_of-self
invariant_of-self c =
    let n = c.self.inside.priorities in
    let below : c.args.value < n = omega (arith, c.requires.value, ap (λ (view : MutexPart). view.priorities) c.self.view_is) in
    let rows = c.self.inside.lists.lists in
    rw c.set_key.ensures (record {
      few_lists = c.self.invariant.few_lists;
      of_mutexes = c.self.invariant.of_mutexes;
      held_by_tasks = c.self.invariant.held_by_tasks;
      items = c.self.invariant.items;
      each = length-map rows (map (keyed c.args.task (n - c.args.value))) ∙ c.self.invariant.each;
      waiting = waiters_keyed n c.args.task (n - c.args.value) rows (omega (arith, below)) (omega arith) c.self.invariant.waiting;
      list_values = All-set (λ v. v < n) c.self.inside.values.items c.args.task c.args.value below c.self.invariant.list_values;
    })

pub returns-then-task-len : goal.returns-then-task-len
returns-then-task-len c =
    let below : c.args.value < c.self.inside.priorities = omega (
      arith,
      c.requires.value,
      ap (λ (view : MutexPart). view.priorities) c.self.view_is,
    ) in
    let low : c.args.task < length c.self.inside.values.items = omega (arith, c.if-task-len.true, c.len.ensures) in
    rw c.set_key.ensures (seen_valued _ _ _ _ _ c.self.inside.lists _ c.self.view_is c.args.task c.args.value below low)
