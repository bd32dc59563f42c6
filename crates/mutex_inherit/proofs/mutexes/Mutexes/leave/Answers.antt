use Rattle.std.proofs.Common.{◌∙◌}
use Rattle.std.proofs.lemmas.List.{length-map}
use Rattle.index_lists.specs.Listed.{without_item}
use Rattle.mutex_inherit.proofs.Rows.{waiters_gone}
use Rattle.mutex_inherit.proofs.Waits.{seen_leave}
use Rattle.mutex_inherit.proofs.mutexes.Mutexes.leave.Goals as goal

pub invariant_of-self : goal.invariant_of-self
invariant_of-self c = rw c.remove.ensures (record {
  few_lists = c.self.invariant.few_lists;
  of_mutexes = c.self.invariant.of_mutexes;
  held_by_tasks = c.self.invariant.held_by_tasks;
  items = c.self.invariant.items;
  each = length-map c.self.inside.lists.lists (without_item c.args.task) ∙ c.self.invariant.each;
  waiting = waiters_gone _ c.args.task _ c.self.invariant.waiting;
  list_values = c.self.invariant.list_values;
})

pub returns : goal.returns
returns c = rw c.remove.ensures (seen_leave _ _ _ _ _ c.self.inside.lists _ c.self.view_is c.args.task)
