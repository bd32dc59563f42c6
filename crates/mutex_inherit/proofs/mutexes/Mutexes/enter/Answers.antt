use Rattle.std.proofs.Common.{◌<◌, ◌-◌, length, ◌∙◌, ap, length-set, arith}
use Rattle.mutex_inherit.specs.Parts.{MutexPart}
use Rattle.mutex_inherit.proofs.Rows.{waiters_more}
use Rattle.mutex_inherit.proofs.Waits.{free_seen, seen_enter}
use Rattle.mutex_inherit.proofs.mutexes.Mutexes.enter.Goals as goal

pub insert_sorted-requires-clause-free : goal.insert_sorted-requires-clause-free
insert_sorted-requires-clause-free c = free_seen _ _ _ _ _ c.self.inside.lists _ c.self.view_is c.args.task c.requires.free

pub invariant_of-self : goal.invariant_of-self
invariant_of-self c =
    let low : c.args.list < length c.self.inside.lists.lists = omega (
      arith,
      c.requires.list,
      c.self.invariant.each,
      ap
          (λ (view : MutexPart). view.lists) c.self.view_is,
    ) in
    let below : c.args.priority < c.self.inside.priorities = omega (arith, c.requires.priority, ap (λ (view : MutexPart). view.priorities) c.self.view_is) in
    rw c.insert_sorted.ensures.inserted (record {
      few_lists = c.self.invariant.few_lists;
      of_mutexes = c.self.invariant.of_mutexes;
      held_by_tasks = c.self.invariant.held_by_tasks;
      items = c.self.invariant.items;
      each = length-set c.self.inside.lists.lists c.args.list _ ∙ c.self.invariant.each;
      waiting = waiters_more c.self.inside.priorities c.args.list (record { item = c.args.task; key = c.self.inside.priorities - c.args.priority })
          c.self.inside.lists.lists low (omega (arith, below), omega arith) c.self.invariant.waiting;
      list_values = c.self.invariant.list_values;
    })

pub returns : goal.returns
returns c =
    let low : c.args.list < length c.self.inside.lists.lists = omega (
      arith,
      c.requires.list,
      c.self.invariant.each,
      ap
          (λ (view : MutexPart). view.lists) c.self.view_is,
    ) in
    let below : c.args.priority < c.self.inside.priorities = omega (arith, c.requires.priority, ap (λ (view : MutexPart). view.priorities) c.self.view_is) in
    rw c.insert_sorted.ensures.inserted (seen_enter _ _ _ _ _ c.self.inside.lists _ c.self.view_is c.args.task c.args.list c.args.priority low below
    c.self.invariant.waiting)
