use Rattle.std.proofs.Common.{length, ap, arith}
use Rattle.index_lists.specs.Listed.{ListsView}
use Rattle.index_lists.proofs.lists.Lists.end_of.Goals as goal

pub overflow_add-result : goal.overflow_add-result
overflow_add-result c = omega (arith, c.self.invariant.few, c.requires, ap (λ (view : ListsView). length view.lists) c.self.view_is)
