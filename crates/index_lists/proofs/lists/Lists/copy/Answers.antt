use Rattle.std.proofs.Common.{◌∙◌}
use Rattle.index_lists.proofs.lists.Lists.copy.Goals as goal

pub invariant_of-result : goal.invariant_of-result
invariant_of-result c =
    rw (
      c.in_ok-from_slice.ensures.items ∙ c.deref.ensures.value,
      c.in_ok-from_slice-2.ensures.items ∙ c.deref-2.ensures.value,
      c.in_ok-from_slice-3.ensures.items ∙ c.deref-3.ensures.value,
    ) c.self.invariant
