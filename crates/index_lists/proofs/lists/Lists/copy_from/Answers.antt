use Rattle.std.proofs.Common.{◌∙◌, ap, sym}
use Rattle.index_lists.specs.Listed.{ListsView}
use Rattle.index_lists.proofs.lists.Lists.copy_from.Goals as goal

pub invariant_of-self : goal.invariant_of-self
invariant_of-self c =
    rw (
      c.copy_from_slice.ensures.items ∙ c.deref.ensures.value,
      c.copy_from_slice-2.ensures.items ∙ c.deref-2.ensures.value,
      c.copy_from_slice-3.ensures.items
          ∙ c.deref-3.ensures.value,
      ap (λ (v : ListsView). v.items) c.self.view_is ∙ c.requires.items ∙ sym (ap (λ (v : ListsView). v.items) c.other.view_is),
    )
    c.other.invariant
