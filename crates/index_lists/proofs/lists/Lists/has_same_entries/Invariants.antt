use Rattle.std.proofs.Common.{◌≡◌, ◌+◌, drop, take}
use Rattle.index_lists.specs.Listed.{list_at, items_of}
use Rattle.index_lists.specs.Rings.{first_or}
use Rattle.index_lists.proofs.lists.Lists.has_same_entries.Given as goal

-- the entries so far are the same, and the nodes are those of the next place
abbrev pub invariant-loop-step : goal.invariant-loop-step
invariant-loop-step l = record {
  same : take l._step (list_at l.self l.list) ≡ take l._step (list_at l.other l.other_list);
  mine : l.mine ≡ first_or (l.self.items + l.list) (items_of (drop l._step (list_at l.self l.list)));
  theirs : l.theirs ≡ first_or (l.other.items + l.other_list) (items_of (drop l._step (list_at l.other l.other_list)));
}
