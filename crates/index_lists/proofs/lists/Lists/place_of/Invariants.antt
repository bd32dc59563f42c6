use Rattle.std.proofs.Common.{◌≡◌, ◌+◌, drop}
use Rattle.std.specs.Prelude.{nat_le}
use Rattle.std.specs.List.{prefix_len}
use Rattle.index_lists.specs.Listed.{Listed, list_at, items_of}
use Rattle.index_lists.specs.Rings.{first_or}
use Rattle.index_lists.proofs.lists.Lists.place_of.Given as goal

-- the keys so far are as low, and the node is that of the next place
abbrev pub invariant-loop-step : goal.invariant-loop-step
invariant-loop-step l = record {
  keys : l._step + prefix_len (λ (entry : Listed). nat_le entry.key l.key) (drop l._step (list_at l.self l.list)) ≡ prefix_len
      (λ (entry : Listed). nat_le entry.key l.key) (list_at l.self l.list);
  node : l.at ≡ first_or (l.self.items + l.list) (items_of (drop l._step (list_at l.self l.list)));
}
