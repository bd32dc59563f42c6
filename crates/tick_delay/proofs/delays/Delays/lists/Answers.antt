use Rattle.std.proofs.Common.{sym, subst}
use Rattle.tick_delay.specs.Parts.{AreInTurn}
use Rattle.tick_delay.proofs.Turns.{listed_back, this_is}
use Rattle.tick_delay.proofs.delays.Delays.lists.Goals as goal

pub returns : goal.returns
returns c = subst (AreInTurn c.self.inside.lists) c.self.view_is (record {
  first_or_second = c.self.invariant.turn_low;
  both = c.self.invariant.both;
  items = c.self.invariant.items;
  this_turn = sym (this_is _ _ _ _ c.self.invariant.tick_low c.self.invariant.turns);
  in_order = sym (listed_back _ _ _ _ c.self.invariant.tick_low c.self.invariant.turns);
})
