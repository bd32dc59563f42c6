use Rattle.std.proofs.Common.{◌≡◌, length}
use Rattle.ranked_changes.specs.Ranking.{AreRead}
use Rattle.ranked_changes.proofs.trying.entries_of.Given as goal

abbrev pub invariant-loop-place : goal.invariant-loop-place
invariant-loop-place l = record {
  count : length l.entries.items ≡ l.place;
  read : AreRead l.header l.changes l.verdicts l.entries.items;
}
