use Rattle.std.proofs.Common.{◌≡◌, length}
use Rattle.tick_delay.specs.Later.{first_ones_later}
use Rattle.tick_delay.proofs.delays.shift.make_later.Given as goal

-- the tasks so far wake later
abbrev pub invariant-loop-place : goal.invariant-loop-place
invariant-loop-place l = record {
  moved : l.lists ≡ first_ones_later l.later.by l.later.tick l.later.turn l.list l._place l.initial.lists;
  two : length l.lists.lists ≡ 2;
}
