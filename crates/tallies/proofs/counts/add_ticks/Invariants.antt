use Rattle.std.proofs.Common.{◌+◌, get_or}
use Rattle.tallies.proofs.InPlace.{IsSetTo}
use Rattle.tallies.proofs.counts.add_ticks.Given as goal

abbrev pub invariant-loop-place : goal.invariant-loop-place
invariant-loop-place l = IsSetTo (λ place. get_or l.fn.runs place 0 + get_or l.more place 0) 0 l.fn.runs l.place l.runs
