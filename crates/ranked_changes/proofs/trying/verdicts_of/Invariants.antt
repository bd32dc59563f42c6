use Rattle.std.proofs.Common.{◌≤◌, ◌-◌, length, take}
use Rattle.ranked_changes.specs.Ranking.{AreVerdicts}
use Rattle.ranked_changes.specs.Tellings.{TellsUpTo}
use Rattle.ranked_changes.proofs.trying.verdicts_of.Given as goal

abbrev pub invariant-loop-done : goal.invariant-loop-done
invariant-loop-done g l = record {
  within : l.done ≤ length l.changes;
  judged : AreVerdicts l.judge l.source (take l.done l.changes) l.verdicts.items;
  told : TellsUpTo g.P.Progress.tells (length l.changes) l.done l.fn.progress l.progress;
}

abbrev pub decreases-loop-done : goal.decreases-loop-done
decreases-loop-done g l = length l.changes - l.done
