use Rattle.std.proofs.Common.{◌+◌, ◌≤◌, length, take, sym, subst, arith}
use Rattle.std.specs.Prelude.{IfOk, List, Result}
use Rattle.std.specs.declared.alloc.AllocError.{AllocError}
use Rattle.ranked_changes.specs.declared.change.Change.{Change}
use Rattle.ranked_changes.specs.declared.judge.Verdict.{Verdict}
use Rattle.ranked_changes.specs.Changed.{changed}
use Rattle.ranked_changes.specs.Ranking.{AreVerdicts}
use Rattle.ranked_changes.specs.Verdicts.{IsVerdict}
use Rattle.ranked_changes.proofs.Parts.{part_more}
use Rattle.ranked_changes.proofs.Told.{tells_more}
use Rattle.ranked_changes.proofs.trying.verdicts_of.Goals as goal

pub loop-done-preserved : goal.loop-done-preserved
loop-done-preserved g c =
    let source = c.args.source.now in
    let done = c.loop-done.done in
    let end = done + c.min.result in
    let more : done ≤ end = omega arith in
    record {
      within = omega arith;
      judged = subst (λ (verdicts : List (Result Verdict AllocError)). AreVerdicts c.args.judge source (take end c.args.changes.now) verdicts)
          (sym c.in_ok-append.ensures.items)
          (part_more (λ (made : Change) (verdict : Result Verdict AllocError). IfOk verdict (IsVerdict c.args.judge (changed source made)))
          c.args.changes.now c.loop-done.verdicts.items c.in_ok-more.more.items done end more c.loop-done.invariant.judged c.in_ok-more.ensures);
      told = tells_more g.P.Progress.tells (length c.args.changes.now) done end c.args.progress.now c.loop-done.progress c.tell.new.self
          c.loop-done.invariant.told (omega arith) c.tell.ensures;
    }
