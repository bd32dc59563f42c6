use Rattle.std.proofs.Common.{ap, ◌∙◌}
use Rattle.std.specs.Prelude.{IfOk, Result}
use Rattle.std.specs.declared.alloc.AllocError.{AllocError}
use Rattle.rayon.proofs.ListFacts.{IfOk-then}
use Rattle.rayon.proofs.ToStd.{slice-AllZip}
use Rattle.ranked_changes.specs.declared.change.Change.{Change}
use Rattle.ranked_changes.specs.declared.judge.Verdict.{Verdict}
use Rattle.ranked_changes.specs.Changed.{changed}
use Rattle.ranked_changes.specs.Verdicts.{IsVerdict}
use Rattle.ranked_changes.proofs.trying.part_verdicts.Goals as goal

pub returns : goal.returns
returns g c =
    let source = c.args.source.now in
    let slice = ap (λ it. it.slice.now) c.map.ensures.base ∙ c.par_iter.ensures in
    IfOk-then c.collect.result _ _ c.collect.ensures (λ v h.
    let chain = rw (c.with_min_len.ensures.base, c.map.ensures.f) at h.1 in
    rw h.2 (slice-AllZip chain.0 c.args.changes.now (chain.1 ∙ slice) (λ (made : Change) (verdict : Result Verdict AllocError). IfOk verdict
    (IsVerdict c.args.judge (changed source made))) h.0 chain.2))
