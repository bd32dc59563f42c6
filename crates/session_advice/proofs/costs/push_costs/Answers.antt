use Rattle.std.proofs.Common.{sym, subst}
use Rattle.run_sources.specs.declared.source.Source.{Source}
use Rattle.run_sources.specs.Sources.{IsSourceTooLong}
use Rattle.ranked_changes.specs.declared.judge.Verdict.{Verdict}
use Rattle.ranked_changes.specs.Changed.{changed}
use Rattle.ranked_changes.specs.Verdicts.{IsVerdict}
use Rattle.session_advice.specs.Basis.{basis_of, judge_of, Basis}
use Rattle.session_advice.proofs.NumbersOfAdvice.{number_is_short}
use Rattle.session_advice.proofs.costs.push_costs.Goals as goal

pub short_run-requires : goal.short_run-requires
short_run-requires c =
    let basis : Basis = basis_of c.args.base.now in
    let after : Source = changed basis.source c.args.change in
    let said = subst (λ (verdict : Verdict). IsVerdict (judge_of basis) after verdict) c.in-Number.is c.requires.said in
    subst (λ (source : Source). ¬ (IsSourceTooLong source)) (sym c.in_ok-made-in-Number.ensures.changed)
    (number_is_short (judge_of basis) after c.in-Number.field-0 said)
