use Rattle.std.proofs.Common.{List, take, sym, subst, ap, ◌∙◌}
use Rattle.std.specs.Prelude.{All}
use Rattle.ranked_changes.specs.declared.change.Change.{Change}
use Rattle.ranked_changes.specs.declared.judge.Judge.{Judge}
use Rattle.ranked_changes.specs.declared.rank.Ranked.{Ranked}
use Rattle.ranked_changes.specs.Ranking.{IsRanking}
use Rattle.session_advice.specs.Advice.{IsJudged}
use Rattle.session_advice.specs.Basis.{basis_of, Basis}
use Rattle.session_advice.proofs.NumbersOfAdvice.{best_judged}
use Rattle.session_advice.proofs.advice.advice_text.Goals as goal

pub push_entries-requires-clause-judged : goal.push_entries-requires-clause-judged
push_entries-requires-clause-judged g c =
    let basis : Basis = basis_of c.args.base.now in
    let changes : List Change = c.in_ok-advice.advice.changes.items in
    let ranked : List Ranked = c.in_ok-advice.advice.ranked.items in
    let ranking = subst (λ (judge : Judge). IsRanking judge basis.source changes ranked) c.judge_of-judge.ensures c.in_ok-advice.ensures.ranked in
    subst (λ (changes : List Change). All (IsJudged basis changes) c.best_of-best.result.now) (sym c.as_slice-changes.ensures.value)
    (subst (λ (best : List Ranked). All (IsJudged basis changes) best) (sym (c.best_of-best.ensures ∙ ap (take c.args.best) c.as_slice.ensures.value))
    (best_judged basis changes ranked c.args.best ranking))
