-- The verdicts of a ranking are those of its changes, and a number is of a run that is not too long.
use Rattle.std.proofs.Common.{◌≡◌, ℕ, ◌<◌, List, length, get_or, Some, sym, subst, arith}
use Rattle.std.specs.Prelude.{All, slice_get, take}
use Rattle.std.proofs.lemmas.List.Elements.{All-take}
use Rattle.std.proofs.lemmas.List.Sorted.{All-permutation}
use Rattle.std.proofs.lemmas.Option.{get_or_from_slice_get}
use Rattle.run_sources.specs.declared.source.Source.{Source}
use Rattle.run_sources.specs.Sources.{IsSourceTooLong}
use Rattle.run_sources.proofs.SourceRuns.{source_too_long_is_longer}
use Rattle.ranked_changes.specs.declared.change.Change.{Change}
use Rattle.ranked_changes.specs.declared.change.Change.TheVariants.{Order}
use Rattle.ranked_changes.specs.declared.judge.Judge.{Judge}
use Rattle.ranked_changes.specs.declared.judge.Verdict.TheVariants.{Number}
use Rattle.ranked_changes.specs.declared.rank.Ranked.{Ranked}
use Rattle.ranked_changes.specs.Changed.{changed}
use Rattle.ranked_changes.specs.Ranking.{IsRanking}
use Rattle.ranked_changes.specs.Verdicts.{IsVerdict}
use Rattle.session_advice.specs.Advice.{IsJudged}
use Rattle.session_advice.specs.Basis.{judge_of, Basis}

-- the best of a ranking
pub best_judged : (basis : Basis) (changes : List Change) (ranked : List Ranked) (best : ℕ) → IsRanking (judge_of basis) basis.source changes ranked
    → All (IsJudged basis changes) (take best ranked)
best_judged basis changes ranked best is =
    All-take (IsJudged basis changes) best ranked
    (All-permutation (IsJudged basis changes) is.entries ranked is.moved
    (λ place entry within.
    let there : place < length changes = omega (arith, is.judged.count) in
    let index = (is.judged.each place some entry there).index in
    record {
      within = subst (λ (index : ℕ). index < length changes) (sym index) there;
      said = λ made stands.
          let own : get_or changes place made ≡ made = get_or_from_slice_get changes place made made
          (subst (λ (index : ℕ). slice_get changes index ≡ Some made) index stands) in
          subst (λ (made : Change). IsVerdict (judge_of basis) (changed basis.source made) (get_or is.entries place entry).verdict) own
          (is.judged.each place made entry there).verdict;
    }))
  where
    some : Change
    some = Order 0 0

-- a number is that of a run with no more steps than a session may have
pub number_is_short : (judge : Judge) (source : Source) (number : ℕ) → IsVerdict judge source (Number number) → ¬ (IsSourceTooLong source)
number_is_short judge source number said long = absurd (omega (arith, source_too_long_is_longer source said.0 long said.1, said.2))
