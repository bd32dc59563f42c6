-- To a question on a source one advice is told alone.
use Rattle.std.proofs.Common.{◌≡◌, ℕ, List, [], ◌∷◌, ◌++◌, length, Option, Some, None, refl, sym, ap, ap₂, subst, ◌∙◌}
use Rattle.std.specs.Prelude.{find, take}
use Rattle.std.specs.List.{concat, enumerate_from, AllZip}
use Rattle.std.proofs.lemmas.Option.{same_Some}
use Rattle.session_runs.specs.Run.{RunView}
use Rattle.run_sources.specs.declared.source.Source.{Source}
use Rattle.run_sources.specs.Sources.{header_of}
use Rattle.run_sources.proofs.SourceRuns.{source_run_is_one}
use Rattle.ranked_changes.specs.declared.change.Change.{Change}
use Rattle.ranked_changes.specs.declared.change.Family.{Family}
use Rattle.ranked_changes.specs.declared.judge.Verdict.{Verdict}
use Rattle.ranked_changes.specs.declared.judge.Verdict.TheVariants.{Number, TooLong}
use Rattle.ranked_changes.specs.declared.rank.Ranked.{Ranked}
use Rattle.ranked_changes.specs.Changed.{changed}
use Rattle.ranked_changes.specs.Changes.{changes_of}
use Rattle.ranked_changes.proofs.OneRanking.{rankings_are_one}
use Rattle.report_figures.specs.declared.figures.Figure.{Figure}
use Rattle.report_figures.specs.Limits.{has_name}
use Rattle.session_reports.specs.Figures.{run_figures}
use Rattle.session_advice.specs.Advice.{basis_at, entry_line, head_line, AreEntryTexts, IsAdviceOn, IsAdviceText, IsEntryText, IsPrintedOf}
use Rattle.session_advice.specs.AdviceLaws.{AdviceIsOne}
use Rattle.session_advice.specs.Basis.{judge_of, Basis}
use Rattle.session_advice.specs.Costs.{cost_lines, AreCosts}
use Rattle.session_advice.specs.Questions.{Asked, Printed}

-- where each item has one partner alone, a list has one list of partners
zip_one : {X Y : Type 0} (R : X → Y → Type 0) → ((x : X) (y z : Y) → R x y → R x z → y ≡ z) → (xs : List X) (ys zs : List Y) → AllZip R xs ys → AllZip R xs zs →
    ys ≡ zs
zip_one R one [] [] [] is too = refl
zip_one R one [] [] (z ∷ zs) is too = absurd too
zip_one R one [] (y ∷ ys) zs is too = absurd is
zip_one R one (x ∷ xs) [] zs is too = absurd is
zip_one R one (x ∷ xs) (y ∷ ys) [] is too = absurd too
zip_one R one (x ∷ xs) (y ∷ ys) (z ∷ zs) is too =
    let first = one x y z is.0 too.0 in
    let rest = zip_one R one xs ys zs is.1 too.1 in
    λ i. first i ∷ rest i

costs_one : (basis : Basis) (made : Change) (verdict : Verdict) (one other : List ℕ) → AreCosts basis made verdict one → AreCosts basis made verdict other → one
    ≡ other
costs_one basis made (Number number) one other is too =
    let same : is.0 ≡ too.0 = source_run_is_one (changed basis.source made) is.0 too.0 is.1 too.1 in
    is.2 ∙ ap (λ (run : RunView). cost_lines basis (run_figures run)) same ∙ sym too.2
costs_one basis made TooLong one other is too = is ∙ sym too

entry_one : (basis : Basis) (changes : List Change) (rank : ℕ) (entry : Ranked) (one other : List ℕ) → IsEntryText basis changes rank entry one → IsEntryText
    basis changes rank entry other → one ≡ other
entry_one basis changes rank entry one other is too =
    let same : is.made ≡ too.made = same_Some is.made too.made (sym is.stands ∙ too.stands) in
    let costs = costs_one basis too.made entry.verdict is.costs too.costs (subst (λ (made : Change). AreCosts basis made entry.verdict is.costs) same is.are)
    too.are in
    is.is ∙ ap₂ (λ (made : Change) (costs : List ℕ). entry_line basis rank made entry.verdict ++ costs) same costs ∙ sym too.is

texts_one : (basis : Basis) (changes : List Change) (best : List Ranked) (one other : List (List ℕ)) → AreEntryTexts basis changes best one → AreEntryTexts
    basis changes best other → one ≡ other
texts_one basis changes best =
    zip_one (λ (ranked : ℕ × Ranked) (text : List ℕ). IsEntryText basis changes ranked.0 ranked.1 text)
    (λ ranked one other is too. entry_one basis changes ranked.0 ranked.1 one other is too) (enumerate_from 1 best)

text_one : (basis : Basis) (family : Family) (best : ℕ) (one other : List ℕ) → IsAdviceText basis family best one → IsAdviceText basis family best other → one ≡
    other
text_one basis family best one other is too =
    let changes = changes_of basis.source family in
    let same : is.ranked ≡ too.ranked = rankings_are_one (judge_of basis) basis.source changes is.ranked too.ranked is.ranking too.ranking in
    let texts : is.texts ≡ too.texts =
    texts_one basis changes (take best too.ranked) is.texts too.texts (subst (λ (ranked : List Ranked). AreEntryTexts basis changes (take best ranked) is.texts)
    same is.printed) too.printed in
    is.is ∙ ap (λ (texts : List (List ℕ)). head_line basis (length changes) ++ concat texts) texts ∙ sym too.is

printed_one : (asked : Asked) (source : Source) (figures : List Figure) (found : Option Figure) (one other : Printed) → IsPrintedOf asked source figures
    found one → IsPrintedOf asked source figures found other → one ≡ other
printed_one asked source figures (Some figure) one other is too =
    let status = is.0 ∙ sym too.0 in
    let text = text_one (basis_at source figures figure) asked.family asked.best one.text other.text is.1 too.1 in
    λ i. record { status = status i; text = text i }
printed_one asked source figures None one other is too = is ∙ sym too

pub advice_is_one : AdviceIsOne
advice_is_one question source printed other is too =
    let same : is.run ≡ too.run = source_run_is_one source is.run too.run is.is_run too.is_run in
    let figures = run_figures too.run in
    printed_one question source figures (find (has_name (header_of source) question.name) figures) printed other
    (subst (λ (run : RunView). IsAdviceOn question source (run_figures run) printed) same is.is) too.is
