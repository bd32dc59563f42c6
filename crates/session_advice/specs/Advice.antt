-- The texts of advice.
use Rattle.std.specs.Prelude.{◌≡◌, ◌<◌, ℕ, List, ◌++◌, length, take, find, codes, decimal, Option, Some, None, slice_get}
use Rattle.std.specs.List.{AllZip, concat, enumerate_from}
use Rattle.ranked_changes.specs.declared.change.Change.{Change}
use Rattle.ranked_changes.specs.declared.change.Family.{Family}
use Rattle.ranked_changes.specs.declared.judge.Verdict.{Verdict}
use Rattle.ranked_changes.specs.declared.rank.Ranked.{Ranked}
use Rattle.ranked_changes.specs.Changed.{changed}
use Rattle.ranked_changes.specs.Changes.{changes_of}
use Rattle.ranked_changes.specs.Ranking.{IsRanking}
use Rattle.ranked_changes.specs.Verdicts.{IsVerdict}
use Rattle.report_figures.specs.declared.figures.Figure.{Figure}
use Rattle.report_figures.specs.Limits.{has_name, value_text}
use Rattle.session_reports.specs.Checks.{unknown_text}
use Rattle.session_reports.specs.Figures.{run_figures}
use Rattle.session_runs.specs.Run.{RunView}
use Rattle.run_sources.specs.declared.source.Source.{Source}
use Rattle.run_sources.specs.Sources.{header_of, IsRunOfSource}
use Rattle.session_advice.specs.declared.question.AdviceStatus.TheVariants.{Given, Unknown}
use Rattle.session_advice.specs.Basis.{judge_of, Basis}
use Rattle.session_advice.specs.Costs.{AreCosts}
use Rattle.session_advice.specs.Questions.{Asked, Printed}
use Rattle.session_advice.specs.Words.{change_words, verdict_words}

-- the value that is to be lower, and how many changes were tried
unfoldable pub head_line : Basis → ℕ → List ℕ
head_line basis count =
    value_text (header_of basis.source) basis.judged ++ codes "; " ++ decimal count
    ++ codes " changes tried\n"

-- a rank, a change and what was said of it
unfoldable pub entry_line : Basis → ℕ → Change → Verdict → List ℕ
entry_line basis rank made verdict =
    decimal rank ++ codes ". " ++ change_words (header_of basis.source) made ++ codes ": "
    ++ verdict_words basis.judged.value verdict ++ codes "\n"

-- the lines of an entry of this rank: that of its change, and those of what it costs
pub record IsEntryText (basis : Basis) (changes : List Change) (rank : ℕ) (entry : Ranked)
    (text : List ℕ) : Type 0 where
  pub made : Change
  pub stands : slice_get changes entry.index ≡ Some made
  pub costs : List ℕ
  pub are : AreCosts basis made entry.verdict costs
  pub is : text ≡ entry_line basis rank made entry.verdict ++ costs

-- the lines of each of the best, whose ranks are counted from 1
abbrev pub AreEntryTexts : Basis → List Change → List Ranked → List (List ℕ) → Type 0
AreEntryTexts basis changes best texts =
    AllZip (λ ranked text. IsEntryText basis changes ranked.0 ranked.1 text)
    (enumerate_from 1 best) texts

-- the line of the value, and then those of the best of all changes of the family
pub record IsAdviceText (basis : Basis) (family : Family) (best : ℕ) (text : List ℕ) : Type 0
  where
    pub ranked : List Ranked
    pub ranking : IsRanking (judge_of basis) basis.source (changes_of basis.source family) ranked
    pub texts : List (List ℕ)
    pub printed : AreEntryTexts basis (changes_of basis.source family) (take best ranked) texts
    pub is : text
        ≡ head_line basis (length (changes_of basis.source family)) ++ concat texts

-- what advice is compared with where the figure is to be lower
abbrev pub basis_at : Source → List Figure → Figure → Basis
basis_at source figures figure = record {
  source = source;
  figures = figures;
  judged = figure;
}

-- advice on the figure that has the name, or the names of all where none has it
abbrev pub IsPrintedOf : Asked → Source → List Figure → Option Figure → Printed → Type 0
IsPrintedOf asked source figures (Some figure) printed =
    (printed.status ≡ Given)
    × IsAdviceText (basis_at source figures figure) asked.family asked.best printed.text
IsPrintedOf asked source figures None printed =
    printed
    ≡ record { status = Unknown; text = unknown_text (header_of source) figures asked.name }

-- what is told of the source, whose run has these figures
abbrev pub IsAdviceOn : Asked → Source → List Figure → Printed → Type 0
IsAdviceOn asked source figures printed =
    IsPrintedOf asked source figures (find (has_name (header_of source) asked.name) figures)
    printed

-- what is told of the source
pub record IsAdvice (asked : Asked) (source : Source) (printed : Printed) : Type 0 where
  pub run : RunView
  pub is_run : IsRunOfSource source run
  pub is : IsAdviceOn asked source (run_figures run) printed

-- ---- on the way

-- the text goes on with the costs of a change
pub record AddsCosts (basis : Basis) (made : Change) (verdict : Verdict) (before after : List ℕ) :
    Type 0 where
  pub costs : List ℕ
  pub are : AreCosts basis made verdict costs
  pub is : after ≡ before ++ costs

-- it goes on with the lines of an entry
pub record AddsEntry (basis : Basis) (changes : List Change) (rank : ℕ) (entry : Ranked)
    (before after : List ℕ) : Type 0 where
  pub lines : List ℕ
  pub are : IsEntryText basis changes rank entry lines
  pub is : after ≡ before ++ lines

-- it goes on with those of each of the best
pub record AddsEntries (basis : Basis) (changes : List Change) (best : List Ranked)
    (before after : List ℕ) : Type 0 where
  pub texts : List (List ℕ)
  pub are : AreEntryTexts basis changes best texts
  pub is : after ≡ before ++ concat texts

-- the entry has its change, and its verdict is what the judge says of the source with it made
pub record IsJudged (basis : Basis) (changes : List Change) (entry : Ranked) : Type 0 where
  pub within : entry.index < length changes
  pub said : (made : Change) → slice_get changes entry.index ≡ Some made
      → IsVerdict (judge_of basis) (changed basis.source made) entry.verdict
