-- What a source with a change made is compared with.
use Rattle.std.specs.Prelude.{List}
use Rattle.bench_types.specs.Step.{settings_of}
use Rattle.run_numbers.specs.Readings.{IsSubjectOf}
use Rattle.run_sources.specs.declared.source.Source.{Source}
use Rattle.run_sources.specs.Sources.{header_of}
use Rattle.ranked_changes.specs.declared.judge.Judge.{Judge}
use Rattle.ranked_changes.specs.declared.judge.Measure.{Measure}
use Rattle.ranked_changes.specs.declared.judge.Measure.TheVariants as measure
use Rattle.report_figures.specs.declared.figures.Figure.{Figure}
use Rattle.report_figures.specs.declared.figures.Part.{Part}
use Rattle.report_figures.specs.declared.figures.Part.TheVariants.{Total, Longest}
use Rattle.session_advice.specs.declared.basis.Base.{Base}

-- a source, the figures of its run, and the one that is to be lower
pub record Basis : Type 0 where
  pub source : Source
  pub figures : List Figure
  pub judged : Figure

abbrev pub basis_of : Base → Basis
basis_of base = record {
  source = base.source.now;
  figures = base.figures.now;
  judged = base.judged;
}

-- the number of a subject that a figure tells
abbrev pub measure_of : Part → Measure
measure_of Total = measure.Total
measure_of Longest = measure.Longest

-- the judge that goes by the figure
abbrev pub judge_of : Basis → Judge
judge_of basis = record {
  subject = basis.judged.subject;
  measure = measure_of basis.judged.part;
}

-- the figure is one of the source's subjects
abbrev pub IsBasis : Basis → Type 0
IsBasis basis = IsSubjectOf (settings_of (header_of basis.source)) basis.judged.subject
