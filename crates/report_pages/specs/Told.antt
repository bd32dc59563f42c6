-- What a report tells of a run.
use Rattle.std.specs.Prelude.{List}
use Rattle.report_figures.specs.declared.figures.Figure.{Figure}
use Rattle.task_jobs.specs.declared.histogram.Histogram.{Histogram}

pub record Told : Type 0 where
  pub figures : List Figure
  -- of each task, how many of its jobs that ended took how long
  pub responses : List Histogram
