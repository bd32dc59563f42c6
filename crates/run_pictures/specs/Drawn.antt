-- A run that is drawn.
use Rattle.std.specs.Prelude.{◌<◌, ℕ, ◌+◌, ◌^◌, List, All, Option, length}
use Rattle.bench_types.specs.declared.header.Header.{Header}
use Rattle.bench_types.specs.declared.step.Step.{Step}
use Rattle.bench_types.specs.Header.{IsCheckedHeader}
use Rattle.bench_types.specs.Step.{settings_of, IsCheckedStep}
use Rattle.run_pictures.specs.declared.picture.PlacedRun.{PlacedRun}

pub record Drawn : Type 0 where
  pub header : Header
  pub steps : List Step
  -- the column at which each place begins
  pub columns : List ℕ
  -- from which place on it is not known what tasks do
  pub known : Option ℕ

abbrev pub drawn : PlacedRun → Drawn
drawn run = record {
  header = run.session.now.header;
  steps = run.session.now.steps;
  columns = run.columns.now;
  known = run.known;
}

-- a checked session's run, the places of which have numbers of 32 bits
pub record IsDrawable (run : Drawn) : Type 0 where
  pub header : IsCheckedHeader run.header
  pub steps : All (IsCheckedStep (settings_of run.header)) run.steps
  pub few : length run.steps + 1 < 2 ^ 32
