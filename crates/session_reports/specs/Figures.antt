-- The figures of a run.
use Rattle.std.specs.Prelude.{List, flat_map, map}
use Rattle.session_runs.specs.Run.{RunView}
use Rattle.run_numbers.specs.Readings.{measured}
use Rattle.run_numbers.specs.Responses.{all_responses_of}
use Rattle.report_figures.specs.declared.figures.Figure.{Figure}
use Rattle.report_figures.specs.Figures.{figures_in}
use Rattle.report_figures.specs.Subjects.{subjects_of}
use Rattle.report_pages.specs.Told.{Told}

-- the figures of a run
abbrev pub run_figures : RunView → List Figure
run_figures run =
    flat_map figures_in
    (map (measured run.session.header run.session.steps run.left)
    (subjects_of run.session.header))

-- what is told of it: its figures, and the responses of its tasks
abbrev pub run_told : RunView → Told
run_told run = record {
  figures = run_figures run;
  responses = all_responses_of run.session.header run.session.steps;
}
