use Rattle.std.proofs.Common.{rules}
use Rattle.bench_types.specs.Step.{settings_of}
use Rattle.run_numbers.specs.Readings.{IsSubjectOf}
use Rattle.std.proofs.lemmas.List.Elements.{All-same}
use Rattle.report_figures.specs.Subjects.{subjects_of}
use Rattle.report_figures.proofs.Measurable.{subjects_fit}
use Rattle.report_figures.proofs.subjects.subjects_of.Goals as goal

pub returns-clause-each : goal.returns-clause-each
returns-clause-each c =
    All-same (IsSubjectOf (settings_of c.args.header.now)) _ (subjects_of c.args.header.now) (search rules) (subjects_fit c.args.header.now)
