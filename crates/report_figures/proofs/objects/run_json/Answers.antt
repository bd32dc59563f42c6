use Rattle.std.proofs.Common.{ap, ◌∙◌}
use Rattle.serde_json.specs.Written.{has_float}
use Rattle.report_figures.proofs.Floats.{run_free}
use Rattle.report_figures.proofs.objects.run_json.Goals as goal

pub line_of-requires : goal.line_of-requires
line_of-requires c = ap has_float c.in_ok-value.ensures ∙ run_free c.args.header.now c.args.figures.now c.args.settled
