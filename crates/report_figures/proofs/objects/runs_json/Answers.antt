use Rattle.std.proofs.Common.{ap, ◌∙◌}
use Rattle.serde_json.specs.Written.{has_float}
use Rattle.report_figures.proofs.Floats.{pair_free}
use Rattle.report_figures.proofs.objects.runs_json.Goals as goal

pub line_of-requires : goal.line_of-requires
line_of-requires c = ap has_float c.in_ok-value.ensures ∙ pair_free c.args.header.now c.args.before.now c.args.after.now c.args.settled
