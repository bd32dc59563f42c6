use Rattle.std.proofs.Common.{◌∙◌, Some, None, ap, string_bytes}
use Rattle.view_commands.specs.Commands.{unshown_edit}
use Rattle.view_commands.proofs.Outputs.{unless_told}
use Rattle.view_commands.proofs.input.printed_of_bench.Goals as goal

pub returns-in-Some : goal.returns-in-Some
returns-in-Some g c =
    unless_told (string_bytes c.args.lines) c.args.job.now c.args.bench (Some c.in-Some.place) c.refused_work.result
    (c.in-Some.ensures ∙ ap (unshown_edit c.args.job.now.sessions) c.as_slice.ensures) c.refused_work.ensures

pub returns-in-None : goal.returns-in-None
returns-in-None g c =
    unless_told (string_bytes c.args.lines) c.args.job.now c.args.bench None c.printed_of_session.result
    (c.in-None.ensures ∙ ap (unshown_edit c.args.job.now.sessions) c.as_slice.ensures) c.printed_of_session.ensures
