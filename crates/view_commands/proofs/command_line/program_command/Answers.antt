use Rattle.std.proofs.lemmas.Result.{IfOk-weaker}
use Rattle.command_words.proofs.Printed.{one_more}
use Rattle.view_commands.specs.CommandLine.{showing_app}
use Rattle.view_commands.proofs.command_line.program_command.Goals as goal

pub returns : goal.returns
returns c =
    let reports = one_more c.in_ok-showing_command.field-0 c.in_ok-subcommand.field-0 showing_app c.in_ok-report.report _ c.in_ok-showing_command.ensures
    c.in_ok-report.ensures c.in_ok-subcommand.ensures in
    let checks = one_more c.in_ok-subcommand.field-0 c.in_ok-subcommand-2.field-0 _ c.in_ok-check.check _ reports c.in_ok-check.ensures
    c.in_ok-subcommand-2.ensures in
    let advices = one_more c.in_ok-subcommand-2.field-0 c.in_ok-subcommand-3.field-0 _ c.in_ok-advise.advise _ checks c.in_ok-advise.ensures
    c.in_ok-subcommand-3.ensures in
    let pages = one_more c.in_ok-subcommand-3.field-0 c.in_ok-subcommand-4.field-0 _ c.in_ok-page.page _ advices c.in_ok-page.ensures c.in_ok-subcommand-4.ensures
    in
    IfOk-weaker c.subcommand-5.result _ _ (λ command added. one_more c.in_ok-subcommand-4.field-0 command _ c.in_ok-simulate.simulate _ pages
    c.in_ok-simulate.ensures added) c.subcommand-5.ensures
