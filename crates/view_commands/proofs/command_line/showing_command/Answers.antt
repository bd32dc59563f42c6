use Rattle.std.proofs.Common.{◌≡◌, ◌∙◌, ap, true}
use Rattle.std.proofs.lemmas.Result.{IfOk-weaker}
use Rattle.clap.specs.Simple.{app_of_fields}
use Rattle.clap.specs.Words.{App, app_of}
use Rattle.command_words.proofs.Printed.{one_more}
use Rattle.view_commands.specs.CommandLine.{versioned_app}
use Rattle.view_commands.proofs.command_line.showing_command.Goals as goal

pub returns : goal.returns
returns c =
    let versioned : app_of c.version.result ≡ versioned_app = ap app_of_fields c.version.ensures ∙ ap
    (λ (a : App). record a { top = record a.top { has_version = true } }) c.program.ensures in
    let bare : app_of c.after_help.result ≡ versioned_app = ap app_of_fields c.after_help.ensures ∙ ap app_of_fields c.about.ensures ∙ versioned in
    let traces = one_more c.after_help.result c.in_ok-subcommand.field-0 versioned_app c.in_ok-trace.trace _ bare c.in_ok-trace.ensures
    c.in_ok-subcommand.ensures in
    let sessions = one_more c.in_ok-subcommand.field-0 c.in_ok-subcommand-2.field-0 _ c.in_ok-session.session _ traces c.in_ok-session.ensures
    c.in_ok-subcommand-2.ensures in
    let settles = one_more c.in_ok-subcommand-2.field-0 c.in_ok-subcommand-3.field-0 _ c.in_ok-settle.settle _ sessions c.in_ok-settle.ensures
    c.in_ok-subcommand-3.ensures in
    let compares = one_more c.in_ok-subcommand-3.field-0 c.in_ok-subcommand-4.field-0 _ c.in_ok-compare.compare _ settles c.in_ok-compare.ensures
    c.in_ok-subcommand-4.ensures in
    IfOk-weaker c.subcommand-5.result _ _ (λ command added. one_more c.in_ok-subcommand-4.field-0 command _ c.in_ok-timeline.timeline _ compares
    c.in_ok-timeline.ensures added) c.subcommand-5.ensures
