use Rattle.std.proofs.Common.{◌≡◌, ◌∙◌, ap, codes}
use Rattle.std.proofs.lemmas.Result.{IfOk-weaker}
use Rattle.clap.specs.Simple.{app_of_fields}
use Rattle.clap.specs.Words.{app_of}
use Rattle.command_words.specs.Printed.{program_app}
use Rattle.command_words.proofs.Printed.{one_more}
use Rattle.bench_commands.proofs.command.bench_program.Goals as goal

pub returns : goal.returns
returns c =
    let bare : app_of c.after_help.result ≡ program_app (codes "smp_bench") = ap app_of_fields c.after_help.ensures ∙ ap app_of_fields c.about.ensures ∙
    c.program.ensures in
    let replays = one_more c.after_help.result c.in_ok-subcommand.field-0 _ c.in_ok-replay.replay _ bare c.in_ok-replay.ensures c.in_ok-subcommand.ensures in
    let what_ifs = one_more c.in_ok-subcommand.field-0 c.in_ok-subcommand-2.field-0 _ c.in_ok-what_if.what_if _ replays c.in_ok-what_if.ensures
    c.in_ok-subcommand-2.ensures in
    IfOk-weaker c.subcommand-3.result _ _ (λ command added. one_more c.in_ok-subcommand-2.field-0 command _ c.record_command.result _ what_ifs
    c.record_command.ensures added) c.subcommand-3.ensures
