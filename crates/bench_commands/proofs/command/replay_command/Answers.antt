use Rattle.std.proofs.Common.{rules, refl, codes}
use Rattle.std.proofs.lemmas.Result.{IfOk-weaker}
use Rattle.clap.specs.Words.{new_app}
use Rattle.command_words.specs.Printed.{IsPrinted}
use Rattle.command_words.proofs.Printed.{more_printed}
use Rattle.bench_commands.proofs.command.replay_command.Goals as goal

pub returns : goal.returns
returns c =
    let bare : IsPrinted c.after_help.result (new_app (codes "replay")) = (search rules, search rules) in
    let spans = more_printed c.after_help.result c.in_ok-arg.field-0 _ c.span_option.result _ bare c.span_option.ensures refl c.in_ok-arg.ensures in
    IfOk-weaker c.arg-2.result _ _ (λ command added. more_printed c.in_ok-arg.field-0 command _ c.tally_flag.result _ spans c.tally_flag.ensures refl added)
    c.arg-2.ensures
