use Rattle.std.proofs.Common.{rules, refl, codes}
use Rattle.std.proofs.lemmas.Result.{IfOk-weaker}
use Rattle.clap.specs.Words.{new_app}
use Rattle.command_words.specs.Printed.{IsPrinted}
use Rattle.command_words.proofs.Printed.{more_printed}
use Rattle.bench_commands.proofs.command.what_if_command.Goals as goal

pub returns : goal.returns
returns c =
    let bare : IsPrinted c.after_help.result (new_app (codes "whatif")) = (search rules, search rules) in
    IfOk-weaker c.arg.result _ _ (λ command added. more_printed c.after_help.result command _ c.span_option.result _ bare c.span_option.ensures refl added)
    c.arg.ensures
