use Rattle.std.proofs.Common.{rules, refl, codes}
use Rattle.std.proofs.lemmas.Result.{IfOk-weaker}
use Rattle.clap.specs.Words.{new_app}
use Rattle.command_words.specs.Printed.{IsPrinted}
use Rattle.command_words.proofs.Printed.{more_printed}
use Rattle.view_commands.proofs.command_line.simulate_command.Goals as goal

pub returns : goal.returns
returns c =
    let bare : IsPrinted c.about.result (new_app (codes "simulate")) = (search rules, search rules) in
    let ticks = more_printed c.about.result c.in_ok-arg.field-0 _ c.ticks_option.result _ bare c.ticks_option.ensures refl c.in_ok-arg.ensures in
    let strict_flags = more_printed c.in_ok-arg.field-0 c.in_ok-arg-2.field-0 _ c.strict_flag.result _ ticks c.strict_flag.ensures refl c.in_ok-arg-2.ensures in
    IfOk-weaker c.arg-3.result _ _ (λ command added. more_printed c.in_ok-arg-2.field-0 command _ c.file_argument.result _ strict_flags c.file_argument.ensures
    refl added) c.arg-3.ensures
