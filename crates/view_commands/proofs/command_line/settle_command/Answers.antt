use Rattle.std.proofs.Common.{rules, refl, codes}
use Rattle.std.proofs.lemmas.Result.{IfOk-weaker}
use Rattle.clap.specs.Words.{new_app}
use Rattle.command_words.specs.Printed.{IsPrinted}
use Rattle.command_words.proofs.Printed.{more_printed}
use Rattle.view_commands.proofs.command_line.settle_command.Goals as goal

pub returns : goal.returns
returns c =
    let bare : IsPrinted c.about.result (new_app (codes "settle")) = (search rules, search rules) in
    let keep_work_flags = more_printed c.about.result c.in_ok-arg.field-0 _ c.keep_work_flag.result _ bare c.keep_work_flag.ensures refl c.in_ok-arg.ensures in
    let ties_options = more_printed c.in_ok-arg.field-0 c.in_ok-arg-2.field-0 _ c.ties_option.result _ keep_work_flags c.ties_option.ensures refl c.in_ok-arg-2.ensures in
    let strict_flags = more_printed c.in_ok-arg-2.field-0 c.in_ok-arg-3.field-0 _ c.strict_flag.result _ ties_options c.strict_flag.ensures refl c.in_ok-arg-3.ensures in
    IfOk-weaker c.arg-4.result _ _ (λ command added. more_printed c.in_ok-arg-3.field-0 command _ c.file_argument.result _ strict_flags c.file_argument.ensures refl added) c.arg-4.ensures
