use Rattle.std.proofs.Common.{rules, refl, codes}
use Rattle.std.proofs.lemmas.Result.{IfOk-weaker}
use Rattle.clap.specs.Words.{new_app}
use Rattle.command_words.specs.Printed.{IsPrinted}
use Rattle.command_words.proofs.Printed.{more_printed}
use Rattle.view_commands.proofs.command_line.report_command.Goals as goal

pub returns : goal.returns
returns c =
    let bare : IsPrinted c.about.result (new_app (codes "report")) = (search rules, search rules) in
    let settle_flags = more_printed c.about.result c.in_ok-arg.field-0 _ c.settle_flag.result _ bare c.settle_flag.ensures refl c.in_ok-arg.ensures in
    let keep_work_flags = more_printed c.in_ok-arg.field-0 c.in_ok-arg-2.field-0 _ c.keep_work_flag.result _ settle_flags c.keep_work_flag.ensures refl c.in_ok-arg-2.ensures in
    let ties_options = more_printed c.in_ok-arg-2.field-0 c.in_ok-arg-3.field-0 _ c.ties_option.result _ keep_work_flags c.ties_option.ensures refl c.in_ok-arg-3.ensures in
    let json_flags = more_printed c.in_ok-arg-3.field-0 c.in_ok-arg-4.field-0 _ c.json_flag.result _ ties_options c.json_flag.ensures refl c.in_ok-arg-4.ensures in
    let strict_flags = more_printed c.in_ok-arg-4.field-0 c.in_ok-arg-5.field-0 _ c.strict_flag.result _ json_flags c.strict_flag.ensures refl c.in_ok-arg-5.ensures in
    IfOk-weaker c.arg-6.result _ _ (λ command added. more_printed c.in_ok-arg-5.field-0 command _ c.file_argument.result _ strict_flags c.file_argument.ensures refl added) c.arg-6.ensures
