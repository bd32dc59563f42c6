use Rattle.std.proofs.Common.{rules, refl, codes}
use Rattle.std.proofs.lemmas.Result.{IfOk-weaker}
use Rattle.clap.specs.Words.{new_app}
use Rattle.command_words.specs.Printed.{IsPrinted}
use Rattle.command_words.proofs.Printed.{more_printed}
use Rattle.view_commands.proofs.command_line.timeline_command.Goals as goal

pub returns : goal.returns
returns c =
    let bare : IsPrinted c.about.result (new_app (codes "timeline")) = (search rules, search rules) in
    let settle_flags = more_printed c.about.result c.in_ok-arg.field-0 _ c.settle_flag.result _ bare c.settle_flag.ensures refl c.in_ok-arg.ensures in
    let keep_work_flags = more_printed c.in_ok-arg.field-0 c.in_ok-arg-2.field-0 _ c.keep_work_flag.result _ settle_flags c.keep_work_flag.ensures refl c.in_ok-arg-2.ensures in
    let ties_options = more_printed c.in_ok-arg-2.field-0 c.in_ok-arg-3.field-0 _ c.ties_option.result _ keep_work_flags c.ties_option.ensures refl c.in_ok-arg-3.ensures in
    let axes = more_printed c.in_ok-arg-3.field-0 c.in_ok-arg-4.field-0 _ c.axis_option.result _ ties_options c.axis_option.ensures refl c.in_ok-arg-4.ensures in
    let from_options = more_printed c.in_ok-arg-4.field-0 c.in_ok-arg-5.field-0 _ c.from_option.result _ axes c.from_option.ensures refl c.in_ok-arg-5.ensures in
    let to_options = more_printed c.in_ok-arg-5.field-0 c.in_ok-arg-6.field-0 _ c.to_option.result _ from_options c.to_option.ensures refl c.in_ok-arg-6.ensures in
    let strict_flags = more_printed c.in_ok-arg-6.field-0 c.in_ok-arg-7.field-0 _ c.strict_flag.result _ to_options c.strict_flag.ensures refl c.in_ok-arg-7.ensures in
    IfOk-weaker c.arg-8.result _ _ (λ command added. more_printed c.in_ok-arg-7.field-0 command _ c.file_argument.result _ strict_flags c.file_argument.ensures refl added) c.arg-8.ensures
