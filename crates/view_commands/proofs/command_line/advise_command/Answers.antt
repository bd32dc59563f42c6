use Rattle.std.proofs.Common.{◌∙◌, refl, ap, codes}
use Rattle.std.proofs.lemmas.Result.{IfOk-weaker}
use Rattle.clap.specs.Simple.{app_of_fields}
use Rattle.clap.specs.Words.{new_app}
use Rattle.clap.specs.declared.builder.command.Command.{Command}
use Rattle.clap.specs.declared.builder.command.Command.TheOpen.{Command-F}
use Rattle.command_words.specs.Printed.{IsPrinted}
use Rattle.command_words.proofs.Printed.{more_printed}
use Rattle.view_commands.proofs.command_line.advise_command.Goals as goal

pub returns : goal.returns
returns c =
    let bare : IsPrinted c.about.result (new_app (codes "advise")) = (
      ap app_of_fields c.about.ensures ∙ ap app_of_fields c.after_help.ensures ∙ c.new.ensures.app,
      ap (λ (f : Command-F Command). f.has_globals) c.about.ensures ∙ ap (λ (f : Command-F Command). f.has_globals) c.after_help.ensures ∙ c.new.ensures.local,
    ) in
    let settle_flags = more_printed c.about.result c.in_ok-arg.field-0 _ c.settle_flag.result _ bare c.settle_flag.ensures refl c.in_ok-arg.ensures in
    let keep_work_flags = more_printed c.in_ok-arg.field-0 c.in_ok-arg-2.field-0 _ c.keep_work_flag.result _ settle_flags c.keep_work_flag.ensures refl c.in_ok-arg-2.ensures in
    let ties_options = more_printed c.in_ok-arg-2.field-0 c.in_ok-arg-3.field-0 _ c.ties_option.result _ keep_work_flags c.ties_option.ensures refl c.in_ok-arg-3.ensures in
    let tasks = more_printed c.in_ok-arg-3.field-0 c.in_ok-arg-4.field-0 _ c.judged_option.result _ ties_options c.judged_option.ensures refl c.in_ok-arg-4.ensures in
    let numbers = more_printed c.in_ok-arg-4.field-0 c.in_ok-arg-5.field-0 _ c.less_option.result _ tasks c.less_option.ensures refl c.in_ok-arg-5.ensures in
    let families = more_printed c.in_ok-arg-5.field-0 c.in_ok-arg-6.field-0 _ c.over_option.result _ numbers c.over_option.ensures refl c.in_ok-arg-6.ensures in
    let counts = more_printed c.in_ok-arg-6.field-0 c.in_ok-arg-7.field-0 _ c.best_option.result _ families c.best_option.ensures refl c.in_ok-arg-7.ensures in
    let strict_flags = more_printed c.in_ok-arg-7.field-0 c.in_ok-arg-8.field-0 _ c.strict_flag.result _ counts c.strict_flag.ensures refl c.in_ok-arg-8.ensures in
    IfOk-weaker c.arg-9.result _ _ (λ command added. more_printed c.in_ok-arg-8.field-0 command _ c.file_argument.result _ strict_flags c.file_argument.ensures refl added) c.arg-9.ensures
