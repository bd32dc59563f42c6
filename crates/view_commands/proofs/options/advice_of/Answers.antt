use Rattle.std.proofs.Common.{◌∙◌, ap, ap₂, codes}
use Rattle.std.proofs.lemmas.Result.{IfOk-weaker}
use Rattle.clap.specs.Words.{found_of, first_of, rows_of}
use Rattle.clap.proofs.WalkLemmas.{first_value-rows}
use Rattle.view_commands.specs.Options.{advice_with}
use Rattle.view_commands.proofs.options.advice_of.Goals as goal

pub returns : goal.returns
returns c =
    let found = found_of c.args.options.now in
    let rows = rows_of found in
    let task = c.get_str-task.ensures ∙ first_value-rows found (codes "judged") in
    let rest = c.get_str-rest.ensures ∙ first_value-rows found (codes "less") in
    IfOk-weaker c.advice_with.result _ _
    (λ command is. is ∙ ap₂ (λ task rest. advice_with task rest c.in_ok-family.family rows) task rest ∙ ap
    (λ family. advice_with (first_of (codes "judged") rows) (first_of (codes "less") rows) family rows) c.in_ok-family.ensures)
    c.advice_with.ensures
