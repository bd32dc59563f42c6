use Rattle.std.proofs.Common.{◌∙◌, ap, sym, codes}
use Rattle.std.specs.Prelude.{Some, option_map}
use Rattle.std.specs.Option.{option_map_or}
use Rattle.clap.specs.Words.{found_of}
use Rattle.clap.proofs.WalkLemmas.{first_value-rows}
use Rattle.kept_runs.specs.declared.call_order.CallOrder.TheVariants.{Oldest}
use Rattle.view_commands.specs.RunOptions.{order_of}
use Rattle.view_commands.proofs.run_options.order_in.Goals as goal

pub returns-in-Some : goal.returns-in-Some
returns-in-Some c =
    let row = c.get_str.ensures ∙ first_value-rows (found_of c.args.options.now) (codes "ties") in
    let given = ap (option_map (λ s. s.now)) (sym c.in-Some.is) ∙ row in
    c.order_of.ensures ∙ ap (λ text. option_map_or order_of text (Some Oldest)) given

pub returns-in-None : goal.returns-in-None
returns-in-None c =
    let row = c.get_str.ensures ∙ first_value-rows (found_of c.args.options.now) (codes "ties") in
    ap (λ text. option_map_or order_of text (Some Oldest)) (ap (option_map (λ s. s.now)) (sym c.in-None.is) ∙ row)
