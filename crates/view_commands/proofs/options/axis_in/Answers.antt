use Rattle.std.proofs.Common.{◌∙◌, ap, sym, codes}
use Rattle.std.specs.Prelude.{Some, option_map}
use Rattle.std.specs.Option.{option_map_or}
use Rattle.clap.specs.Words.{found_of}
use Rattle.clap.proofs.WalkLemmas.{first_value-rows}
use Rattle.run_pictures.specs.declared.frame.Axis.TheVariants as by
use Rattle.view_commands.specs.Options.{axis_of}
use Rattle.view_commands.proofs.options.axis_in.Goals as goal

pub returns-in-Some : goal.returns-in-Some
returns-in-Some c =
    let row = c.get_str.ensures ∙ first_value-rows (found_of c.args.options.now) (codes "axis") in
    let given = ap (option_map (λ s. s.now)) (sym c.in-Some.is) ∙ row in
    c.axis_of.ensures ∙ ap (λ text. option_map_or axis_of text (Some by.Places)) given

pub returns-in-None : goal.returns-in-None
returns-in-None c =
    let row = c.get_str.ensures ∙ first_value-rows (found_of c.args.options.now) (codes "axis") in
    ap (λ text. option_map_or axis_of text (Some by.Places)) (ap (option_map (λ s. s.now)) (sym c.in-None.is) ∙ row)
