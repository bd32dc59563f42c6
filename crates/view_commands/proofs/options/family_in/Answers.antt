use Rattle.std.proofs.Common.{◌∙◌, ap, sym, codes}
use Rattle.std.specs.Prelude.{Some, option_map}
use Rattle.std.specs.Option.{option_map_or}
use Rattle.std.proofs.lemmas.Result.{IfOk-weaker}
use Rattle.clap.specs.Words.{found_of}
use Rattle.clap.proofs.WalkLemmas.{first_value-rows}
use Rattle.view_commands.specs.Families.{family_of}
use Rattle.view_commands.specs.Options.{usual_families}
use Rattle.view_commands.proofs.options.family_in.Goals as goal

pub returns-in-Some : goal.returns-in-Some
returns-in-Some c =
    let row = c.get_str.ensures ∙ first_value-rows (found_of c.args.options.now) (codes "over") in
    let given = ap (option_map (λ s. s.now)) (sym c.in-Some.is) ∙ row in
    IfOk-weaker c.family_of.result _ _ (λ family is. is ∙ ap (λ text. option_map_or family_of text (Some usual_families)) given) c.family_of.ensures

pub returns-in-None : goal.returns-in-None
returns-in-None c =
    let row = c.get_str.ensures ∙ first_value-rows (found_of c.args.options.now) (codes "over") in
    ap (λ text. option_map_or family_of text (Some usual_families)) (ap (option_map (λ s. s.now)) (sym c.in-None.is) ∙ row)
