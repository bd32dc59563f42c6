use Rattle.std.proofs.Common.{rules, ◌≡◌, ◌∙◌, [], ap, sym}
use Rattle.std.specs.Prelude.{map, option_map, unwrap_or}
use Rattle.clap.specs.Words.{found_of}
use Rattle.clap.proofs.WalkLemmas.{raw_values-rows}
use Rattle.view_commands.proofs.options.texts_in.Goals as goal

pub returns-in_default : goal.returns-in_default
returns-in_default c =
    let row = c.get_strs.ensures ∙ raw_values-rows (found_of c.args.options.now) c.args.id.now in
    ap (map (λ text. text.now)) c.new-texts.ensures.items ∙ ap (λ all. unwrap_or all [])
    (ap (option_map (λ texts. map (λ text. text.now) texts.now)) (sym c.in_default.is) ∙ row)

pub returns : goal.returns
returns c =
    let row = c.get_strs.ensures ∙ raw_values-rows (found_of c.args.options.now) c.args.id.now in
    let same : c.extend_from_slice.new.self.items ≡ c.in-Some.given.now = search rules in
    ap (map (λ text. text.now)) same ∙ ap (λ all. unwrap_or all []) (ap (option_map (λ texts. map (λ text. text.now) texts.now)) (sym c.in-Some.is) ∙ row)
