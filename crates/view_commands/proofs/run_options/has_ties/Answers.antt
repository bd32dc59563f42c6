use Rattle.std.proofs.Common.{◌≡◌, ◌∙◌, Option, Some, None, Bor, refl, ap, sym, codes}
use Rattle.std.specs.Prelude.{is_some, option_map}
use Rattle.clap.specs.Words.{Text, found_of}
use Rattle.clap.proofs.WalkLemmas.{first_value-rows}
use Rattle.view_commands.proofs.run_options.has_ties.Goals as goal

-- a text is there, whether it is lent or not
lent_is_some : (text : Option (Bor Text)) → is_some text ≡ is_some (option_map (λ (t : Bor Text). t.now) text)
lent_is_some (Some text) = refl
lent_is_some None = refl

pub returns : goal.returns
returns c =
    let row = c.get_str.ensures ∙ first_value-rows (found_of c.args.options.now) (codes "ties") in
    c.is_some.ensures ∙ lent_is_some c.get_str.result ∙ ap is_some row
