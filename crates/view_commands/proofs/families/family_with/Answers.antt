use Rattle.std.proofs.Common.{◌∙◌, codes}
use Rattle.view_commands.proofs.Texts.{lent_word}
use Rattle.view_commands.proofs.families.family_with.Goals as goal

pub returns : goal.returns
returns c =
    let words = c.args.words.now in
    let priority = c.has_word.ensures ∙ lent_word (codes "priority") words in
    let mask = c.has_word-2.ensures ∙ lent_word (codes "mask") words in
    let pin = c.has_word-3.ensures ∙ lent_word (codes "pin") words in
    let order = c.has_word-4.ensures ∙ lent_word (codes "order") words in
    λ t. record { priority = priority t; mask = mask t; pin = pin t; order = order t }
