use Rattle.std.proofs.Common.{◌∙◌, ℕ, List, Bor, map, ap, arith}
use Rattle.std.proofs.lemmas.Iterator.{items_from_drains}
use Rattle.std.proofs.lemmas.Iterator.Splits.{YieldsList-from_str_split}
use Rattle.view_commands.proofs.families.words_of.Goals as goal

pub returns : goal.returns
returns c =
    let ran = c.in_ok-words.ensures.ran in
    let yields = YieldsList-from_str_split 44 c.args.text.now (omega arith) c.split.ensures.text c.split.ensures.has_more c.split.ensures.pattern in
    ap (map (λ (word : Bor (List ℕ)). word.now)) ran.2.0 ∙ items_from_drains ran.0 ran.1 yields
