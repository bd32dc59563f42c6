use Rattle.std.proofs.Common.{◌≤◌, ◌∙◌, length, map, ap, arith}
use Rattle.std.proofs.lemmas.List.{take_all}
use Rattle.view_commands.proofs.options.strings_of.Goals as goal

pub returns : goal.returns
returns c =
    let texts = c.args.texts.now in
    let all : length texts ≤ c.loop-text.text-index = omega (arith, c.loop-text.auto.text-index-end, c.loop-text-test.false) in
    c.loop-text.invariant ∙ ap (map (λ text. text.now)) (take_all c.loop-text.text-index texts all)
