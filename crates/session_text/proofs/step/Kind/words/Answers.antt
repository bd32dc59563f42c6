use Rattle.std.proofs.Common.{ap, ◌∙◌, length, take, arith, refl}
use Rattle.session_text.proofs.Lists.{map_take, length_take_map}
use Rattle.session_text.proofs.step.Kind.words.Goals as goal

pub slice_bounds-result-end : goal.slice_bounds-result-end
slice_bounds-result-end c = length_take_map (λ word. word.now) 27 c.all_words.result.now _ c.all_words.ensures (omega arith)

pub returns-in-Three : goal.returns-in-Three
returns-in-Three c = rw c.in-Three.is (map_take (λ word. word.now) 27 c.all_words.result.now ∙ ap (take 27) c.all_words.ensures)
