use Rattle.std.proofs.Common.{◌≡◌, ◌++◌, codes, flat_map, take, string_bytes}
use Rattle.session_text.proofs.detail.push_others.Given as goal

abbrev pub invariant-loop-word : goal.invariant-loop-word
invariant-loop-word l = string_bytes l.text ≡ string_bytes l.fn.text ++ flat_map (λ word. codes ", " ++ word.now) (take l.word-index l.words)
