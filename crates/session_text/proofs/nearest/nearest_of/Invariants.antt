use Rattle.std.proofs.Common.{map, take}
use Rattle.session_text.proofs.NearWords.{Holds}
use Rattle.session_text.proofs.nearest.nearest_of.Given as goal

abbrev pub invariant-loop-word : goal.invariant-loop-word
invariant-loop-word l = Holds l.text (map (λ word. word.now) (take l.word-index l.words)) l.best
