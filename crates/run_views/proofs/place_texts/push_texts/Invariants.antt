use Rattle.std.proofs.Common.{map, string_bytes}
use Rattle.run_views.proofs.PlaceTexts.{TextsSoFar}
use Rattle.run_views.proofs.place_texts.push_texts.Given as goal

abbrev pub invariant-loop-place : goal.invariant-loop-place
invariant-loop-place l = TextsSoFar l.places l.header l.fn.kernel l.steps (map string_bytes l.fn.texts.items) (map string_bytes l.texts.items)
    l.kernel l.place
