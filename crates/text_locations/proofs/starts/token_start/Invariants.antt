use Rattle.std.proofs.Common.{◌≡◌, drop}
use Rattle.std.specs.Prelude.{slice_get}
use Rattle.text_locations.specs.Starts.{starts, token_start}
use Rattle.text_locations.proofs.starts.token_start.Given as goal

abbrev pub invariant-loop-at : goal.invariant-loop-at
invariant-loop-at l = token_start l.text l.fn.index ≡ slice_get (starts l.mode l.at (drop l.at l.text)) l.left
