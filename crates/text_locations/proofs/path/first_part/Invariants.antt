use Rattle.std.proofs.Common.{◌≡◌, ◌≤◌, length}
use Rattle.text_locations.specs.Path.{parts}
use Rattle.text_locations.proofs.path.first_part.Given as goal

abbrev pub invariant-loop-rest : goal.invariant-loop-rest
invariant-loop-rest l = (parts l.path ≡ parts l.rest) × (length l.rest ≤ length l.path)

abbrev pub decreases-loop-rest : goal.decreases-loop-rest
decreases-loop-rest l = length l.rest
