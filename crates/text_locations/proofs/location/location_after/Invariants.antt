use Rattle.std.proofs.Common.{◌≡◌, take}
use Rattle.text_locations.specs.Location.{location_after}
use Rattle.text_locations.proofs.location.location_after.Given as goal

abbrev pub invariant-loop-byte : goal.invariant-loop-byte
invariant-loop-byte l = l.location ≡ location_after (take l.byte-index l.before)
