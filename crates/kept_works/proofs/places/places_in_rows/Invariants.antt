use Rattle.std.proofs.Common.{take}
use Rattle.kept_works.specs.Places.{AreRowsOf}
use Rattle.kept_works.proofs.places.places_in_rows.Given as goal

abbrev pub invariant-loop-place : goal.invariant-loop-place
invariant-loop-place l = AreRowsOf l.tasks (take l.place l.run) l.rows.items
