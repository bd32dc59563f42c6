use Rattle.run_numbers.specs.Rows.{AreSpansTo}
use Rattle.run_numbers.proofs.rows.spans_of.Given as goal

abbrev pub invariant-loop-place : goal.invariant-loop-place
invariant-loop-place l = AreSpansTo l.tasks l.subjects l.place l.spans.items
