use Rattle.std.proofs.Common.{◌≡◌, take}
use Rattle.std.specs.List.{filter_map}
use Rattle.run_comparisons.specs.Shared.{is_event, shared_at}
use Rattle.run_comparisons.proofs.shared.shared_with.Given as goal

abbrev pub invariant-loop-row : goal.invariant-loop-row
invariant-loop-row l = l.shared.items ≡ filter_map (shared_at (is_event l.kind) l.session l.edited l.places l.later) (take l.row-index l.rows)
