use Rattle.std.proofs.Common.{◌≡◌}
use Rattle.serde_json.specs.Events.{items_len}
use Rattle.json_data.specs.View.{items_view}
use Rattle.session_text.specs.Rig.{has_arrays}
use Rattle.session_text.proofs.rig.has_arrays.Given as goal

abbrev pub decreases-loop-item : goal.decreases-loop-item
decreases-loop-item l = items_len (items_view l.items)

-- whether the items are as they should is left to those from here on
abbrev pub invariant-loop-item : goal.invariant-loop-item
invariant-loop-item l = has_arrays l.left (items_view l.items) ≡ has_arrays l.fn.count (items_view l.fn.items)
