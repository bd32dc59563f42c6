use Rattle.std.proofs.Common.{◌≡◌}
use Rattle.serde_json.specs.Events.{items_len}
use Rattle.serde_json.specs.Find.{at, get_item}
use Rattle.json_data.specs.View.{items_view, view}
use Rattle.session_text.proofs.accepted.item_at.Given as goal

abbrev pub decreases-loop-item : goal.decreases-loop-item
decreases-loop-item l = items_len (items_view l.items)

-- the item is one of those from here on
abbrev pub invariant-loop-item : goal.invariant-loop-item
invariant-loop-item l = get_item l.left (items_view l.items) ≡ at l.fn.index (view l.array)
