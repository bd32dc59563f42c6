use Rattle.std.proofs.Common.{◌≡◌, ◌+◌, ◌*◌, length}
use Rattle.serde_json.specs.Events.{items_len}
use Rattle.json_data.specs.View.{items_view}
use Rattle.session_text.specs.Path.{path_of}
use Rattle.workload_text.specs.Items.{each_from, item_at, items_at}
use Rattle.workload_text.proofs.Loops.{with_front}
use Rattle.workload_text.proofs.item.+items.Given as goal

abbrev pub decreases-each_from : goal.decreases-each_from
decreases-each_from l = 6 * l.room + 5

abbrev pub decreases-item_at : goal.decreases-item_at
decreases-item_at l = 6 * l.room + 4

abbrev pub decreases-headed_at : goal.decreases-headed_at
decreases-headed_at l = 6 * l.room + 3

abbrev pub decreases-call_at : goal.decreases-call_at
decreases-call_at l = 6 * l.room + 2

abbrev pub decreases-loop_at : goal.decreases-loop_at
decreases-loop_at l = 6 * l.room + 2

abbrev pub decreases-branch_at : goal.decreases-branch_at
decreases-branch_at l = 6 * l.room + 1

abbrev pub decreases-items_at : goal.decreases-items_at
decreases-items_at l = 6 * l.room

abbrev pub decreases-each_from-loop-next : goal.decreases-each_from-loop-next
decreases-each_from-loop-next l = items_len (items_view l.items)

-- the items so far, in front of the reading of the rest, are the reading of all
abbrev pub invariant-each_from-loop-next : goal.invariant-each_from-loop-next
invariant-each_from-loop-next l =
    let reading = item_at (items_at l.room l.reader.names.now) l.reader.names.now in
    let at = path_of l.location in
    with_front l.all.items (each_from reading at (length l.all.items) l.next (items_view l.items)) ≡ each_from reading at 0 l.start (items_view l.fn.items)
