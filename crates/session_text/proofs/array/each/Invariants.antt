use Rattle.std.proofs.Common.{◌≡◌, length}
use Rattle.serde_json.specs.Events.{items_len}
use Rattle.json_data.specs.View.{items_view}
use Rattle.session_text.specs.Array.{each_at}
use Rattle.session_text.specs.Path.{path_of}
use Rattle.session_text.proofs.Loops.{with_front}
use Rattle.session_text.proofs.array.each.Given as goal

abbrev pub decreases-loop-value : goal.decreases-loop-value
decreases-loop-value g l = items_len (items_view l.items)

-- the items so far, in front of the reading of the rest, are the reading of all
abbrev pub invariant-loop-value : goal.invariant-loop-value
invariant-loop-value g l =
    let reading = g.R.ReadItem.reading l.reader in
    let at = path_of l.location in
    with_front l.read.items (each_at reading at (length l.read.items) (items_view l.items)) ≡ each_at reading at 0 (items_view l.fn.items)
