use Rattle.std.proofs.Common.{◌≡◌, ◌+◌, ◌*◌, ◌≤◌, length, option_map}
use Rattle.json.specs.Json.{array, items, members, object, value}
use Rattle.text_locations.specs.Leads.{wanted_at}
use Rattle.text_locations.specs.Path.{parts}
use Rattle.text_locations.specs.Parts.{target_of}
use Rattle.text_locations.specs.Walk.{items_lead, members_lead}
use Rattle.text_locations.proofs.Walks.{Walked}
use Rattle.text_locations.proofs.search.+passed.Given as goal

abbrev pub decreases-passed_value : goal.decreases-passed_value
decreases-passed_value l = 2 * l.depth

abbrev pub decreases-passed_items : goal.decreases-passed_items
decreases-passed_items l = 2 * l.depth + 1

abbrev pub decreases-passed_members : goal.decreases-passed_members
decreases-passed_members l = 2 * l.depth + 1

abbrev pub invariant-passed_items-loop-path : goal.invariant-passed_items-loop-path
invariant-passed_items-loop-path l =
    Walked (items (value l.depth) (length l.initial.reader) l.initial.reader) (λ n. items (value l.depth) n l.reader) l.reader
    (λ all. wanted_at (target_of l.fn.target) l.fn.at (array all))
    (items_lead l.before (parts l.path) l.next l.found)
    × (l.next + length l.reader ≡ l.fn.at + 1 + length l.initial.reader)
    × (length l.reader ≤ length l.initial.reader)

abbrev pub decreases-passed_items-loop-path : goal.decreases-passed_items-loop-path
decreases-passed_items-loop-path l = length l.reader

abbrev pub invariant-passed_members-loop-key : goal.invariant-passed_members-loop-key
invariant-passed_members-loop-key l =
    Walked (members (value l.depth) (length l.initial.reader) l.initial.reader) (λ n. members (value l.depth) n l.reader) l.reader
    (λ all. wanted_at (target_of l.fn.target) l.fn.at (object all))
    (members_lead (option_map (λ name. name.now) l.name) (parts l.path) l.next l.found)
    × (l.next + length l.reader ≡ l.fn.at + 1 + length l.initial.reader)
    × (length l.reader ≤ length l.initial.reader)

abbrev pub decreases-passed_members-loop-key : goal.decreases-passed_members-loop-key
decreases-passed_members-loop-key l = length l.reader
