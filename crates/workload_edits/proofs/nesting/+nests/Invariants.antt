use Rattle.std.proofs.Common.{◌≡◌, nat_le, ℕ, ◌+◌, ◌*◌, drop}
use Rattle.serde_json.specs.Data.{items_depth, members_depth}
use Rattle.serde_json.specs.View.{items_view, members_view}
use Rattle.workload_edits.proofs.nesting.+nests.Given as goal

-- the items from here on nest too deep where all do
abbrev pub invariant-items_nest-loop-item : goal.invariant-items_nest-loop-item
invariant-items_nest-loop-item l =
    nat_le (items_depth (items_view (drop l.item-index l.items))) l.most ≡ nat_le (items_depth (items_view l.items)) l.most

abbrev pub invariant-members_nest-loop-member : goal.invariant-members_nest-loop-member
invariant-members_nest-loop-member l =
    nat_le (members_depth (members_view l.member-iterator)) l.most ≡ nat_le (members_depth (members_view l.members.entries)) l.most
