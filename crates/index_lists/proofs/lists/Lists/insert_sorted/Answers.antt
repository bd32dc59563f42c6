use Rattle.std.proofs.Common.{◌≡◌, leb, List, sym, ap, ◌∙◌}
use Rattle.std.specs.List.{prefix_len}
use Rattle.std.proofs.lemmas.List.Sums.{prefix_len-le-length}
use Rattle.list_orders.specs.Search.{inserted}
use Rattle.list_orders.proofs.Placements.{placed_at}
use Rattle.index_lists.specs.Listed.{Listed, list_at, with_list, lowest_first}
use Rattle.index_lists.proofs.Places.{lowest_first-IsRank}
use Rattle.index_lists.proofs.lists.Lists.insert_sorted.Goals as goal

pub insert-requires-clause-place : goal.insert-requires-clause-place
insert-requires-clause-place c =
    let row = list_at c.args.self.now c.args.list in
    let passes = λ (entry : Listed). leb entry.key c.args.key in
    (prefix_len passes row, prefix_len-le-length passes row, c.place_of-next.ensures)

at_place : (c : goal.After-insert) → c.insert.new.self ≡ with_list c.args.list
    (inserted lowest_first (record { item = c.args.item; key = c.args.key }) (list_at c.args.self.now c.args.list)) c.args.self.now
at_place c =
    let row = list_at c.args.self.now c.args.list in
    let passes = λ (entry : Listed). leb entry.key c.args.key in
    c.insert.ensures (prefix_len passes row) (prefix_len-le-length passes row) c.place_of-next.ensures

pub returns-clause-inserted : goal.returns-clause-inserted
returns-clause-inserted c = at_place c

pub returns-clause-in_order : goal.returns-clause-in_order
returns-clause-in_order c = λ order.
    let row = list_at c.args.self.now c.args.list in
    let entry : Listed = record { item = c.args.item; key = c.args.key } in
    at_place c
    ∙ ap (λ (list : List Listed). with_list c.args.list list c.args.self.now) (sym (placed_at lowest_first lowest_first-IsRank entry row order))
