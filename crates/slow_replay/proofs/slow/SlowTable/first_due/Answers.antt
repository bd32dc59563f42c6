use Rattle.std.proofs.Common.{leb, length, rules, tests, arith, ◌∙◌, sym}
use Rattle.std.proofs.lemmas.Iterator.Adapters.{option_map_id}
use Rattle.std.proofs.lemmas.Iterator.{YieldsList-from_range}
use Rattle.std.proofs.lemmas.Iterator.Search.{find_from_yields_List}
use Rattle.list_orders.specs.Search.{is_best, best}
use Rattle.slow_replay.specs.SlowDue.{first_due}
use Rattle.bench_model.specs.Table.{row_at, stamp_of, tasks_of, wakes_at}
use Rattle.slow_replay.proofs.slow.SlowTable.first_due.Goals as goal

pub returns-clause-first : goal.returns-clause-first
unfolding first_due best
returns-clause-first c =
    let stamps = c.args.self.now.orders in
    let n = length stamps.rows in
    let test = is_best (λ i. wakes_at stamps.tick (row_at stamps i).standing) (λ i j. leb (stamp_of stamps i) (stamp_of stamps j)) (tasks_of stamps) in
    let found = find_from_yields_List test _ _ c.find.result c.find.ensures.ran (YieldsList-from_range 0 n n c.task_numbers.ensures.numbers (omega arith))
    (λ x b q k. search (rules, tests)) in
    sym (option_map_id c.find.result) ∙ found
