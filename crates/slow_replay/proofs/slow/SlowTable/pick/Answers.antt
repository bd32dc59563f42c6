use Rattle.std.proofs.Common.{◌&&◌, length, rules, tests, arith, ◌∙◌, sym}
use Rattle.std.proofs.lemmas.Iterator.Adapters.{option_map_id}
use Rattle.std.proofs.lemmas.Iterator.{YieldsList-from_range}
use Rattle.std.proofs.lemmas.Iterator.Search.{find_from_yields_List}
use Rattle.bench_model.specs.Control.{may_select}
use Rattle.list_orders.specs.Search.{is_best, best}
use Rattle.bench_model.specs.Table.{is_ready, goes_before, tasks_of, pick}
use Rattle.slow_replay.proofs.slow.SlowTable.pick.Goals as goal

pub returns-clause-picked : goal.returns-clause-picked
unfolding pick best
returns-clause-picked c =
    let table = c.args.self.now in
    let n = length table.orders.rows in
    let test = is_best (λ i. is_ready i table.orders && may_select table.control c.args.core i) (goes_before table.control table.orders) (tasks_of table.orders)
    in
    let found = find_from_yields_List test _ _ c.find.result c.find.ensures.ran (YieldsList-from_range 0 n n c.task_numbers.ensures.numbers (omega arith))
    (λ x b q k. search (rules, tests)) in
    sym (option_map_id c.find.result) ∙ found
