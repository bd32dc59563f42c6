use Rattle.std.proofs.Common.{ℕ, not, ◌&&◌, ◌||◌, length, rules, tests, arith}
use Rattle.std.proofs.lemmas.Iterator.{YieldsList-from_range}
use Rattle.std.proofs.lemmas.Iterator.Search.{all_from_yields_List}
use Rattle.bench_model.specs.Control.{may_select}
use Rattle.bench_model.specs.Table.{is_ready, goes_before}
use Rattle.slow_replay.proofs.slow.SlowTable.is_best.Goals as goal

pub returns-then-can_select : goal.returns-then-can_select
returns-then-can_select c =
    let table = c.args.self.now in
    let n = length table.orders.rows in
    let others = λ (j : ℕ). not (is_ready j table.orders && may_select table.control c.args.core j) || goes_before table.control table.orders c.args.task j in
    let all = all_from_yields_List others _ _ c.all.result c.all.ensures.ran (YieldsList-from_range 0 n n c.task_numbers.ensures.numbers (omega arith))
    (λ x b q k. search (rules, tests)) in
    grind (arith, all, c.can_select.ensures, c.if-can_select.true)
