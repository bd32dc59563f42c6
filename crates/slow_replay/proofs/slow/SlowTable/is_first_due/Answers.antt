use Rattle.std.proofs.Common.{ℕ, not, leb, ◌||◌, length, rules, tests, arith}
use Rattle.std.proofs.lemmas.Iterator.{YieldsList-from_range}
use Rattle.std.proofs.lemmas.Iterator.Search.{all_from_yields_List}
use Rattle.bench_model.specs.Table.{row_at, stamp_of, wakes_at}
use Rattle.slow_replay.proofs.slow.SlowTable.is_first_due.Goals as goal

pub returns-then-is_due_now : goal.returns-then-is_due_now
returns-then-is_due_now c =
    let stamps = c.args.self.now.orders in
    let n = length stamps.rows in
    let others = λ (j : ℕ). not (wakes_at stamps.tick (row_at stamps j).standing) || leb (stamp_of stamps c.args.task) (stamp_of stamps j) in
    let all = all_from_yields_List others _ _ c.all.result c.all.ensures.ran (YieldsList-from_range 0 n n c.task_numbers.ensures.numbers (omega arith))
    (λ x b q k. search (rules, tests)) in
    grind (arith, all, c.is_due_now.ensures, c.if-is_due_now.true)
