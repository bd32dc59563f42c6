use Rattle.std.proofs.Common.{◌≡◌, ◌<◌, ℕ, cond, length, take}
use Rattle.list_orders.specs.Search.{has}
use Rattle.kept_works.specs.Asked.{task_at}
use Rattle.keeping.specs.Works.{clock_at}
use Rattle.kept_works.proofs.asked.answer.Given as goal

abbrev pub invariant-loop-index : goal.invariant-loop-index
invariant-loop-index l = record {
  many : length l.answers ≡ length l.fn.answers;
  answers :
      (index : ℕ) → index < length l.asked
      → clock_at l.answers index ≡ cond (has index (take l.index-index l.row)) (clock_at l.clocks (task_at l.asked index)) (clock_at l.fn.answers index);
}
