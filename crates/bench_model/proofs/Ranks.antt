-- The orders of ready tasks, of delays and of waiters are orders of ranks.
use Rattle.std.proofs.Common.{ℕ, arith}
use Rattle.std.proofs.lemmas.Bool.Decides.{nat_tests}
use Rattle.bench_model.specs.Control.{Control, task_at}
use Rattle.bench_model.specs.Lists.{outranks, wakes_first}
use Rattle.bench_model.specs.Waiters.{waits_first}
use Rattle.list_orders.proofs.Ranks.{IsRank}
use Rattle.list_orders.proofs.Choices.{rank_front-IsRank}

abbrev pub priority_of : Control → ℕ → ℕ
priority_of control task = (task_at control task).in_use

pub outranks-IsRank : (control : Control) → IsRank (outranks control)
outranks-IsRank control = rank_front-IsRank (priority_of control) (λ i. 0)

pub wakes_first-IsRank : IsRank wakes_first
wakes_first-IsRank = record { total = λ a b h. grind (arith, nat_tests, h); chain = λ a b c h k. grind (arith, nat_tests, h, k) }

pub waits_first-IsRank : IsRank waits_first
waits_first-IsRank = record { total = λ a b h. grind (arith, nat_tests, h); chain = λ a b c h k. grind (arith, nat_tests, h, k) }
