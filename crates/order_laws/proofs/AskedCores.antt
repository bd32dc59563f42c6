-- The search for the core that is asked finds the best candidate.
use Rattle.std.proofs.Common.{◌≡◌, ℕ, ◌<◌, Bool, ◌&&◌, length, Option, Some, None, refl, arith}
use Rattle.std.proofs.lemmas.Bool.Decides.{nat_tests}
use Rattle.list_orders.specs.Search.{numbers, best}
use Rattle.bench_model.specs.Control.{Control}
use Rattle.bench_model.specs.Seek.{is_preemptible_by, yields_first, core_to_yield}
use Rattle.order_laws.specs.AskedCores.{IsAnswer}
use Rattle.list_orders.proofs.Bests.{best_found, best_none}
use Rattle.list_orders.proofs.Filters.{All-has}
use Rattle.list_orders.proofs.Ranks.{IsRank}
use Rattle.list_orders.proofs.Stamped.{numbers_below, numbers_have}

asked_rank : (control : Control) → IsRank (yields_first control)
asked_rank control = record { total = λ a b h. grind (arith, nat_tests, h); chain = λ a b c h k. grind (arith, nat_tests, h, k) }

abbrev is_candidate : Control → ℕ → (ℕ → Bool) → ℕ → Bool
is_candidate control task among core = among core && is_preemptible_by control task core

pub best_core : (control : Control) (task : ℕ) (among : ℕ → Bool) → IsAnswer control task among (core_to_yield control task among)
unfolding core_to_yield
best_core control task among = at (best (is_candidate control task among) (yields_first control) (numbers (length control.cores))) refl
  where
    cores : ℕ
    cores = length control.cores

    at : (o : Option ℕ) → best (is_candidate control task among) (yields_first control) (numbers cores) ≡ o → IsAnswer control task among o
    at (Some core) same =
        let it = best_found (is_candidate control task among) (yields_first control) (asked_rank control) (numbers cores) core same in (
          (All-has (λ c. c < cores) core (numbers cores) (numbers_below cores) it.0, grind (arith, it.1), grind (arith, it.1)),
          λ other candidate. it.2 other (numbers_have cores other candidate.0) (grind (arith, candidate.1, candidate.2)),
        )
    at None same = λ core candidate. absurd (grind (
      arith,
      best_none (is_candidate control task among) (yields_first control) (asked_rank control) (numbers cores) same core
          (numbers_have cores core candidate.0),
      candidate.1,
      candidate.2,
    ))
