-- What a tick finds of tasks: who stands above a current task.
use Rattle.std.proofs.Common.{◌≡◌, ℕ, ◌<◌, ◌≤◌, Bool, true, false, ◌&&◌, nat_lt, length, refl, sym, ap, subst, ◌∙◌, ◌+◌, min, inl, inr, arith}
use Rattle.std.proofs.lemmas.Bool.{cases_eq, cases_lt}
use Rattle.std.proofs.lemmas.Bool.Decides.{nat_tests}
use Rattle.std.proofs.lemmas.List.Elements.{All-from_recursion}
use Rattle.std.proofs.lemmas.List.Folds.{list_any_none}
use Rattle.list_orders.specs.Search.{numbers}
use Rattle.list_orders.proofs.Filters.{All-weaker}
use Rattle.list_orders.proofs.Stamped.{numbers_below}
use Rattle.bench_model.specs.Control.{Control, current, is_allowed}
use Rattle.bench_model.specs.Lists.{View}
use Rattle.bench_model.specs.Seek.{effective}
use Rattle.bench_model.specs.Tally.{outranks_some}
use Rattle.smp_kernel.specs.Kernel.{StandsForSome}
use Rattle.tallies.specs.Counting.{IsLowest}

-- a kernel has as many cores as it started with
pub cores_stand : (view : View) → StandsForSome view → length view.control.cores ≡ view.settings.cores
cores_stand view some =
    sym (ap (λ (v : View). length v.control.cores) some.1.shows) ∙ some.1.sound.consistent.sized.cores ∙ ap (λ (v : View). v.settings.cores) some.1.shows

-- and at least one
pub some_core : (view : View) → StandsForSome view → 0 < view.settings.cores
some_core view some = subst (λ cores. 0 < cores) (ap (λ (v : View). v.settings.cores) some.1.shows) some.1.sound.consistent.sized.some_core

-- with one core more
pub one_core_more : (control : Control) (core lowest here least : ℕ) → IsLowest control core lowest → here ≡ effective control (current control core)
    → least ≡ min lowest here → IsLowest control (core + 1) least
one_core_more control core lowest here least lowest_is here_is least_is = record {
  below = λ k low. elim (cases_eq k core) [
    | inl same ↦ grind (arith, least_is, here_is, ap (λ c. effective control (current control c)) same)
    | inr other ↦ grind (arith, least_is, lowest_is.below k (omega (arith, low, other)))
  ];
  reached = elim (cases_lt here lowest) [
    | inl lower ↦ (core, omega arith, sym here_is ∙ (omega (arith, least_is, lower)))
    | inr other ↦ (lowest_is.reached.0, omega (arith, lowest_is.reached.1), lowest_is.reached.2 ∙ (omega (arith, least_is, other)))
  ];
}

-- a task whose effective priority is not above the lowest of the current tasks stands above none
pub outranks_none : (control : Control) (cores lowest task : ℕ) → length control.cores ≡ cores → IsLowest control cores lowest → effective control task ≤ lowest
    → false ≡ outranks_some control task
outranks_none control cores lowest task size lowest_is above =
    let test = λ (core : ℕ). is_allowed control core task && nat_lt (effective control (current control core)) (effective control task) in
    sym (list_any_none test (numbers (length control.cores))
    (All-from_recursion (λ core. test core ≡ false) (numbers (length control.cores))
    (All-weaker (λ core. core < length control.cores) (λ core. test core ≡ false)
    (λ core low. at core (is_allowed control core task) (lowest_is.below core (omega (arith, low, size)))) (numbers (length control.cores))
    (numbers_below (length control.cores)))))
  where
    at : (core : ℕ) (b : Bool) → lowest ≤ effective control (current control core) →
        (b && nat_lt (effective control (current control core)) (effective control task)) ≡ false
    at core true low = grind (arith, nat_tests, low, above)
    at core false low = refl
