-- The tests of equality but for the tick counts, and of a meeting, tell whether these hold.
use Rattle.std.proofs.Common.{◌≡◌, Bool, true, false, not, List, refl, sym, ap, true≢false}
use Rattle.std.specs.Prelude.{◌↔◌, ◌⊎◌, Decides}
use Rattle.std.proofs.lemmas.Bool.Decides.{Decides-and, Decides-or}
use Rattle.bench_types.specs.declared.step.Step.{Step}
use Rattle.bench_model.specs.Equal.{Same}
use Rattle.bench_model.specs.Lists.{View, lists_of, view_of}
use Rattle.bench_model.specs.SameTest.{is_same}
use Rattle.bench_model.specs.Shifted.{SameShifted, is_same_shifted, is_met, untimed, at_tick, some_delays_until}
use Rattle.bench_model.specs.Table.{Table, tick_count}
use Rattle.session_laws.proofs.SameTests.{views, same_decided}

pub same_shifted_decided : (a b : Table) → ((is_same_shifted a b ≡ true) ↔ SameShifted a b)
unfolding is_same_shifted
same_shifted_decided a b = views (untimed (view_of a)) (untimed (view_of b))

decided_not : (x : Bool) → Decides (not x) (x ≡ false)
decided_not true = (λ e. absurd (true≢false (sym e)), λ e. absurd (true≢false e))
decided_not false = (λ e. refl, λ e. refl)

pub met_decided :
    (old new : Table) (steps : List Step) → ((is_met old new steps ≡ true) ↔ (Same old new ⊎ (SameShifted old new × (some_delays_until steps ≡ false))))
met_decided old new steps =
    Decides-or (is_same old new) _ (same_decided old new)
    (Decides-and (is_same_shifted old new) (not (some_delays_until steps)) (same_shifted_decided old new) (decided_not (some_delays_until steps)))

pub same_at_one_tick : (a b : Table) → (Same a b ↔ (SameShifted a b × (tick_count a.orders ≡ tick_count b.orders)))
unfolding lists_of
same_at_one_tick a b = (
  λ same. (ap untimed same, ap (λ (view : View). view.orders.tick) same),
  λ parts i. at_tick (parts.1 i) (parts.0 i),
)
