-- When a kernel does not meet another.
use Rattle.std.proofs.Common.{◌≡◌, ⊎_elim, ℕ, ◌<◌, ◌%◌, ◌^◌, ◌+◌, Bool, true, false, refl, sym, ap, subst, ◌∙◌, arith, true≢false}
use Rattle.std.specs.Prelude.{List, Some, slice_get, slice_index_or}
use Rattle.std.proofs.lemmas.Option.{get_or_from_slice_get}
use Rattle.bench_types.specs.declared.step.Step.{Step}
use Rattle.bench_model.specs.Equal.{Same}
use Rattle.bench_model.specs.Lists.{View, view_of}
use Rattle.bench_model.specs.Shifted.{SameShifted, is_met, some_delays_until}
use Rattle.bench_model.specs.Table.{Table}
use Rattle.shift_laws.proofs.ShiftTests.{met_decided}
use Rattle.shift_laws.proofs.Steps.{tick_below, same_from_shifted, not_shifted}
use Rattle.shift_laws.specs.Shifts.{IsShifted}

tick_in : View → ℕ
tick_in view = view.orders.tick

not_same : (by : ℕ) (a b : Table) → by < 2 ^ 32 → (by ≡ 0 → ⊥) → IsShifted by a b → Same a b → ⊥
unfolding tick_in
not_same by a b word some later same =
    let moved : tick_in (view_of b) ≡ (tick_in (view_of a) + by) % 2 ^ 32 = ap tick_in later in
    let stays : tick_in (view_of a) ≡ tick_in (view_of b) = ap tick_in same in
    some (omega (arith, moved, stays, word, tick_below a))

-- they differ in more than the tick count
pub unmet_apart : (a b : Table) (steps : List Step) → (SameShifted a b → ⊥) → is_met a b steps ≡ false
unmet_apart a b steps apart = at (is_met a b steps) refl
  where
    at : (x : Bool) → is_met a b steps ≡ x → x ≡ false
    at false is = refl
    at true is = ⊎_elim (λ same. absurd (apart (same_from_shifted 0 a b (not_shifted a b same)))) (λ both. absurd (apart both.0)) ((met_decided a b steps).0 is)

-- the tick counts differ, and a step reads them
pub unmet_read : (by : ℕ) (a b : Table) (steps : List Step) → by < 2 ^ 32 → (by ≡ 0 → ⊥) → IsShifted by a b → some_delays_until steps ≡ true → is_met a b steps
    ≡ false
unmet_read by a b steps word some later reads = at (is_met a b steps) refl
  where
    at : (x : Bool) → is_met a b steps ≡ x → x ≡ false
    at false is = refl
    at true is = ⊎_elim (λ same. absurd (not_same by a b word some later same)) (λ both. absurd (true≢false (sym reads ∙ both.1)))
        ((met_decided a b steps).0 is)

-- the item that an index reads is the one that is there
pub read_there : {X : Type 0} (xs : List X) (index : ℕ) (x read : X) → slice_get xs index ≡ Some x → read ≡ slice_index_or xs index read → x ≡ read
read_there xs index x read found is = sym (is ∙ get_or_from_slice_get xs index x read found)
