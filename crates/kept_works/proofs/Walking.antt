-- The clocks behind a step more.
use Rattle.std.proofs.Common.{◌≡◌, ℕ, suc, ◌+◌, ◌^◌, ◌<◌, ◌≤◌, Bool, true, false, cond, eqb, ◌&&◌, List, [], ◌∷◌, ◌++◌, length, length-append, refl, sym, ap, subst, ◌∙◌, inl, inr, arith}
use Rattle.std.proofs.lemmas.Bool.{cases_lt}
use Rattle.std.proofs.lemmas.List.{get_or_past}
use Rattle.bench_types.specs.declared.header.Header.{Header}
use Rattle.bench_types.specs.declared.kernel_data.Settings.{Settings}
use Rattle.bench_types.specs.declared.step.Step.{Step}
use Rattle.bench_types.specs.declared.step.Step.TheVariants.{Tick, Pass}
use Rattle.bench_types.specs.Step.{IsCheckedStep}
use Rattle.bench_model.specs.Equal.{StandsFor}
use Rattle.bench_model.specs.Session.{state_after, step_of}
use Rattle.bench_model.specs.Start.{start}
use Rattle.bench_model.specs.Table.{Table}
use Rattle.session_runs.proofs.Goes.{state_push}
use Rattle.settled_runs.specs.SettleLaws.{comes_from_outside}
use Rattle.settling.proofs.Finds.{same_settings}
use Rattle.step_times.specs.Times.{time_of}
use Rattle.workload_runs.specs.Situations.{is_working}
use Rattle.kept_runs.specs.declared.clocks.Clock.{Clock}
use Rattle.kept_runs.specs.Clocks.{Clocks, clock_after, clocks_after, clocks_along, zero_clock}
use Rattle.kept_works.specs.declared.walk.Walk.{Walk}
use Rattle.keeping.specs.Works.{clock_at}
use Rattle.kept_works.specs.Walk.{IsAt, IsShort}

pub clocks_push : (table : Table) (clocks : Clocks) (made : List Step) (step : Step)
    → clocks_along table clocks (made ++ step ∷ []) ≡ clocks_after step (state_after table made) (clocks_along table clocks made)
clocks_push table clocks [] step = refl
clocks_push table clocks (one ∷ made) step = clocks_push (step_of one table).1 (clocks_after one table clocks) made step

-- the clock of a task that a step finds at work, or not
abbrev pub clock_behind : Step → Settings → Bool → Clock → Clock
clock_behind step settings works clock = cond works (clock_after (time_of settings.units step) clock) clock

-- ---- short clocks

pub zero_short : (count : ℕ) → IsShort count zero_clock
zero_short count = record { units = omega arith; later = omega arith }

pub still_short : (few many : ℕ) (clock : Clock) → few ≤ many → IsShort few clock → IsShort many clock
still_short few many clock within short =
    record {
      units = let units = short.units in omega (arith, units, within);
      later = let later = short.later in omega (arith, later, within);
    }

short_after : (count time : ℕ) (clock : Clock) → time < 2 ^ 32 → IsShort count clock → IsShort (count + 1) (clock_after time clock)
short_after count time clock small short = at (eqb time 0)
  where
    at : (b : Bool) → IsShort (count + 1) (cond b (record clock { later = suc clock.later }) (record { units = clock.units + time; later = 0 }))
    at true = record {
      units = let units = short.units in omega (arith, units);
      later = let later = short.later in omega (arith, later);
    }
    at false = record {
      units = let units = short.units in omega (arith, units, small);
      later = omega arith;
    }

small_time : (settings : Settings) (step : Step) → IsCheckedStep settings step → time_of settings.units step < 2 ^ 32
small_time settings Tick checked = which (eqb settings.units 1)
  where
    which : (b : Bool) → cond b 1 0 < 2 ^ 32
    which true = omega arith
    which false = omega arith
small_time settings (Pass units) checked = which (eqb settings.units 1)
  where
    which : (b : Bool) → cond b 0 units < 2 ^ 32
    which true = omega arith
    which false = checked.words
small_time settings other checked = omega arith

short_behind : (count : ℕ) (step : Step) (settings : Settings) (works : Bool) (clock : Clock) → IsCheckedStep settings step → IsShort count clock
    → IsShort (count + 1) (clock_behind step settings works clock)
short_behind count step settings true clock checked short =
    short_after count (time_of settings.units step) clock (small_time settings step checked) short
short_behind count step settings false clock checked short = still_short count (count + 1) clock (omega arith) short

-- ---- a place further

module _ (header : Header) (made : List Step) (step : Step) (walk later : Walk) (at : IsAt header made walk) where
  abbrev table : Table
  table = state_after (start header) made

  -- the step is counted for the tasks that it finds at work
  abbrev pub AreCounted : Type 0
  AreCounted =
      (task : ℕ) → task < length walk.worked.items
      → clock_at later.worked.items task
      ≡ clock_behind step walk.kernel.settings (comes_from_outside step && is_working table task) (clock_at walk.worked.items task)

  pub goes_further :
      IsCheckedStep walk.kernel.settings step → StandsFor later.kernel (step_of step table).1 → later.kernel.settings ≡ walk.kernel.settings
      → length later.worked.items ≡ length walk.worked.items → AreCounted → IsAt header (made ++ step ∷ []) later
  goes_further checked stands settings many counted = record {
    stands = subst (StandsFor later.kernel) (sym (state_push (start header) made step)) stands;
    settings = settings ∙ at.settings;
    many = many ∙ at.many;
    clocks = λ task low.
        counted task (omega (arith, low, at.many))
        ∙ (λ i.
        clock_behind step (sym (same_settings walk.kernel table at.stands) i) (comes_from_outside step && is_working table task) (at.clocks task low i))
        ∙ sym (ap (λ (clocks : Clocks). clocks task) (clocks_push (start header) (λ other. zero_clock) made step));
    short = λ task. subst (λ count. IsShort count (clock_at later.worked.items task)) (sym count) (short task);
  }
    where
      count : length (made ++ step ∷ []) ≡ length made + 1
      count = omega (arith, length-append made (step ∷ []))

      short : (task : ℕ) → IsShort (length made + 1) (clock_at later.worked.items task)
      short task = elim (cases_lt task (length walk.worked.items)) [
        | inl low ↦
            subst (IsShort (length made + 1)) (sym (counted task low))
            (short_behind (length made) step walk.kernel.settings (comes_from_outside step && is_working table task)
            (clock_at walk.worked.items task) checked (at.short task))
        | inr past ↦
            subst (IsShort (length made + 1)) (sym (get_or_past later.worked.items task zero_clock (omega (arith, past, many))))
            (zero_short (length made + 1))
      ]
