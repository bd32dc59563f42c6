-- Time goes by for the tasks on cores, one after another.
use Rattle.std.proofs.Common.{◌≡◌, ◌≢◌, ℕ, zero, suc, ◌+◌, ◌<◌, ◌≤◌, Bool, true, false, cond, eqb, ◌&&◌, ◌||◌, List, [], ◌∷◌, length, refl, sym, ap, subst, ◌∙◌, inl, inr, arith}
use Rattle.std.specs.Prelude.{is_none, slice_set}
use Rattle.std.specs.List.{list_any}
use Rattle.std.proofs.lemmas.Bool.{cases_eq}
use Rattle.std.proofs.lemmas.Bool.Decides.{nat_tests}
use Rattle.std.proofs.lemmas.List.{get_or-set_same, get_or-set_other, length-set}
use Rattle.std.proofs.lemmas.List.Folds.{list_any-append}
use Rattle.list_orders.specs.Search.{numbers}
use Rattle.list_orders.proofs.Stamped.{numbers_more}
use Rattle.bench_model.specs.Control.{current}
use Rattle.bench_model.specs.Sound.{IsSound}
use Rattle.bench_model.specs.State.{call_at}
use Rattle.bench_model.specs.Table.{Table}
use Rattle.bench_model.specs.Tally.{is_current}
use Rattle.settled_runs.specs.Settled.{core_running}
use Rattle.settled_runs.proofs.Rests.{runs_core}
use Rattle.workload_runs.specs.Situations.{is_working}
use Rattle.kept_runs.specs.declared.clocks.Clock.{Clock}
use Rattle.kept_runs.specs.Clocks.{clock_after, zero_clock}
use Rattle.keeping.specs.Works.{clock_at}

-- the task runs on one of the first cores
abbrev pub runs_below : Table → ℕ → ℕ → Bool
runs_below table cores task = list_any (λ core. eqb (current table.control core) task) (numbers cores)

-- the clock of a task where some tasks have worked on
abbrev pub clock_then : Bool → ℕ → Clock → Clock
clock_then works time clock = cond works (clock_after time clock) clock

pub record AreElapsed (table : Table) (time cores : ℕ) (before now : List Clock) : Type 0 where
  pub many : length now ≡ length before
  pub each :
      (task : ℕ) → task < length before
      → clock_at now task ≡ clock_then (runs_below table cores task && is_working table task) time (clock_at before task)

pub elapsed_begins : (table : Table) (time : ℕ) (worked : List Clock) → AreElapsed table time 0 worked worked
elapsed_begins table time worked = record { many = refl; each = λ task low. refl }

module _ (table : Table) (sound : IsSound table) where
  runs_more : (core task : ℕ) → runs_below table (core + 1) task ≡ (runs_below table core task || (eqb (current table.control core) task || false))
  runs_more core task =
      ap (list_any (λ core. eqb (current table.control core) task)) (numbers_more core)
      ∙ list_any-append (λ core. eqb (current table.control core) task) (numbers core) (core ∷ [])

  -- no two cores run one task
  runs_once : (core less : ℕ) → core < table.settings.cores → less < core → eqb (current table.control less) (current table.control core) ≡ false
  runs_once core less below early = elim (cases_eq (current table.control less) (current table.control core)) [
    | inl same ↦
        let first = runs_core table less sound (omega (arith, below, early)) in
        let second = runs_core table core sound below in
        absurd (omega (arith, first, second, ap (core_running table) same, early))
    | inr away ↦ grind (arith, nat_tests, away)
  ]

  not_before : (core cores : ℕ) → core < table.settings.cores → cores ≤ core → runs_below table cores (current table.control core) ≡ false
  not_before core zero below few = refl
  not_before core (suc cores) below few =
      let same : suc cores ≡ cores + 1 = omega arith in
      let here = runs_once core cores below (omega (arith, few)) in
      let rest = not_before core cores below (omega (arith, few)) in
      ap (λ cores. runs_below table cores (current table.control core)) same ∙ runs_more cores (current table.control core)
      ∙ (λ i. rest i || (here i || false))

  -- the core's task does not work
  pub elapsed_passes : (time core : ℕ) (before now : List Clock) → AreElapsed table time core before now → is_working table (current table.control core) ≡ false
      → AreElapsed table time (core + 1) before now
  elapsed_passes time core before now elapsed none = record {
    many = elapsed.many;
    each = λ task low. elapsed.each task low ∙ ap (λ b. clock_then b time (clock_at before task)) (same task);
  }
    where
      same : (task : ℕ) → (runs_below table core task && is_working table task) ≡ (runs_below table (core + 1) task && is_working table task)
      same task = elim (cases_eq (current table.control core) task) [
        | inl own ↦
            let idle : is_working table task ≡ false = ap (is_working table) (sym own) ∙ none in
            (λ i. both (runs_below table core task) idle i) ∙ sym (both (runs_below table (core + 1) task) idle)
        | inr away ↦
            let other : eqb (current table.control core) task ≡ false = grind (arith, nat_tests, away) in
            ap (λ b. b && is_working table task)
            (sym (runs_more core task ∙ ap (λ b. runs_below table core task || (b || false)) other ∙ or_false (runs_below table core task)))
      ]
        where
          both : (b : Bool) {d : Bool} → d ≡ false → (b && d) ≡ false
          both true is = is
          both false is = refl

          or_false : (b : Bool) → (b || false) ≡ b
          or_false true = refl
          or_false false = refl

  -- its clock is as it was
  pub kept_there : (time core : ℕ) (before now : List Clock) → core < table.settings.cores → current table.control core < length before
      → AreElapsed table time core before now → clock_at now (current table.control core) ≡ clock_at before (current table.control core)
  kept_there time core before now below low elapsed =
      elapsed.each (current table.control core) low
      ∙ ap (λ b. clock_then (b && is_working table (current table.control core)) time (clock_at before (current table.control core)))
      (not_before core core below (omega arith))

  -- it does
  pub elapsed_finds :
      (time core : ℕ) (before now : List Clock) (clock : Clock) → core < table.settings.cores → current table.control core < length before
      → AreElapsed table time core before now → is_working table (current table.control core) ≡ true
      → clock ≡ clock_after time (clock_at now (current table.control core))
      → AreElapsed table time (core + 1) before (slice_set now (current table.control core) clock)
  elapsed_finds time core before now clock below low elapsed works is = record {
    many = length-set now (current table.control core) clock ∙ elapsed.many;
    each = λ task few. elim (cases_eq task (current table.control core)) [
      | inl own ↦
          subst (λ task. clock_at (slice_set now (current table.control core) clock) task
          ≡ clock_then (runs_below table (core + 1) task && is_working table task) time (clock_at before task)) (sym own) here
      | inr away ↦
          get_or-set_other now (current table.control core) task clock zero_clock away ∙ elapsed.each task few
          ∙ ap (λ b. clock_then (b && is_working table task) time (clock_at before task)) (same task away)
    ];
  }
    where
      same : (task : ℕ) → task ≢ current table.control core → runs_below table core task ≡ runs_below table (core + 1) task
      same task away =
          let other : eqb (current table.control core) task ≡ false = grind (arith, nat_tests, away) in
          sym (runs_more core task ∙ ap (λ b. runs_below table core task || (b || false)) other ∙ or_false (runs_below table core task))
        where
          or_false : (b : Bool) → (b || false) ≡ b
          or_false true = refl
          or_false false = refl

      or_true : (b : Bool) → (b || (true || false)) ≡ true
      or_true true = refl
      or_true false = refl

      here : clock_at (slice_set now (current table.control core) clock) (current table.control core)
          ≡ clock_then (runs_below table (core + 1) (current table.control core) && is_working table (current table.control core)) time
          (clock_at before (current table.control core))
      here =
          let own : eqb (current table.control core) (current table.control core) ≡ true = grind (arith, nat_tests) in
          let kept = kept_there time core before now below low elapsed in
          let now_runs : runs_below table (core + 1) (current table.control core) ≡ true
          = runs_more core (current table.control core) ∙ ap (λ b. runs_below table core (current table.control core) || (b || false)) own
          ∙ or_true (runs_below table core (current table.control core)) in
          get_or-set_same now (current table.control core) clock zero_clock (omega (arith, low, elapsed.many)) ∙ is
          ∙ ap (clock_after time) kept
          ∙ sym (λ i. clock_then (now_runs i && works i) time (clock_at before (current table.control core)))

  -- it went over all cores
  pub elapsed_ends : (time cores : ℕ) (before now : List Clock) → cores ≡ table.settings.cores → AreElapsed table time cores before now → (task : ℕ)
      → task < length before → clock_at now task ≡ clock_then (is_working table task) time (clock_at before task)
  elapsed_ends time cores before now all elapsed task low =
      let many : cores ≡ length table.control.cores = let same = sound.consistent.sized.cores in omega (arith, all, same) in
      elapsed.each task low
      ∙ ap (λ b. clock_then b time (clock_at before task))
      (ap (λ cores. runs_below table cores task && is_working table task) many ∙ twice (is_current table.control task) (is_none (call_at table.calls task)))
    where
      twice : (b d : Bool) → (b && (b && d)) ≡ (b && d)
      twice true d = refl
      twice false d = refl
