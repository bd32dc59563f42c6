-- What is known of a checked workload: its units, its programs and its interrupts.
use Rattle.std.proofs.Common.{◌≡◌, ℕ, ◌^◌, ◌<◌, ◌≤◌, Bool, true, false, cond, List, [], length, get_or, Option, Some, None, refl, sym, subst, inl, inr, arith}
use Rattle.std.specs.Prelude.{All, slice_get}
use Rattle.std.proofs.lemmas.Bool.{cases_lt}
use Rattle.std.proofs.lemmas.Bool.Decides.{nat_tests}
use Rattle.std.proofs.lemmas.List.{get_or_past}
use Rattle.std.proofs.lemmas.List.Elements.{All-get_or, All-nil}
use Rattle.std.proofs.lemmas.Option.{get_or_from_slice_get, slice_get_within}
use Rattle.bench_types.specs.declared.flaw.HeaderFlaw.{HeaderFlaw}
use Rattle.bench_types.specs.declared.flaw.HeaderFlaw.TheVariants.{Units}
use Rattle.bench_types.specs.declared.header.QueueArgs.{QueueArgs}
use Rattle.bench_types.specs.Flaw.{limits_flaw, units_flaw}
use Rattle.bench_types.specs.Limits.{max_units}
use Rattle.bench_types.specs.Name.{is_within}
use Rattle.bench_types.specs.Step.{settings_of}
use Rattle.bench_types.proofs.Passes.{checked_header, checked_units}
use Rattle.task_programs.specs.declared.workload.Interrupt.{Interrupt}
use Rattle.task_programs.specs.declared.workload.Workload.{Workload}
use Rattle.task_programs.specs.Laws.{IsSoundInterrupt, IsSoundWorkload}
use Rattle.task_programs.specs.Programs.{program_flaw, IsInstructionOfWords}
use Rattle.task_programs.specs.Workloads.{IsCheckedWorkload}
use Rattle.task_programs.proofs.Sound.{checked_is_sound}
use Rattle.workload_runs.specs.Situations.{program_at, units_in}

within : (low high n : ℕ) (flaw : HeaderFlaw) → limits_flaw low high n flaw ≡ None → (low ≤ n) × (n ≤ high)
within low high n flaw none = at (is_within low high n) refl none
  where
    at : (b : Bool) → is_within low high n ≡ b → cond b None (Some flaw) ≡ None → (low ≤ n) × (n ≤ high)
    at true is none = (grind (arith, nat_tests, is), grind (arith, nat_tests, is))
    at false is none = absurd (cc none)

few_units : (units : ℕ) (queues : Option (List QueueArgs)) → units_flaw units queues ≡ None → (0 < units) × (units < 2 ^ 32)
few_units units None none = let both = within 1 1 units (Units units) none in (omega arith, omega arith)
few_units units (Some queues) none = let both = within 1 max_units units (Units units) none in (omega arith, omega arith)

-- what holds of each, and of the default, holds of the one at an index
pub at_any : {X : Type 0} (P : X → Type 0) (xs : List X) (i : ℕ) (d : X) → All P xs → P d → P (get_or xs i d)
at_any P xs i d all default = elim (cases_lt i (length xs)) [
  | inl inside ↦ All-get_or P xs i d inside all
  | inr past ↦ subst P (sym (get_or_past xs i d past)) default
]

module _ (workload : Workload) (checked : IsCheckedWorkload workload) where
  pub workload_sound : IsSoundWorkload workload
  workload_sound = checked_is_sound workload checked

  pub units_fit : (0 < units_in workload) × (units_in workload < 2 ^ 32)
  units_fit = few_units (units_in workload) workload.header.queues (checked_units workload.header checked.header.passes)

  pub cores_fit : workload.header.config.cores < 2 ^ 32
  cores_fit = let limits = checked_header workload.header checked.header.passes in omega (arith, limits.few_cores)

  -- each program has no flaw, and is of words; so is that of a task that is none
  pub program_flawless : (user : ℕ) → program_flaw (settings_of workload.header) (program_at workload user) ≡ None
  unfolding program_flaw
  program_flawless user =
      at_any (λ program. program_flaw (settings_of workload.header) program ≡ None) workload.programs user [] workload_sound.programs refl

  pub program_of_words : (user : ℕ) → All IsInstructionOfWords (program_at workload user)
  program_of_words user = at_any (All IsInstructionOfWords) workload.programs user [] checked.programs (All-nil IsInstructionOfWords)

  pub interrupt_at : (index : ℕ) (interrupt : Interrupt) → slice_get workload.interrupts index ≡ Some interrupt
      → IsSoundInterrupt (settings_of workload.header) interrupt
  interrupt_at index interrupt stands =
      let P : Interrupt → Type 0 = IsSoundInterrupt (settings_of workload.header) in
      subst P (get_or_from_slice_get workload.interrupts index interrupt interrupt stands)
      (All-get_or P workload.interrupts index interrupt (slice_get_within workload.interrupts index interrupt stands) workload_sound.interrupts)
