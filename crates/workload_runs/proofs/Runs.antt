-- A workload has one run, or one that is too long; at its places stand the next steps.
use Rattle.std.proofs.Common.{◌≡◌, ℕ, zero, suc, ◌≤◌, List, [], ◌∷◌, length, take, Option, Some, None, refl, sym, subst, inl, inr, arith}
use Rattle.std.specs.Prelude.{◌⊎◌, slice_get}
use Rattle.bench_types.specs.declared.step.Step.{Step}
use Rattle.bench_types.specs.Limits.{max_steps}
use Rattle.bench_model.specs.Session.{state_after, state_at}
use Rattle.task_programs.specs.declared.workload.Workload.{Workload}
use Rattle.workload_runs.specs.Laws.{KernelsAreThoseOfSteps, RunIsOne, StepsAreNext, ThereIsARun, TooLongIsLonger}
use Rattle.workload_runs.specs.Rule.{next_step, AreNext, IsRunFrom}
use Rattle.workload_runs.specs.Situations.{Situation, after, after_steps, first_situation, situation_at}

-- ---- one run

run_one :
    (run other : List Step) (workload : Workload) (now : Situation) → IsRunFrom workload now run → IsRunFrom workload now other → run ≡ other
run_one [] [] workload now one two = refl
run_one [] (t ∷ other) workload now one two = absurd (cc (one, two.0))
run_one (s ∷ run) [] workload now one two = absurd (cc (one.0, two))
run_one (s ∷ run) (t ∷ other) workload now one two =
    let same : t ≡ s = cc (one.0, two.0) in
    let second = subst (λ t. IsRunFrom workload (after workload t now) other) same two.1 in
    let rest = run_one run other workload (after workload s now) one.1 second in
    λ i. sym same i ∷ rest i

pub run_is_one : RunIsOne
run_is_one workload run other one two = run_one run other workload (first_situation workload) one two

-- ---- its places

next_at : (run : List Step) (place : ℕ) (workload : Workload) (now : Situation) → IsRunFrom workload now run → place ≤ length run
    → slice_get run place ≡ next_step workload (after_steps workload now (take place run))
next_at [] zero workload now is within = sym is
next_at [] (suc place) workload now is within = absurd (omega arith)
next_at (step ∷ run) zero workload now is within = sym is.0
next_at (step ∷ run) (suc place) workload now is within = next_at run place workload (after workload step now) is.1 (omega arith)

pub steps_are_next : StepsAreNext
unfolding situation_at
steps_are_next workload run place is within = next_at run place workload (first_situation workload) is within

kernel_after : (made : List Step) (workload : Workload) (now : Situation) → (after_steps workload now made).table ≡ state_after now.table made
unfolding after
kernel_after [] workload now = refl
kernel_after (step ∷ made) workload now = kernel_after made workload (after workload step now)

pub kernels_are_those_of_steps : KernelsAreThoseOfSteps
unfolding situation_at first_situation state_at
kernels_are_those_of_steps workload run place = kernel_after (take place run) workload (first_situation workload)

-- ---- there is a run, or it is too long

-- so many steps at most are a run from there on, or a step more comes next
abbrev Ends : Workload → ℕ → Situation → Type 0
Ends workload most now =
    ((run : List Step) × IsRunFrom workload now run × (length run ≤ most)) ⊎ ((made : List Step) × AreNext workload now made × (length made ≡ suc most))

up_to : (most : ℕ) (workload : Workload) (now : Situation) → Ends workload most now
up_to zero workload now = at (next_step workload now) refl
  where
    at : (next : Option Step) → next_step workload now ≡ next → Ends workload zero now
    at None none = inl ([], none, omega arith)
    at (Some step) some = inr (step ∷ [], (some, tt), refl)
up_to (suc most) workload now = at (next_step workload now) refl (λ step. up_to most workload (after workload step now))
  where
    at :
        (next : Option Step) → next_step workload now ≡ next → ((step : Step) → Ends workload most (after workload step now)) → Ends workload (suc most) now
    at None none later = inl ([], none, omega arith)
    at (Some step) some later = elim (later step) [
      | inl ends ↦ inl (step ∷ ends.0, (some, ends.1), let few : length ends.0 ≤ most = ends.2 in omega arith)
      | inr goes ↦ inr (step ∷ goes.0, (some, goes.1), λ i. suc (goes.2 i))
    ]

pub there_is_a_run : ThereIsARun
there_is_a_run workload = elim (up_to max_steps workload (first_situation workload)) [
  | inl ends ↦ inl (ends.0, ends.1, ends.2)
  | inr goes ↦ inr (record { beginning = goes.0; next = goes.1; longer = omega (arith, goes.2) })
]

-- a beginning is no longer than the run
no_longer : (beginning run : List Step) (workload : Workload) (now : Situation) → AreNext workload now beginning → IsRunFrom workload now run
    → length beginning ≤ length run
no_longer [] run workload now next is = omega arith
no_longer (s ∷ beginning) [] workload now next is = absurd (cc (next.0, is))
no_longer (s ∷ beginning) (t ∷ run) workload now next is =
    let same : t ≡ s = cc (next.0, is.0) in
    let rest = subst (λ t. IsRunFrom workload (after workload t now) run) same is.1 in
    let shorter : length beginning ≤ length run = no_longer beginning run workload (after workload s now) next.1 rest in
    omega arith

pub too_long_is_longer : TooLongIsLonger
too_long_is_longer workload run long is =
    let within : length long.beginning ≤ length run = no_longer long.beginning run workload (first_situation workload) long.next is in
    omega (arith, long.longer, within)
