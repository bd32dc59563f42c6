-- Of a run that is too long one task alone made the last calls, or none did.
use Rattle.std.proofs.Common.{◌≡◌, ◌≤◌, ℕ, zero, suc, List, [], ◌∷◌, length, take, Option, Some, refl, sym, subst, ap, ◌∙◌, arith}
use Rattle.bench_types.specs.declared.step.Step.{Step}
use Rattle.bench_types.specs.Limits.{max_steps}
use Rattle.simulating.specs.Callers.{lone_caller, IsTooLongBy}
use Rattle.task_programs.specs.declared.workload.Workload.{Workload}
use Rattle.workload_runs.specs.Rule.{AreNext}
use Rattle.workload_runs.specs.Situations.{Situation, after, first_situation}

-- as many of the next steps are the same ones
one_beginning : (count : ℕ) (workload : Workload) (now : Situation) (steps others : List Step) → count ≤ length steps → count ≤ length others
    → AreNext workload now steps → AreNext workload now others → take count steps ≡ take count others
one_beginning zero workload now steps others few fewer one two = refl
one_beginning (suc count) workload now [] others few fewer one two = absurd (omega (arith, few))
one_beginning (suc count) workload now (s ∷ steps) [] few fewer one two = absurd (omega (arith, fewer))
one_beginning (suc count) workload now (s ∷ steps) (t ∷ others) few fewer one two =
    let same : t ≡ s = cc (one.0, two.0) in
    let second = subst (λ (t : Step). AreNext workload (after workload t now) others) same two.1 in
    let rest = one_beginning count workload (after workload s now) steps others (omega (arith, few)) (omega (arith, fewer)) one.1 second in
    λ i. sym same i ∷ rest i

pub one_caller : (workload : Workload) (caller other : Option ℕ) → IsTooLongBy workload caller → IsTooLongBy workload other → caller ≡ other
one_caller workload caller other one two =
    one.lone
    ∙ ap lone_caller (one_beginning max_steps workload (first_situation workload) one.long.beginning two.long.beginning (omega (arith, one.long.longer))
    (omega (arith, two.long.longer)) one.long.next two.long.next)
    ∙ sym two.lone
