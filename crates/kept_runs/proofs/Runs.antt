-- An edited session has one run that keeps work.
use Rattle.std.proofs.Common.{◌≡◌, List, [], ◌∷◌, refl, sym, subst, ◌∙◌}
use Rattle.bench_types.specs.declared.step.Step.{Step}
use Rattle.settled_runs.specs.declared.waiting_call.WaitingCall.{WaitingCall}
use Rattle.settled_runs.proofs.Settlings.{settled_run_is_one}
use Rattle.kept_runs.specs.KeptLaws.{KeptRunIsOne}
use Rattle.kept_runs.specs.Rule.{Progress, after, first_progress, IsRunFrom}

run_one :
    (run other : List Step) (left rest : List WaitingCall) (now : Progress) → IsRunFrom now run left → IsRunFrom now other rest
    → (run ≡ other) × (left ≡ rest)
run_one [] [] left rest now one two = (refl, sym one.1 ∙ two.1)
run_one [] (t ∷ other) left rest now one two = absurd (cc (one.0, two.0))
run_one (s ∷ run) [] left rest now one two = absurd (cc (one.0, two.0))
run_one (s ∷ run) (t ∷ other) left rest now one two =
    let same : t ≡ s = cc (one.0, two.0) in
    let second = subst (λ t. IsRunFrom (after t now) other rest) same two.1 in
    let later = run_one run other left rest (after s now) one.1 second in
    (λ i. sym same i ∷ later.0 i, later.1)

pub kept_run_is_one : KeptRunIsOne
kept_run_is_one order session edits run other left rest one two =
    let same = settled_run_is_one session.header session.steps two.settled one.settled two.waiting one.waiting two.is_settled one.is_settled in
    let second = subst (λ settled. IsRunFrom (first_progress order session edits settled) other rest) same.0 two.is_run in
    run_one run other left rest (first_progress order session edits one.settled) one.is_run second
