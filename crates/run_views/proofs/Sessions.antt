-- A session is what its header and its steps are.
use Rattle.std.proofs.Common.{◌≡◌, List, subst}
use Rattle.bench_types.specs.declared.header.Header.{Header}
use Rattle.bench_types.specs.declared.step.Step.{Step}

-- what holds of a header and steps holds of the session that has them
pub same_session : {header : Header} {steps : List Step} {other : Header} {more : List Step} (holds : Header → List Step → Type 0) → header ≡ other → steps ≡
    more → holds header steps → holds other more
same_session {header} {steps} {other} {more} holds same alike held = subst (λ (steps : List Step). holds other steps) alike
    (subst (λ (header : Header). holds header steps) same held)
