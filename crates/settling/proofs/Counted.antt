-- The steps that a meter counted.
use Rattle.std.proofs.Common.{◌≡◌, ℕ, [], length, refl}
use Rattle.std.specs.Prelude.{Err, Ok, OnErr, Result}
use Rattle.bench_types.specs.Limits.{max_steps}
use Rattle.bench_types.specs.Session.{Session}
use Rattle.smp_kernel.specs.Counting.{CountsUpTo}
use Rattle.settling.specs.declared.run.Settling.{Settling}
use Rattle.settling.specs.Progress.{HasCounted, IsAt}

-- what holds anyhow holds of a fault
pub on_err : {T E : Type 0} {X : Type 0} (result : Result T E) → X → OnErr result X
on_err (Ok value) holds = tt
on_err (Err why) holds = holds

-- on the way they are no more than a session may have
pub few_counted : (session : Session) (settling : Settling) → IsAt session settling → (first count : ℕ) → HasCounted first count settling
    → CountsUpTo max_steps first count
few_counted session settling here first count counted = (length settling.run.steps, here.room, counted)

-- before the first step there is none
pub none_counted : (count : ℕ) (settling : Settling) → settling.run.steps ≡ [] → HasCounted count count settling
none_counted count settling none = rw none refl
