-- Counts that grow by several steps.
use Rattle.std.proofs.Common.{◌≡◌, ℕ, ◌+◌, ◌≤◌, ap, ◌∙◌, arith}
use Rattle.std.specs.Prelude.{Result, Ok, Err, OnErr}
use Rattle.session_segments.specs.Counting.{meter_after, CountsUpTo}
pub use Rattle.smp_kernel.proofs.Counts.{counted_more, counted_twice}

-- a refusal after some of the steps
pub counts_some : {T E : Type 0} (result : Result T E) (steps most old new : ℕ) → steps ≤ most → new ≡ meter_after steps old → OnErr result
    (CountsUpTo most old new)
counts_some (Ok value) steps most old new within count = tt
counts_some (Err why) steps most old new within count = (steps, within, count)

-- a refusal after some more steps, of which there are so many at most
pub counts_on : {T E : Type 0} (result : Result T E) (first more most old middle new : ℕ) → first + more ≤ most → middle ≡ meter_after first old → CountsUpTo
    more middle new → OnErr result (CountsUpTo most old new)
counts_on (Ok value) first more most old middle new within replayable counted = tt
counts_on (Err why) first more most old middle new within replayable counted =
    let few : counted.0 ≤ more = counted.1 in
    (first + counted.0, omega (arith, few, within), counted.2 ∙ ap (meter_after counted.0) replayable ∙ counted_twice first counted.0 old)
