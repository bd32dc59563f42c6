-- How many steps were counted.
use Rattle.std.proofs.Common.{◌≡◌, ℕ, ◌+◌, ◌≤◌, ap, ◌∙◌, arith}
use Rattle.std.specs.Prelude.{Result, Ok, Err, OnErr}
use Rattle.smp_kernel.specs.Counting.{meter_after, CountsUpTo}
use Rattle.smp_kernel.proofs.Counts.{counted_twice}

pub refused : {T E : Type 0} (result : Result T E) (P : Type 0) → P → OnErr result P
refused (Ok value) P holds = tt
refused (Err why) P holds = holds

pub some_counted : (few most old new : ℕ) → few ≤ most → CountsUpTo few old new → CountsUpTo most old new
some_counted few most old new low counts = let own = counts.1 in (counts.0, omega (arith, low, own), counts.2)

pub all_counted : (first most old new : ℕ) → first ≤ most → new ≡ meter_after first old → CountsUpTo most old new
all_counted first most old new low is = (first, low, is)

pub both_counted : (first second old middle new : ℕ) → middle ≡ meter_after first old → new ≡ meter_after second middle → new ≡ meter_after (first + second) old
both_counted first second old middle new one other = other ∙ ap (meter_after second) one ∙ counted_twice first second old
