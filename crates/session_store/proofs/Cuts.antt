-- Steps that are cut into two parts, one replayed after the other.
use Rattle.std.proofs.Common.{◌≡◌, ℕ, ◌+◌, ◌-◌, ◌≤◌, List, length, take, drop, sym, ap, ◌∙◌, arith}
use Rattle.std.specs.Prelude.{Result, Ok, Err, OnErr}
use Rattle.std.proofs.lemmas.List.{take-append-drop, length-append, length-drop, take_all}
use Rattle.bench_types.specs.declared.step.Step.{Step}
use Rattle.bench_model.specs.Session.{state_after}
use Rattle.bench_model.specs.Table.{Table}
use Rattle.segment_laws.proofs.Following.{state_append}
use Rattle.session_segments.specs.Counting.{meter_after, CountsUpTo}
use Rattle.session_segments.proofs.Counts.{counted_twice}

-- ---- steps that were counted

-- some of the steps come after others
pub some_later : (first second most old middle new : ℕ) → first + second ≤ most → middle ≡ meter_after first old → CountsUpTo second middle new → CountsUpTo
    most old new
some_later first second most old middle new within before some =
    (first + some.0, omega (arith, some.1), some.2 ∙ ap (meter_after some.0) before ∙ counted_twice first some.0 old)

-- a refusal of which this is known
pub on_err : {T E P : Type 0} (result : Result T E) → P → OnErr result P
on_err (Ok value) given = tt
on_err (Err why) given = given

-- ---- two parts of steps

-- a slice of all the steps from one on
pub rest_is : {X : Type 0} (from : ℕ) (xs : List X) → take (length xs - from) (drop from xs) ≡ drop from xs
rest_is from xs = take_all (length xs - from) (drop from xs) (omega (arith, length-drop from xs))

pub state_of_parts : (table : Table) (span : ℕ) (steps : List Step) → state_after (state_after table (take span steps)) (drop span steps) ≡ state_after table
    steps
state_of_parts table span steps = sym (state_append table (take span steps) (drop span steps)) ∙ ap (state_after table) (take-append-drop span steps)

pub length_of_parts : (span : ℕ) (steps : List Step) → length (take span steps) + length (drop span steps) ≡ length steps
length_of_parts span steps = omega (arith, length-append (take span steps) (drop span steps), ap length (take-append-drop span steps))

-- the same of a slice of the steps from one on
pub state_of_slices : (table : Table) (span : ℕ) (steps : List Step) → state_after (state_after table (take span steps))
    (take (length steps - span) (drop span steps)) ≡ state_after table steps
state_of_slices table span steps = ap (state_after (state_after table (take span steps))) (rest_is span steps) ∙ state_of_parts table span steps

pub length_of_slices : (span : ℕ) (steps : List Step) → length (take span steps) + length (take (length steps - span) (drop span steps)) ≡ length steps
length_of_slices span steps = ap (λ (rest : List Step). length (take span steps) + length rest) (rest_is span steps) ∙ length_of_parts span steps
