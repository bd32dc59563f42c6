-- Steps that were counted more than once.
use Rattle.std.proofs.Common.{◌≡◌, ℕ, ◌+◌, ◌*◌, ◌≤◌, Bool, true, false, length, refl, ap, ◌∙◌, arith}
use Rattle.std.specs.Prelude.{Err, Ok, OnErr, Result}
use Rattle.bench_types.specs.Limits.{max_steps}
use Rattle.session_runs.specs.Run.{RunView}
use Rattle.kept_sessions.specs.Runs.{is_settled_one, steps_made}
use Rattle.run_sources.specs.declared.source.Source.{Source}
use Rattle.run_sources.specs.declared.source.Source.TheVariants as source
use Rattle.run_sources.specs.Sources.{most_of, IsCounted}
use Rattle.smp_kernel.specs.Counting.{meter_after, CountsUpTo}
use Rattle.smp_kernel.proofs.Counts.{counted_twice}
use Rattle.ranked_changes.specs.declared.change.Change.{Change}
use Rattle.ranked_changes.specs.Changed.{changed}
use Rattle.ranked_changes.specs.Verdicts.{is_made_first, most_judged, IsJudged}

-- some more after the first ones
counted_again : (most first more old middle new : ℕ) → first + more ≤ most → middle ≡ meter_after first old → CountsUpTo more middle new
    → CountsUpTo most old new
counted_again most first more old middle new few before some =
    let low : some.0 ≤ more = some.1 in
    (first + some.0, omega (arith, few, low), some.2 ∙ ap (meter_after some.0) before ∙ counted_twice first some.0 old)

-- those of a run that keeps work, and its own once more
kept_few : (is_settled : Bool) (settled run : ℕ) → settled ≤ max_steps → run ≤ max_steps → steps_made is_settled settled run + run ≤ 4 * max_steps
kept_few true settled run few room = omega (arith, few, room)
kept_few false settled run few room = omega (arith, few, room)

-- those that made a run of no more steps than a session may have, and some of its own
pub judged_few : (source : Source) (run : RunView) (old made new : ℕ) → is_made_first source ≡ true → length run.session.steps ≤ max_steps
    → IsCounted source run old made → CountsUpTo (length run.session.steps) made new → CountsUpTo (most_judged source) old new
judged_few (source.Session session) run old made new first room counted some = absurd (cc first)
judged_few (source.Settled session) run old made new first room counted some =
    counted_again (2 * max_steps) (length run.session.steps) (length run.session.steps) old made new (omega (arith, room)) counted some
judged_few (source.Workload workload) run old made new first room counted some =
    counted_again (3 * max_steps) (length run.session.steps + length run.session.steps) (length run.session.steps) old made new (omega (arith, room))
    counted some
judged_few (source.Kept kept order) run old made new first room counted some =
    let settled = length counted.settled.session.steps in
    let many = length run.session.steps in
    counted_again (4 * max_steps) (steps_made (is_settled_one order kept) settled many) many old made new
    (kept_few (is_settled_one order kept) settled many counted.few room) counted.is some

pub judged_so : (source : Source) (run : RunView) (old made new : ℕ) → is_made_first source ≡ true → IsCounted source run old made
    → new ≡ meter_after (length run.session.steps) made → IsJudged source run old new
judged_so (source.Session session) run old made new first counted is = absurd (cc first)
judged_so (source.Settled session) run old made new first counted is = (made, counted, is)
judged_so (source.Workload workload) run old made new first counted is = (made, counted, is)
judged_so (source.Kept kept order) run old made new first counted is = (made, counted, is)

-- where no run was made
pub most_few : (source : Source) (old new : ℕ) → is_made_first source ≡ true → CountsUpTo (most_of source) old new → CountsUpTo (most_judged source) old new
most_few (source.Session session) old new first some = absurd (cc first)
most_few (source.Settled session) old new first some = let low : some.0 ≤ max_steps = some.1 in (some.0, omega (arith, low), some.2)
most_few (source.Workload workload) old new first some = let low : some.0 ≤ max_steps = some.1 in (some.0, omega (arith, low), some.2)
most_few (source.Kept kept order) old new first some = let low : some.0 ≤ 3 * max_steps = some.1 in (some.0, omega (arith, low), some.2)

-- a change leaves what may be counted
pub most_kept : (source : Source) (made : Change) → most_judged (changed source made) ≡ most_judged source
most_kept (source.Session session) made = refl
most_kept (source.Settled session) made = refl
most_kept (source.Workload workload) made = refl
most_kept (source.Kept kept order) made = refl

-- what holds anyhow holds of a fault
pub on_err : {T E : Type 0} {X : Type 0} (result : Result T E) → X → OnErr result X
on_err (Ok value) holds = tt
on_err (Err why) holds = holds
