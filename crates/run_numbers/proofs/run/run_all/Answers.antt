use Rattle.std.proofs.Common.{◌≡◌, ℕ, suc, ◌+◌, ◌-◌, ◌<◌, ◌≤◌, ◌^◌, min, List, length, get_or, refl, sym, ap, ap₂, subst, ◌∙◌, arith, add-one}
use Rattle.std.specs.Vec.{vec_capacity}
use Rattle.bench_types.specs.Limits.{max_steps}
use Rattle.bench_types.specs.declared.header.Header.{Header}
use Rattle.bench_types.specs.declared.kernel_data.Settings.{Settings}
use Rattle.bench_types.specs.declared.step.Step.{Step}
use Rattle.bench_types.specs.declared.step.Step.TheVariants.{Tick}
use Rattle.step_times.specs.Times.{time_of}
use Rattle.bench_model.specs.Equal.{StandsFor}
use Rattle.bench_model.specs.Session.{state_at, step_of}
use Rattle.smp_kernel.proofs.Counts.{counted_more}
use Rattle.run_numbers.specs.AfterStep.{known_before}
use Rattle.run_numbers.specs.Counted.{AreCounted, AreCrowded, AreWorked, HaveRoom, IsUntouched}
use Rattle.run_numbers.specs.Counters.{took}
use Rattle.run_numbers.specs.Past.{Past, past, past_after, ticks_after}
use Rattle.run_numbers.specs.Taking.{AreTaken, AreTurned, IsPlanOf}
use Rattle.run_numbers.specs.Turns.{turn_by}
use Rattle.run_numbers.proofs.Runs.{all_told, have_room, looks_alike, more_counted, step_next, step_there, time_fits}
use Rattle.run_numbers.proofs.Working.{few_ticks, have_work_room, more_crowded, more_worked, takers_of}
use Rattle.run_numbers.proofs.run.run_all.Goals as goal

pub note_time-requires-clause-little : goal.note_time-requires-clause-little
note_time-requires-clause-little c =
    let session = c.args.session.now in
    let so_far = c.loop-place in
    let step = get_or c.steps-steps.result.now so_far.place Tick in
    let low : so_far.place < length session.steps =
    omega (arith, c.loop-place-test.true, ap (λ (steps : List Step). length steps) c.steps-steps.ensures.steps) in
    let time : c.time_of.result ≡ time_of session.header.config.units step =
    c.time_of.ensures ∙ ap (λ (header : Header). time_of header.config.units step) c.header.ensures.header in
    omega (
      arith,
      time,
      time_fits session so_far.place so_far.kernel c.args.plan.now so_far.counters so_far.looks so_far.row
          (past so_far.clock.elapsed so_far.clock.places.items) so_far.invariant.counted low c.steps-steps.ensures.checked.few step (omega (arith, time)),
    )

pub step_all-requires-clause-room : goal.step_all-requires-clause-room
step_all-requires-clause-room c =
    let session = c.args.session.now in
    let so_far = c.loop-place in
    let plan = c.args.plan.now in
    let step = get_or c.steps-steps.result.now so_far.place Tick in
    let before = past so_far.clock.elapsed so_far.clock.places.items in
    let low : so_far.place < length session.steps =
    omega (arith, c.loop-place-test.true, ap (λ (steps : List Step). length steps) c.steps-steps.ensures.steps) in
    let time : c.time_of.result ≡ time_of session.header.config.units step =
    c.time_of.ensures ∙ ap (λ (header : Header). time_of header.config.units step) c.header.ensures.header in
    let later = ap (past c.note_tick.new.clock.elapsed) c.as_slice-places.ensures.value
    ∙ ap₂ past (c.note_tick.ensures.elapsed ∙ c.note_time.ensures.elapsed) (c.note_tick.ensures.places ∙ c.note_time.ensures.places)
    ∙ ap (λ time. past_after time so_far.place before) time in
    subst (λ (so_far : Past). HaveRoom so_far plan.subjects.now c.loop-place.counters) (sym later)
    (have_room session so_far.place so_far.kernel plan so_far.counters so_far.looks so_far.row before so_far.invariant.counted low
    c.steps-steps.ensures.checked.few step (omega (arith, time)))

pub note_tick-requires : goal.note_tick-requires
note_tick-requires c =
    let session = c.args.session.now in
    let so_far = c.loop-place in
    let low : so_far.place < length session.steps =
    omega (arith, c.loop-place-test.true, ap (λ (steps : List Step). length steps) c.steps-steps.ensures.steps) in
    let few = few_ticks session so_far.place so_far.clock.ticks.items so_far.invariant.worked.ticks in
    let same = ap (λ (ticks : List ℕ). length ticks) c.note_time.ensures.ticks in
    omega (arith, low, few, same, c.note_time.ensures.ticks_room, so_far.invariant.ticks, c.requires.ticks)

pub loop-place-preserved : goal.loop-place-preserved
loop-place-preserved c =
    let session = c.args.session.now in
    let plan = c.args.plan.now in
    let so_far = c.loop-place in
    let place = so_far.place in
    let kernel = so_far.kernel in
    let later = c.step_all.new.kernel in
    let counted = so_far.invariant.counted in
    let steps_are = c.steps-steps.ensures.steps in
    let few = c.steps-steps.ensures.checked.few in
    let step = get_or c.steps-steps.result.now place Tick in
    let table = state_at session.header session.steps place in
    let before = past so_far.clock.elapsed so_far.clock.places.items in
    let low_place : place < length session.steps = omega (arith, c.loop-place-test.true, ap (λ (steps : List Step). length steps) steps_are) in
    let time : c.time_of.result ≡ time_of session.header.config.units step =
    c.time_of.ensures ∙ ap (λ (header : Header). time_of header.config.units step) c.header.ensures.header in
    let clock_is = ap₂ past (c.note_tick.ensures.elapsed ∙ c.note_time.ensures.elapsed) (c.note_tick.ensures.places ∙ c.note_time.ensures.places)
    ∙ ap (λ time. past_after time place before) time in
    let args_are = ap (past c.note_tick.new.clock.elapsed) c.as_slice-places.ensures.value ∙ clock_is in
    let there =
    step_there session place kernel plan so_far.counters so_far.looks so_far.row before counted low_place few c.steps-steps.result.now steps_are in
    let next =
    step_next session place kernel plan so_far.counters so_far.looks so_far.row before counted low_place few c.steps-steps.result.now steps_are in
    let stood = subst (StandsFor later) next (c.step_all.ensures.state table counted.stands) in
    let plans = subst (λ (settings : Settings). IsPlanOf settings plan) (sym counted.settings) c.requires.plan in
    let taken = subst (λ (so_far : Past). AreTaken (took (known_before kernel step) step (step_of step table).0 later so_far)
    (IsUntouched c.loop-place.looks c.loop-place.row (known_before kernel step) step later) plan c.loop-place.counters c.step_all.new.counters) args_are
    (c.step_all.ensures.taken table counted.stands) in
    let more =
    more_counted session place kernel plan so_far.counters so_far.looks so_far.row before counted low_place few step there later stood next
    c.step_all.ensures.shape plans c.step_all.ensures.core (omega (arith, time)) c.step_all.new.counters c.step_all.new.looks c.step_all.new.row
    c.step_all.auto.counters c.step_all.auto.looks taken c.step_all.ensures.looked c.step_all.ensures.row in
    let next_counted = subst (λ (so_far : Past). AreCounted session (suc place) later plan c.step_all.new.counters c.step_all.new.looks c.step_all.new.row so_far)
    (sym clock_is) more in
    let after_is = next_counted.elapsed in
    let ticks_are =
    c.as_slice-ticks.ensures.value ∙ c.note_tick.ensures.ticks ∙ ap₂ (ticks_after step) (sym c.note_tick.ensures.elapsed ∙ after_is) c.note_time.ensures.ticks in
    let tasks_are = c.requires.plan.tasks ∙ sym (ap (λ (settings : Settings). settings.tasks) (c.step_all.ensures.shape ∙ counted.settings)) in
    let turned = subst (λ tasks. AreTurned (turn_by step (step_of step table).0 (place + 1) so_far.clock.elapsed c.note_tick.new.clock.elapsed
    c.as_slice-ticks.result.now later) (IsUntouched c.loop-place.looks c.loop-place.row (known_before kernel step) step later) tasks c.loop-place.works
    c.step_all.new.works) tasks_are (c.step_all.ensures.worked table counted.stands) in
    let worked =
    more_worked session place step there later stood kernel counted.stands so_far.row c.step_all.ensures.shape counted.cores
    (step_of step table).0 refl (c.step_all.ensures.shape ∙ counted.settings) so_far.looks
    (λ task low untouched.
    looks_alike session place kernel plan so_far.counters so_far.looks so_far.row before counted low_place few step there later stood next
    c.step_all.ensures.shape plans c.step_all.ensures.core task untouched) so_far.works c.step_all.new.works so_far.clock.ticks.items
    c.as_slice-ticks.result.now (place + 1) so_far.clock.elapsed c.note_tick.new.clock.elapsed so_far.invariant.worked c.step_all.auto.works (add-one place)
    counted.elapsed after_is ticks_are turned in
    let crowded =
    more_crowded session place c.note_tick.new.clock.elapsed c.step_all.new.works c.as_slice-ticks.result.now so_far.crowds c.step_all.new.crowds
    so_far.invariant.crowded worked after_is c.step_all.auto.crowds c.step_all.ensures.takers c.step_all.ensures.times in
    record {
      counted = subst (λ n. AreCounted session n later plan c.step_all.new.counters c.step_all.new.looks c.step_all.new.row
          (past c.note_tick.new.clock.elapsed c.note_tick.new.clock.places.items)) (sym (add-one place)) next_counted;
      worked = subst (λ n. AreWorked session n c.step_all.new.works c.note_tick.new.clock.ticks.items) (sym (add-one place))
          (subst (λ ticks. AreWorked session (suc place) c.step_all.new.works ticks) c.as_slice-ticks.ensures.value worked);
      crowded = subst (λ n. AreCrowded session n c.step_all.new.crowds) (sym (add-one place)) crowded;
      room = c.note_tick.ensures.places_room ∙ c.note_time.ensures.room ∙ so_far.invariant.room;
      ticks = c.note_tick.ensures.room ∙ c.note_time.ensures.ticks_room ∙ so_far.invariant.ticks;
      meter = c.step_all.ensures.meter ∙ ap (λ count. min (count + 1) (2 ^ 64 - 1)) so_far.invariant.meter ∙ counted_more place c.args.meter.now;
    }

pub returns-clause-counted : goal.returns-clause-counted
returns-clause-counted c =
    let session = c.args.session.now in
    let plan = c.args.plan.now in
    let so_far = c.loop-place in
    let all : so_far.place ≡ length session.steps =
    omega (arith, c.loop-place-test.false, so_far.auto.place-end, ap (λ (steps : List Step). length steps) c.steps-steps.ensures.steps) in
    let before = past so_far.clock.elapsed so_far.clock.places.items in
    all_told session so_far.kernel plan so_far.counters so_far.looks so_far.row before c.steps-steps.ensures.checked.few
    (subst (λ n. AreCounted session n so_far.kernel plan so_far.counters so_far.looks so_far.row before) all so_far.invariant.counted)

pub returns-clause-worked : goal.returns-clause-worked
returns-clause-worked c =
    let session = c.args.session.now in
    let so_far = c.loop-place in
    let all : so_far.place ≡ length session.steps =
    omega (arith, c.loop-place-test.false, so_far.auto.place-end, ap (λ (steps : List Step). length steps) c.steps-steps.ensures.steps) in
    subst (λ n. AreWorked session n so_far.works so_far.clock.ticks.items) all so_far.invariant.worked

pub returns-clause-crowded : goal.returns-clause-crowded
returns-clause-crowded c =
    let session = c.args.session.now in
    let so_far = c.loop-place in
    let all : so_far.place ≡ length session.steps =
    omega (arith, c.loop-place-test.false, so_far.auto.place-end, ap (λ (steps : List Step). length steps) c.steps-steps.ensures.steps) in
    subst (λ n. AreCrowded session n so_far.crowds) all so_far.invariant.crowded

pub step_all-requires-clause-works : goal.step_all-requires-clause-works
step_all-requires-clause-works c = c.loop-place.invariant.worked.size ∙ sym c.requires.plan.tasks

pub step_all-requires-clause-takers : goal.step_all-requires-clause-takers
step_all-requires-clause-takers c =
    let so_far = c.loop-place in
    takers_of c.args.session.now so_far.place so_far.works so_far.clock.ticks.items so_far.crowds so_far.invariant.worked so_far.invariant.crowded

pub step_all-requires-clause-work_room : goal.step_all-requires-clause-work_room
step_all-requires-clause-work_room c task low =
    let session = c.args.session.now in
    let so_far = c.loop-place in
    let few : so_far.place ≤ max_steps =
    omega (
      arith,
      c.loop-place-test.true,
      ap (λ (steps : List Step). length steps) c.steps-steps.ensures.steps,
      c.steps-steps.ensures.checked.few,
    ) in
    let within : task < length so_far.works = omega (arith, low, so_far.invariant.worked.size, c.requires.plan.tasks) in
    have_work_room session so_far.place so_far.works so_far.clock.ticks.items so_far.invariant.worked few task within
