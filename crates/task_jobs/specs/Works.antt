-- The work of a task so far, and one step further.
use Rattle.std.specs.Prelude.{◌≡◌, ℕ, suc, ◌-◌, ◌<◌, ◌≤◌, ◌^◌, ◌+◌, Bool, false, not, ◌&&◌, ◌||◌, nat_lt, List, [], All, Option, Some, None, is_some, option_map, unwrap_or, if◌then◌else◌}
use Rattle.std.specs.Option.{option_or}
use Rattle.bench_model.specs.Tallied.{one_if}
use Rattle.task_jobs.specs.declared.durations.Durations.{Durations}
use Rattle.task_jobs.specs.declared.histogram.Histogram.{Histogram}
use Rattle.task_jobs.specs.declared.moves.Moves.{Moves}
use Rattle.task_jobs.specs.declared.waits.Waits.{Waits}
use Rattle.task_jobs.specs.declared.waits.Wake.{Wake}
use Rattle.task_jobs.specs.declared.work.First.{First}
use Rattle.task_jobs.specs.declared.work.Turn.{Turn}
use Rattle.task_jobs.specs.declared.work.Work.{Work}
use Rattle.task_jobs.specs.Course.{Course}
use Rattle.task_jobs.specs.Durations.{durations_of, with_thing}
use Rattle.task_jobs.specs.Histograms.{histogram_of, with_time}
use Rattle.task_jobs.specs.Jobs.{all_latencies, all_responses, begin_at, core_from, latencies, periods, responses}
use Rattle.task_jobs.specs.Moves.{is_other, last_core, moves}
use Rattle.task_jobs.specs.Waits.{is_by_tick, run_outs}

-- ---- moves from core to core

abbrev pub moves_at : Course → ℕ → Moves
moves_at course place =
    record { core = last_core course place; count = moves course place }

abbrev pub first_moves : Option ℕ → Moves
first_moves core = record { core = core; count = 0 }

abbrev pub with_core : Option ℕ → Moves → Moves
with_core core moves = record {
  core = option_or core moves.core;
  count = moves.count + one_if (is_other moves.core core);
}

-- ---- waits

abbrev pub waits_at : Course → ℕ → Waits
waits_at course place = record {
  ready = course.ready place;
  by_tick = is_by_tick course place;
  run_out = run_outs course place;
}

abbrev pub first_waits : Bool → Waits
first_waits ready = record { ready = ready; by_tick = false; run_out = 0 }

-- a tick made the task ready last, with the step
abbrev pub is_by_tick_now : Wake → Waits → Bool
is_by_tick_now wake waits =
    if not waits.ready && wake.ready then wake.tick else waits.by_tick

abbrev pub with_wake : Wake → Waits → Waits
with_wake wake waits = record {
  ready = wake.ready;
  by_tick = is_by_tick_now wake waits;
  run_out = waits.run_out + one_if (wake.in_vain && waits.by_tick);
}

-- ---- all that it did

-- what a task did up to a place
abbrev pub work_at : Course → ℕ → Work
work_at course place = record {
  rests = course.rests place;
  begins = begin_at course place;
  release = course.release (begin_at course place);
  begun = course.time (begin_at course place);
  started = option_map course.time (core_from course place);
  responses = durations_of (responses course place);
  latencies = durations_of (latencies course place);
  periods = durations_of (periods course place);
  histogram = histogram_of (responses course place);
  moves = moves_at course place;
  waits = waits_at course place;
  in_call = course.in_call place;
  takes = course.takes place;
}

-- what the step at a place is to its waits
abbrev pub wake_at : Course → ℕ → Wake
wake_at course place = record {
  ready = course.ready (suc place);
  tick = course.ticks place;
  in_vain = course.in_vain place;
}

-- what the step at a place is to the task
abbrev pub turn_at : Course → ℕ → Turn
turn_at course place = record {
  rests = course.rests (suc place);
  asks = course.asks place;
  retakes = course.retakes place;
  core = course.core (suc place);
  wake = wake_at course place;
  in_call = course.in_call (suc place);
  takes = course.takes (suc place);
  place = suc place;
  before = course.time place;
  after = course.time (suc place);
  release = course.release (suc place);
}

-- the time now, where the task has a core
abbrev pub now_on_core : Turn → Option ℕ
now_on_core turn = if is_some turn.core then Some turn.after else None

-- a job ends that was one
abbrev pub ends_job : Turn → Work → Bool
ends_job turn work = (not work.rests && (turn.rests || turn.asks)) && not turn.retakes

abbrev pub begins_job : Turn → Work → Bool
begins_job turn work = not turn.rests && (work.rests || turn.asks)

-- the times with those that the step ends
abbrev pub response_now : Turn → Work → Durations
response_now turn work = if ends_job turn work
    then with_thing (turn.before - work.release, work.begins) work.responses
    else work.responses

abbrev pub latency_now : Turn → Work → Durations
latency_now turn work = if ends_job turn work
    then with_thing (unwrap_or work.started turn.before - work.begun, work.begins)
    work.latencies
    else work.latencies

abbrev pub period_now : Turn → Work → Durations
period_now turn work = if begins_job turn work && nat_lt 0 work.begins
    then with_thing (turn.after - work.begun, work.begins) work.periods
    else work.periods

-- the answer of the job that the step ends, among those of its length
abbrev pub histogram_now : Turn → Work → Histogram
histogram_now turn work = if ends_job turn work
    then with_time (turn.before - work.release) work.histogram
    else work.histogram

-- with what the step is
abbrev pub with_turn : Turn → Work → Work
with_turn turn work = record {
  rests = turn.rests;
  begins = if begins_job turn work then turn.place else work.begins;
  release = if begins_job turn work then turn.release else work.release;
  begun = if begins_job turn work then turn.after else work.begun;
  started = if begins_job turn work then now_on_core turn
      else option_or work.started (now_on_core turn);
  responses = response_now turn work;
  latencies = latency_now turn work;
  periods = period_now turn work;
  histogram = histogram_now turn work;
  moves = with_core turn.core work.moves;
  waits = with_wake turn.wake work.waits;
  in_call = turn.in_call;
  takes = turn.takes;
}

-- before any step
abbrev pub first_work : First → Work
first_work first = record {
  rests = first.rests;
  begins = 0;
  release = 0;
  begun = 0;
  started = if is_some first.core then Some 0 else None;
  responses = durations_of [];
  latencies = durations_of [];
  periods = durations_of [];
  histogram = histogram_of [];
  moves = first_moves first.core;
  waits = first_waits first.ready;
  in_call = first.in_call;
  takes = first.takes;
}

-- what is known of the task at the start
abbrev pub first_of : Course → First
first_of course = record {
  rests = course.rests 0;
  core = course.core 0;
  ready = course.ready 0;
  in_call = course.in_call 0;
  takes = course.takes 0;
}

-- one thing more can be counted
pub record HasRoom (work : Work) : Type 0 where
  pub responses : work.responses.count < 2 ^ 32 - 1
  pub latencies : work.latencies.count < 2 ^ 32 - 1
  pub periods : work.periods.count < 2 ^ 32 - 1
  pub histogram : All (λ count. count < 2 ^ 32 - 1) work.histogram.counts
  pub moves : work.moves.count < 2 ^ 32 - 1
  pub waits : work.waits.run_out < 2 ^ 32 - 1

-- the work before any step is known, where no time has passed then
abbrev pub WorkBegins : Type 0
WorkBegins =
    (course : Course) → course.time 0 ≡ 0 → course.release 0 ≡ 0
    → work_at course 0 ≡ first_work (first_of course)

-- and so is that up to the next place
abbrev pub WorkGoesOn : Type 0
WorkGoesOn =
    (course : Course) (place : ℕ)
    → work_at course (suc place) ≡ with_turn (turn_at course place) (work_at course place)

-- the step at the place is nothing to the task
pub record IsQuiet (course : Course) (place : ℕ) : Type 0 where
  pub rests : course.rests (suc place) ≡ course.rests place
  pub asks : course.asks place ≡ false
  pub core : course.core (suc place) ≡ course.core place
  pub ready : course.ready (suc place) ≡ course.ready place
  pub in_vain : course.in_vain place ≡ false
  pub in_call : course.in_call (suc place) ≡ course.in_call place
  pub takes : course.takes (suc place) ≡ course.takes place

-- then its work stays what it was
abbrev pub WorkStays : Type 0
WorkStays =
    (course : Course) (place : ℕ) → IsQuiet course place
    → work_at course (suc place) ≡ work_at course place

-- the times with those of a job that has not ended by now
abbrev pub responses_now : ℕ → Work → Durations
responses_now now work = if work.rests then work.responses
    else with_thing (now - work.release, work.begins) work.responses

abbrev pub latencies_now : ℕ → Work → Durations
latencies_now now work = if work.rests then work.latencies
    else with_thing (unwrap_or work.started now - work.begun, work.begins) work.latencies

-- so the times of all jobs up to a place are known
pub record WorkIsTold : Type 0 where
  pub responses : (course : Course) (place : ℕ)
      → responses_now (course.time place) (work_at course place)
      ≡ durations_of (all_responses course place)
  pub latencies : (course : Course) (place : ℕ)
      → latencies_now (course.time place) (work_at course place)
      ≡ durations_of (all_latencies course place)

-- there are no more of them than places before this one
pub record WorkIsCounted : Type 0 where
  pub responses : (course : Course) (place : ℕ) → (work_at course place).responses.count ≤ place
  pub latencies : (course : Course) (place : ℕ) → (work_at course place).latencies.count ≤ place
  pub periods : (course : Course) (place : ℕ) → (work_at course place).periods.count ≤ place
  pub histogram : (course : Course) (place : ℕ)
      → All (λ count. count ≤ place) (work_at course place).histogram.counts
  pub moves : (course : Course) (place : ℕ) → (work_at course place).moves.count ≤ place
  pub waits : (course : Course) (place : ℕ) → (work_at course place).waits.run_out ≤ place
