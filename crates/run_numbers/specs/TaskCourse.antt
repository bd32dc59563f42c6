-- What is known of a task at each place of a run.
use Rattle.std.specs.Prelude.{ℕ, zero, suc, Bool, false, List, length, map, count_by, filter, Option, is_some, slice_get}
use Rattle.std.specs.List.{sum_by}
use Rattle.std.specs.Option.{option_map_or}
use Rattle.list_orders.specs.Search.{numbers}
use Rattle.bench_types.specs.declared.header.Header.{Header}
use Rattle.bench_types.specs.declared.step.Step.{Step}
use Rattle.bench_types.specs.Step.{settings_of}
use Rattle.bench_model.specs.Session.{state_at}
use Rattle.bench_model.specs.State.{call_at}
use Rattle.bench_model.specs.Table.{Stamps, stamp_queues}
use Rattle.bench_model.specs.Tally.{Moment, is_tick, is_timeout, moment_at}
use Rattle.task_jobs.specs.Course.{Course}
use Rattle.task_jobs.specs.Crowds.{Waiters}
use Rattle.run_numbers.specs.AfterStep.{is_it}
use Rattle.run_numbers.specs.Moments.{passes_at}
use Rattle.run_numbers.specs.Stretches.{time_of_step}
use Rattle.run_numbers.specs.Work.{asks, core_of, released, rests, retakes, takes}

module _ (header : Header) (steps : List Step) where
  -- the time before the place
  abbrev pub time_before : ℕ → ℕ
  time_before place = sum_by (time_of_step header steps) (numbers place)

  -- the step at the place is a tick
  abbrev pub ticks_at : ℕ → Bool
  ticks_at place = option_map_or is_tick (slice_get steps place) false

  -- the times after the ticks before the place
  abbrev pub tick_times : ℕ → List ℕ
  tick_times place =
      map (λ tick. time_before (suc tick)) (filter ticks_at (numbers place))

  -- the mutex that the task takes by a call that has not returned at the place
  abbrev pub takes_at : ℕ → ℕ → Option ℕ
  takes_at place task = takes task (state_at header steps place)

  -- the tasks that take the mutex so
  abbrev pub waiters_of : ℕ → Waiters
  waiters_of mutex = record {
    count = λ place. count_by (λ task. is_it (takes_at place task) mutex)
        (numbers (settings_of header).tasks);
    time = time_before;
  }

  module _ (task : ℕ) where
    abbrev pub release_by : ℕ → Moment Stamps → ℕ
    release_by place moment =
        released stamp_queues task moment.step moment.after (tick_times place)
        (time_before place)

    -- when a job that begins at the place was asked for: by the step before it
    abbrev pub release_at : ℕ → ℕ
    release_at zero = 0
    release_at (suc place) =
        option_map_or (release_by (suc place)) (moment_at header steps place) 0

    abbrev pub course_of : Course
    course_of = record {
      rests = λ place. rests stamp_queues task (state_at header steps place);
      asks = passes_at header steps (λ moment. asks task moment.step moment.reply);
      retakes = passes_at header steps (λ moment. retakes task moment.step moment.reply);
      core = λ place. core_of task (state_at header steps place);
      ready = λ place. stamp_queues.is_ready task (state_at header steps place).orders;
      ticks = ticks_at;
      in_vain = passes_at header steps (is_timeout task);
      in_call = λ place. is_some (call_at (state_at header steps place).calls task);
      takes = λ place. takes_at place task;
      time = time_before;
      release = release_at;
    }
