-- What a step is to the work of tasks.
use Rattle.std.specs.Prelude.{ℕ, ◌&&◌, List, is_some}
use Rattle.bench_types.specs.declared.reply.Reply.{Reply}
use Rattle.bench_types.specs.declared.step.Step.{Step}
use Rattle.bench_model.specs.Lists.{View, list_queues}
use Rattle.bench_model.specs.State.{call_at}
use Rattle.bench_model.specs.Tally.{is_finish_of, is_tick, says_run_out}
use Rattle.task_jobs.specs.declared.waits.Wake.{Wake}
use Rattle.task_jobs.specs.declared.work.First.{First}
use Rattle.task_jobs.specs.declared.work.Turn.{Turn}
use Rattle.task_jobs.specs.declared.work.Work.{Work}
use Rattle.task_jobs.specs.Works.{first_work}
use Rattle.run_numbers.specs.declared.counter.Made.{Made}
use Rattle.run_numbers.specs.Work.{asks, core_of, released, rests, retakes, takes}

-- what a step is to the waits of a task, by its reply and the state after it
abbrev pub wake_by : Step → Reply → View → ℕ → Wake
wake_by step reply view task = record {
  ready = list_queues.is_ready task view.orders;
  tick = is_tick step;
  in_vain = is_finish_of task step && says_run_out reply;
}

-- what a step is to a task, by its reply, the place and the state after it, the times before it and
-- after it, and those after ticks
abbrev pub turn_by : Step → Reply → ℕ → ℕ → ℕ → List ℕ → View → ℕ → Turn
turn_by step reply place before after ticks view task = record {
  rests = rests list_queues task view;
  asks = asks task step reply;
  retakes = retakes task step reply;
  core = core_of task view;
  wake = wake_by step reply view task;
  in_call = is_some (call_at view.calls task);
  takes = takes task view;
  place = place;
  before = before;
  after = after;
  release = released list_queues task step view ticks after;
}

abbrev pub turn_in : Made → ℕ → Turn
turn_in made =
    turn_by made.step.now made.reply made.place made.began made.elapsed made.ticks.now
    made.after.now

-- what is known of the task before any step
abbrev pub first_in : View → ℕ → First
first_in view task = record {
  rests = rests list_queues task view;
  core = core_of task view;
  ready = list_queues.is_ready task view.orders;
  in_call = is_some (call_at view.calls task);
  takes = takes task view;
}

abbrev pub work_before : View → ℕ → Work
work_before view task = first_work (first_in view task)
