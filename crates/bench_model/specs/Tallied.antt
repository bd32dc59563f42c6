-- The tallies of tasks, step by step and part by part.
use Rattle.std.specs.Prelude.{ℕ, ◌+◌, ◌<◌, max, List, [], ◌∷◌, length, map, replicate, All, Bool, if◌then◌else◌, slice_index_or}
use Rattle.bench_types.specs.declared.kernel_data.Settings.{Settings}
use Rattle.bench_types.specs.declared.step.Step.{Step}
use Rattle.bench_types.specs.declared.tally.Tally.{Tally}
use Rattle.list_orders.specs.Search.{numbers}
use Rattle.bench_model.specs.Control.{Control, task_at}
use Rattle.bench_model.specs.State.{QueueOps}
use Rattle.bench_model.specs.Table.{Stamps, Table, stamp_queues}
use Rattle.bench_model.specs.Session.{step_of}
use Rattle.bench_model.specs.Tally.{TaskTally, Moment, is_found_on, is_found_wanting, is_inverted, is_switched_in, is_displaced, is_timeout}

abbrev pub no_counts : ℕ → Tally
no_counts top =
    record { wait = 0; inverted = 0; switched = 0; displaced = 0; timeouts = 0; top = top }

-- the tally of the task; a task that is none has no numbers
abbrev pub tally_at : List TaskTally → ℕ → TaskTally
tally_at tallies task = slice_index_or tallies task (record { run = []; counts = no_counts 0 })

-- the ticks that found the task on the core
abbrev pub run_at : TaskTally → ℕ → ℕ
run_at tally core = slice_index_or tally.run core 0

-- before any step: zeros, and the priority in use
abbrev pub first_tally : Settings → Control → ℕ → TaskTally
first_tally settings control task =
    record { run = replicate settings.cores 0; counts = no_counts (task_at control task).in_use }

abbrev pub first_tallies : Settings → Control → List TaskTally
first_tallies settings control = map (first_tally settings control) (numbers settings.tasks)

-- one where the test is passed
abbrev pub one_if : Bool → ℕ
one_if passed = if passed then 1 else 0

module _ {Orders : Type 0} (ops : QueueOps Orders) (moment : Moment Orders) where
  -- the tally of the task with one step more
  unfoldable pub tally_after : ℕ → TaskTally → TaskTally
  tally_after task tally = record {
    run = map (λ core. run_at tally core + one_if (is_found_on core task moment))
        (numbers (length tally.run));
    counts = record {
      wait = tally.counts.wait + one_if (is_found_wanting ops task moment);
      inverted = tally.counts.inverted + one_if (is_inverted ops task moment);
      switched = tally.counts.switched + one_if (is_switched_in task moment);
      displaced = tally.counts.displaced + one_if (is_displaced task moment);
      timeouts = tally.counts.timeouts + one_if (is_timeout task moment);
      top = max tally.counts.top (task_at moment.after.control task).in_use;
    };
  }

  -- those of all tasks
  unfoldable pub tallied : List TaskTally → List TaskTally
  tallied tallies =
      map (λ task. tally_after task (tally_at tallies task)) (numbers (length tallies))

-- the step from a table
abbrev pub moment_of : Table → Step → Moment Stamps
moment_of table step =
    let made_step = step_of step table in
    record { before = table; step = step; reply = made_step.0; after = made_step.1 }

-- the tallies with the steps from a table on, one after another
abbrev pub tallied_after : Table → List Step → List TaskTally → List TaskTally
tallied_after table [] tallies = tallies
tallied_after table (step ∷ steps) tallies =
    tallied_after (step_of step table).1 steps (tallied stamp_queues (moment_of table step) tallies)

-- the tallies of the steps from a table on, which are those of a part of a session
abbrev pub part_tallies : Settings → Table → List Step → List TaskTally
part_tallies settings table steps = tallied_after table steps (first_tallies settings table.control)

-- the numbers of two parts together, of which the first ends where the second begins
unfoldable pub added_tally : TaskTally → TaskTally → TaskTally
added_tally a b = record {
  run = map (λ core. run_at a core + run_at b core) (numbers (length a.run));
  counts = record {
    wait = a.counts.wait + b.counts.wait;
    inverted = a.counts.inverted + b.counts.inverted;
    switched = a.counts.switched + b.counts.switched;
    displaced = a.counts.displaced + b.counts.displaced;
    timeouts = a.counts.timeouts + b.counts.timeouts;
    top = max a.counts.top b.counts.top;
  };
}

unfoldable pub added : List TaskTally → List TaskTally → List TaskTally
added a b = map (λ task. added_tally (tally_at a task) (tally_at b task)) (numbers (length a))

-- for each task how many cores its tally has a number for
abbrev pub shape : List TaskTally → List ℕ
shape tallies = map (λ tally. length tally.run) tallies

abbrev pub shape_of : Settings → List ℕ
shape_of settings = replicate settings.tasks settings.cores

-- each count is below the bound
pub record CountsBelow (bound : ℕ) (tally : TaskTally) : Type 0 where
  pub run : All (λ n. n < bound) tally.run
  pub wait : tally.counts.wait < bound
  pub inverted : tally.counts.inverted < bound
  pub switched : tally.counts.switched < bound
  pub displaced : tally.counts.displaced < bound
  pub timeouts : tally.counts.timeouts < bound

abbrev pub AllCountsBelow : ℕ → List TaskTally → Type 0
AllCountsBelow bound tallies = All (CountsBelow bound) tallies
