-- Which task makes the last calls of a run that is too long.
use Rattle.std.specs.Prelude.{◌≡◌, ℕ, ◌-◌, ◌==◌, nat_lt, List, length, take, drop, slice_get, Option, Some, None, option_and_then, if◌then◌else◌}
use Rattle.std.specs.List.{filter_map, list_all}
use Rattle.bench_types.specs.declared.step.Step.{Step}
use Rattle.bench_types.specs.declared.step.Step.TheVariants as steps
use Rattle.bench_types.specs.Limits.{max_steps}
use Rattle.settled_runs.specs.Settled.{is_finish}
use Rattle.task_programs.specs.declared.workload.Workload.{Workload}
use Rattle.workload_runs.specs.Rule.{IsTooLong}

-- the task that begins a call by the step; a `finish` begins none
abbrev pub caller_of : Step → Option ℕ
caller_of (steps.Call core task call) = if is_finish call then None else Some task
caller_of step = None

-- the tasks that begin the calls, in the order of the calls
abbrev pub callers : List Step → List ℕ
callers steps = filter_map caller_of steps

-- the number that each one of the list is
abbrev pub only_one : List ℕ → Option ℕ
only_one numbers =
    option_and_then (λ first. if list_all (λ number. number == first) numbers then Some first
    else None)
    (slice_get numbers 0)

-- of so many calls
abbrev pub last_calls : ℕ
last_calls = 1000

-- the task that made each of the last thousand calls, if it was one alone
abbrev pub lone_caller : List Step → Option ℕ
lone_caller steps = let calls = callers steps in
    if nat_lt (length calls) last_calls then None
    else only_one (drop (length calls - last_calls) calls)

-- the run of the workload is too long, and that is who makes the last thousand calls of its first
-- steps, as many as a session may have
pub record IsTooLongBy (workload : Workload) (caller : Option ℕ) : Type 0 where
  pub long : IsTooLong workload
  pub lone : caller ≡ lone_caller (take max_steps long.beginning)
