-- How much quiet work there is to do, so that it can be seen to end.
use Rattle.std.specs.Prelude.{◌≡◌, ◌⊎◌, ℕ, suc, ◌<◌, List, length, sum, map, is_some, if◌then◌else◌}
use Rattle.bench_model.specs.Control.{Control, current, is_due}
use Rattle.bench_model.specs.Seek.{effective}
use Rattle.bench_model.specs.State.{call_at}
use Rattle.bench_model.specs.Table.{Table, is_ready}
use Rattle.list_orders.specs.Search.{numbers}
use Rattle.settled_runs.specs.declared.waiting_call.WaitingCall.{WaitingCall}

-- the calls that wait, the weight of the unfinished calls, and that of the due cores
pub record Work : Type 0 where
  pub waiting : ℕ
  pub unfinished : ℕ
  pub due : ℕ

-- an unfinished call weighs one, and one more where its task is ready to finish it: so a `finish`
-- that lets a message go, and by that wakes another task that waits at the queue, leaves less
abbrev pub call_weight : Table → ℕ → ℕ
call_weight table task =
    if is_some (call_at table.calls task) then (if is_ready task table.orders then 2 else 1) else 0

-- a due core weighs one more than the priority of its task, where an idle task stands below all
abbrev pub weight_at : Control → ℕ → ℕ
weight_at control core =
    if is_due control core then suc (effective control (current control core)) else 0

unfoldable pub work_of : Table → List WaitingCall → Work
work_of table waiting = record {
  waiting = length waiting;
  unfinished = sum (map (call_weight table) (numbers table.settings.tasks));
  due = sum (map (weight_at table.control) (numbers table.settings.cores));
}

-- fewer wait, or as many and the unfinished calls weigh less, or as much and the due cores weigh
-- less
abbrev pub IsLess : Work → Work → Type 0
IsLess a b =
    (a.waiting < b.waiting)
    ⊎ ((a.waiting ≡ b.waiting)
    × ((a.unfinished < b.unfinished) ⊎ ((a.unfinished ≡ b.unfinished) × (a.due < b.due))))
