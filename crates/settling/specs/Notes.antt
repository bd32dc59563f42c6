-- What is told of the calls of a session that its settled run left.
use Rattle.std.specs.Prelude.{ℕ, ◌+◌, List, [], ◌++◌, flat_map, codes, count_by, decimal, Bool, ◌==◌, nat_le, if◌then◌else◌}
use Rattle.std.specs.List.{list_all}
use Rattle.list_orders.specs.Search.{numbers}
use Rattle.bench_types.specs.declared.header.Header.{Header}
use Rattle.bench_types.specs.Header.{name_of}
use Rattle.bench_types.specs.Limits.{max_cores, max_tasks}
use Rattle.settled_runs.specs.declared.waiting_call.WaitingCall.{WaitingCall}

-- how many of the calls are the task's
abbrev pub count_of : List WaitingCall → ℕ → ℕ
count_of left task = count_by (λ waits. waits.task == task) left

-- no call is that of a task with a smaller number
abbrev pub is_first : List WaitingCall → ℕ → Bool
is_first left task = list_all (λ waits. nat_le task waits.task) left

-- the name of a task and how many of its calls were left, behind a comma where another task comes
-- first
abbrev pub entry_of : Header → List WaitingCall → ℕ → List ℕ
entry_of header left task =
    (if is_first left task then [] else codes ", ") ++ name_of header task ++ codes " "
    ++ decimal (count_of left task)

-- nothing for a task of whose calls none was left
abbrev pub entry_if_left : Header → List WaitingCall → ℕ → List ℕ
entry_if_left header left task =
    if count_of left task == 0 then [] else entry_of header left task

-- the tasks of which calls were left, in the order of their numbers
unfoldable pub left_text : Header → List WaitingCall → List ℕ
left_text header left = flat_map (entry_if_left header left) (numbers (max_cores + max_tasks))
