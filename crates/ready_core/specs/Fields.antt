-- The fields of cores and ready lists, and what they show.
use Rattle.std.specs.Prelude.{ℕ, zero, suc, ◌^◌, List, [], ◌++◌, length, filter, fold, Bool, ◌&&◌, ◌==◌, nat_lt, not, if◌then◌else◌, slice_index_or}
use Rattle.std.specs.Int.{bit_at}
use Rattle.bench_types.specs.declared.header.Header.{Header}
use Rattle.bench_types.specs.declared.kernel_data.CoreLook.{CoreLook}
use Rattle.bench_types.specs.declared.kernel_data.TaskControl.{TaskControl}
use Rattle.list_orders.specs.Search.{placed, has}
use Rattle.index_lists.specs.Listed.{Listed, ListsView, items_of}
use Rattle.bench_model.specs.Control.{Control, task_at, current}
use Rattle.bench_model.specs.Lists.{outranks}
use Rattle.bench_model.specs.Seek.{effective, is_preemptible_by}
use Rattle.bench_model.specs.Start.{first_lists, unstarted}
use Rattle.bench_model.specs.Cores.{CoresView, cores_of}
use Rattle.bench_model.specs.Tally.{is_current}

abbrev pub control_from : List CoreLook → List TaskControl → Control
control_from cores tasks = record { cores = cores; tasks = tasks }

-- the tasks of a ready list
abbrev pub tasks_of : List (List Listed) → ℕ → List ℕ
tasks_of lists priority = items_of (slice_index_or lists priority [])

-- the tasks of the ready lists of the priorities below this one, those of the greatest first
abbrev pub ready_below : List (List Listed) → ℕ → List ℕ
ready_below lists zero = []
ready_below lists (suc priority) = tasks_of lists priority ++ ready_below lists priority

-- what can be seen of cores, control blocks and ready lists, where list p is that of priority p
abbrev pub seen_of : ℕ → Bool → Control → ListsView → CoresView
seen_of priorities slicing control view =
    record {
      priorities = priorities;
      slicing = slicing;
      control = control;
      ready = ready_below view.lists priorities;
    }

-- the task's priority in use is this one
abbrev pub has_priority : Control → ℕ → ℕ → Bool
has_priority control priority task = (task_at control task).in_use == priority

-- the ready list of the priority
abbrev pub ready_list : ℕ → CoresView → List ℕ
ready_list priority view = filter (has_priority view.control priority) view.ready

-- the task is ready and on no core
abbrev pub wants_core : CoresView → ℕ → Bool
wants_core view task = has task view.ready && not (is_current view.control task)

-- the bit is set
abbrev pub is_set : ℕ → ℕ → Bool
is_set bits place = bit_at bits place == 1

-- the core has the task as current task
abbrev pub has_seat : Control → ℕ → ℕ → Bool
has_seat control task core = nat_lt core (length control.cores) && current control core == task

-- the bit of the core that has the task as current task at the start
abbrev pub first_seat : ℕ → ℕ → ℕ
first_seat cores task = if nat_lt task cores then 2 ^ task else 0

-- the start where no task is ready yet
abbrev pub unlisted : Header → CoresView
unlisted header = record (cores_of (unstarted (first_lists header) header)) { ready = [] }

-- the ready tasks where these came to their ready lists one after another
abbrev pub all_placed : Control → List ℕ → List ℕ → List ℕ
all_placed control tasks ready =
    fold (λ placed_yet task. placed (outranks control) task placed_yet) ready tasks

-- a core that may be asked for the task
abbrev pub may_be_asked : Control → ℕ → (ℕ → Bool) → ℕ → Bool
may_be_asked control task among core = among core && is_preemptible_by control task core

-- a core stays in front of one of a greater number where its task stands lower
abbrev pub stays_asked : Control → ℕ → ℕ → Bool
stays_asked control core greater =
    nat_lt (effective control (current control core)) (effective control (current control greater))
