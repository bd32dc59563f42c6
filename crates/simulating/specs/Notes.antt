-- What is told of the run of a workload, or of one that is too long.
use Rattle.std.specs.Prelude.{ℕ, Bool, false, not, ◌&&◌, List, [], ◌∷◌, ◌++◌, codes, decimal, filter, flat_map, slice_get, slice_index_or, Option, Some, None}
use Rattle.std.specs.List.{list_any}
use Rattle.std.specs.Option.{option_map_or}
use Rattle.bench_types.specs.declared.header.Header.{Header}
use Rattle.bench_types.specs.declared.header.TaskArgs.{TaskArgs}
use Rattle.bench_types.specs.Header.{name_of}
use Rattle.bench_types.specs.Limits.{max_steps, max_tasks}
use Rattle.list_orders.specs.Search.{numbers}
use Rattle.task_programs.specs.declared.instruction.Instruction.{Instruction}
use Rattle.task_programs.specs.declared.instruction.Instruction.TheVariants.{Enter}
use Rattle.task_programs.specs.declared.workload.Workload.{Workload}
use Rattle.task_programs.specs.Programs.{leads_out}
use Rattle.simulating.specs.Callers.{last_calls}

-- ---- who is at the end of its program

-- the instruction begins a loop for ever that no `break` leaves; each loop has an end of its own
abbrev pub is_endless_loop : List Instruction → Instruction → Bool
is_endless_loop program (Enter None end) = not (list_any (leads_out end) program)
is_endless_loop program other = false

-- a task that comes to such a loop does not come to the end of its program
abbrev pub never_ends : List Instruction → Bool
never_ends program = list_any (is_endless_loop program) program

-- the user task is at the end of its program
abbrev pub has_ended : List Bool → ℕ → Bool
has_ended at_end user = slice_index_or at_end user false

-- the user task is not, and its program has an end
abbrev pub is_under_way : Workload → List Bool → ℕ → Bool
is_under_way workload at_end user =
    option_map_or (λ program. not (has_ended at_end user) && not (never_ends program))
    (slice_get workload.programs user) false

-- the user tasks that are at the end of their programs
unfoldable pub ended : List Bool → List ℕ
ended at_end = filter (has_ended at_end) (numbers max_tasks)

-- those that are not, of those whose programs have an end
unfoldable pub under_way : Workload → List Bool → List ℕ
under_way workload at_end = filter (is_under_way workload at_end) (numbers max_tasks)

-- ---- their names

abbrev pub user_name : Header → ℕ → List ℕ
user_name header user =
    option_map_or (λ (task : TaskArgs). task.name) (slice_get header.tasks user) []

-- a name behind another
abbrev pub next_name : Header → ℕ → List ℕ
next_name header user = codes ", " ++ user_name header user

-- the names of user tasks, with a comma between two
abbrev pub names_text : Header → List ℕ → List ℕ
names_text header [] = []
names_text header (user ∷ users) = user_name header user ++ flat_map (next_name header) users

-- a line that names user tasks; nothing where there is none to name
abbrev pub line_text : Header → List ℕ → List ℕ → List ℕ
line_text header heading [] = []
line_text header heading (user ∷ users) =
    heading ++ names_text header (user ∷ users) ++ codes "\n"

-- who is at the end of its program, and who is not
unfoldable pub ends_text : Workload → List Bool → List ℕ
ends_text workload at_end =
    line_text workload.header (codes "at the end of its program: ") (ended at_end)
    ++ line_text workload.header (codes "not at the end of its program: ")
    (under_way workload at_end)

-- ---- a run that is too long

-- who makes its last calls
abbrev pub lone_text : Header → Option ℕ → List ℕ
lone_text header None = []
lone_text header (Some task) =
    codes "; " ++ name_of header task ++ codes " made each of its last " ++ decimal last_calls
    ++ codes " calls"

unfoldable pub too_long_text : Header → Option ℕ → List ℕ
too_long_text header caller =
    codes "the run of the workload has more than " ++ decimal max_steps ++ codes " steps"
    ++ lone_text header caller
