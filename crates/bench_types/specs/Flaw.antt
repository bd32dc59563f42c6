-- For what a header is not accepted: the first of these things, the numbers of its settings, its
-- queues, the units of a tick, how many user tasks there are, then their names, priorities and
-- masks, and names that come twice.
-- The limits are those of `configNUMBER_OF_CORES`, `configMAX_PRIORITIES` and the arguments of
-- `xTaskCreateAffinitySet` (FreeRTOS SMP documentation).
use Rattle.std.specs.Prelude.{ℕ, ◌==◌, List, length, count_by, position, bytes_eq, not, nat_lt, nat_le, Option, Some, None, option_map, if◌then◌else◌}
use Rattle.std.specs.Option.{option_or}
use Rattle.bench_types.specs.declared.flaw.HeaderFlaw.{HeaderFlaw}
use Rattle.bench_types.specs.declared.flaw.HeaderFlaw.TheVariants.{Cores, Priorities, Mutexes, Notes, Queues, QueueLength, QueueMessages, Units, TaskCount, NoName, Priority, Mask, SharedName}
use Rattle.bench_types.specs.declared.header.Config.{Config}
use Rattle.bench_types.specs.declared.header.Header.{Header}
use Rattle.bench_types.specs.declared.header.QueueArgs.{QueueArgs}
use Rattle.bench_types.specs.declared.header.TaskArgs.{TaskArgs}
use Rattle.bench_types.specs.Limits.{min_cores, max_cores, max_priorities, max_tasks, max_messages, max_mutexes, max_notes, max_queues, max_units}
use Rattle.bench_types.specs.Mask.{cores_of_mask}
use Rattle.bench_types.specs.Name.{is_name, is_within}

-- none where the number is from low to high
abbrev pub limits_flaw : ℕ → ℕ → ℕ → HeaderFlaw → Option HeaderFlaw
limits_flaw low high n flaw = if is_within low high n then None else Some flaw

abbrev pub config_flaw : Config → Option HeaderFlaw
config_flaw config =
    option_or
    (option_or
    (option_or (limits_flaw min_cores max_cores config.cores (Cores config.cores))
    (limits_flaw 1 max_priorities config.priorities (Priorities config.priorities)))
    (limits_flaw 0 max_mutexes config.mutexes (Mutexes config.mutexes)))
    (limits_flaw 1 max_notes config.notes (Notes config.notes))

-- the place of the first queue of length 0 (FreeRTOS Reference Manual, xQueueCreate)
abbrev pub location_of_length : List QueueArgs → Option ℕ
location_of_length queues = position (λ queue. not (is_within 1 max_messages queue.length)) queues

-- of the first queue with more messages than its length (FreeRTOS Reference Manual,
-- xSemaphoreCreateCounting)
abbrev pub location_of_messages : List QueueArgs → Option ℕ
location_of_messages queues = position (λ queue. nat_lt queue.length queue.messages) queues

abbrev pub length_flaw : List QueueArgs → Option HeaderFlaw
length_flaw queues = option_map QueueLength (location_of_length queues)

abbrev pub messages_flaw : List QueueArgs → Option HeaderFlaw
messages_flaw queues = option_map QueueMessages (location_of_messages queues)

-- the first flaw of queues: how many there are, then their lengths, then their messages
abbrev pub queue_list_flaw : List QueueArgs → Option HeaderFlaw
queue_list_flaw queues =
    option_or
    (option_or (limits_flaw 0 max_queues (length queues) (Queues (length queues)))
    (length_flaw queues)) (messages_flaw queues)

-- of the queues of a session that says which there are
abbrev pub queues_flaw : Option (List QueueArgs) → Option HeaderFlaw
queues_flaw None = None
queues_flaw (Some queues) = queue_list_flaw queues

-- in a session that says nothing of queues a tick has one unit of time
abbrev pub most_units : Option (List QueueArgs) → ℕ
most_units None = 1
most_units (Some queues) = max_units

abbrev pub units_flaw : ℕ → Option (List QueueArgs) → Option HeaderFlaw
units_flaw units queues = limits_flaw 1 (most_units queues) units (Units units)

-- the first flaw of the settings, of the queues, of the units and of the number of user tasks
abbrev pub numbers_flaw : Config → Option (List QueueArgs) → ℕ → Option HeaderFlaw
numbers_flaw config queues count =
    option_or
    (option_or (option_or (config_flaw config) (queues_flaw queues))
    (units_flaw config.units queues))
    (limits_flaw 1 max_tasks count (TaskCount count))

-- the place of the first task whose name is none
abbrev pub location_of_no_name : List TaskArgs → Option ℕ
location_of_no_name tasks = position (λ task. not (is_name task.name)) tasks

-- of the first task with a priority that is not below their number
abbrev pub location_of_priority : ℕ → List TaskArgs → Option ℕ
location_of_priority priorities tasks = position (λ task. nat_le priorities task.priority) tasks

-- of the first task that may run on none of so many cores
abbrev pub location_of_mask : ℕ → List TaskArgs → Option ℕ
location_of_mask cores tasks = position (λ task. cores_of_mask cores task.mask == 0) tasks

-- how many tasks have the name
abbrev pub count_of_name : List TaskArgs → List ℕ → ℕ
count_of_name tasks name = count_by (λ task. bytes_eq name task.name) tasks

-- the place of the first task whose name more tasks have
abbrev pub location_of_shared_name : List TaskArgs → Option ℕ
location_of_shared_name tasks = position (λ task. nat_lt 1 (count_of_name tasks task.name)) tasks

abbrev pub name_flaw : List TaskArgs → Option HeaderFlaw
name_flaw tasks = option_map NoName (location_of_no_name tasks)

abbrev pub priority_flaw : ℕ → List TaskArgs → Option HeaderFlaw
priority_flaw priorities tasks =
    option_map (λ task. Priority task priorities) (location_of_priority priorities tasks)

abbrev pub mask_flaw : ℕ → List TaskArgs → Option HeaderFlaw
mask_flaw cores tasks = option_map (λ task. Mask task cores) (location_of_mask cores tasks)

abbrev pub shared_flaw : List TaskArgs → Option HeaderFlaw
shared_flaw tasks = option_map SharedName (location_of_shared_name tasks)

-- the first flaw of tasks whose number is within its limits
abbrev pub args_flaw : Config → List TaskArgs → Option HeaderFlaw
args_flaw config tasks =
    option_or
    (option_or (option_or (name_flaw tasks) (priority_flaw config.priorities tasks))
    (mask_flaw config.cores tasks)) (shared_flaw tasks)

-- the first flaw of a header
unfoldable pub header_flaw : Header → Option HeaderFlaw
header_flaw header =
    option_or (numbers_flaw header.config header.queues (length header.tasks))
    (args_flaw header.config header.tasks)
