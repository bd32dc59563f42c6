-- How large a session may be. Each limit stands here once.
use Rattle.std.specs.Prelude.{ℕ}

-- the cores (FreeRTOS SMP documentation, configNUMBER_OF_CORES)
abbrev pub min_cores : ℕ
min_cores = 2

abbrev pub max_cores : ℕ
max_cores = 32

-- the priorities (FreeRTOS Reference Manual, configMAX_PRIORITIES)
abbrev pub max_priorities : ℕ
max_priorities = 32

-- the user tasks
abbrev pub max_tasks : ℕ
max_tasks = 512

abbrev pub max_mutexes : ℕ
max_mutexes = 32

-- the queues and semaphores
abbrev pub max_queues : ℕ
max_queues = 32

-- the messages that a queue holds (FreeRTOS Reference Manual, UBaseType_t)
abbrev pub max_messages : ℕ
max_messages = 4294967295

-- the notifications of a task (FreeRTOS Reference Manual, configTASK_NOTIFICATION_ARRAY_ENTRIES)
abbrev pub max_notes : ℕ
max_notes = 8

-- the units of time that a tick has
abbrev pub max_units : ℕ
max_units = 1000000

-- the steps of a session
abbrev pub max_steps : ℕ
max_steps = 1000000

-- the bytes of a task's name: `configMAX_TASK_NAME_LEN` is 16, and counts the closing zero byte
-- (FreeRTOS Reference Manual, xTaskCreate)
abbrev pub max_name : ℕ
max_name = 15

-- how many times over a core may hold the kernel
abbrev pub max_depth : ℕ
max_depth = 255

-- how many times over a core may take a word of a lock pair
abbrev pub max_takes : ℕ
max_takes = 255

-- the steps from one checkpoint to the next
abbrev pub max_span : ℕ
max_span = 1000

-- the bytes that a program reads
abbrev pub max_input : ℕ
max_input = 268435456
