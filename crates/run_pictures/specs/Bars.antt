-- The bars that are drawn of a run, each with what it stands for, its places and where it stands.
use Rattle.std.specs.Prelude.{ℕ, ◌+◌, ◌-◌, ◌*◌, ◌==◌, List, [], ◌∷◌, ◌++◌, flat_map, length, slice_get, slice_index_or, Bool, not, ◌||◌, Option, Some, None, is_some, if◌then◌else◌}
use Rattle.list_orders.specs.Search.{numbers}
use Rattle.bench_types.specs.declared.kernel_data.Hold.{Hold}
use Rattle.run_pictures.specs.declared.bar.Bar.{Bar}
use Rattle.run_pictures.specs.declared.frame.TheConstants.{CORE_ROW, MUTEX_ROW, QUEUE_ROW, TASK_ROW}
use Rattle.run_pictures.specs.declared.ink.Ink.{Ink}
use Rattle.run_pictures.specs.declared.ink.Ink.TheVariants as ink
use Rattle.run_pictures.specs.declared.pose.Pose.{Pose}
use Rattle.run_pictures.specs.declared.run_looks.Made.{Made}
use Rattle.run_pictures.specs.declared.shown.Due.{Due}
use Rattle.run_pictures.specs.declared.shown.Priorities.{Priorities}
use Rattle.run_pictures.specs.declared.stretch.Stretch.{Stretch}
use Rattle.run_pictures.specs.Ink.{task_ink, tick_ink}
use Rattle.run_pictures.specs.MutexLines.{taken_mutexes}
use Rattle.run_pictures.specs.Picture.{mutexes_down, queues_down, tasks_down}
use Rattle.run_pictures.specs.Poses.{detail_for, detailed_stretches}
use Rattle.run_pictures.specs.Preemption.{preempt_stretches}
use Rattle.run_pictures.specs.QueueLines.{changed_queues}
use Rattle.run_pictures.specs.Shown.{Shown}
use Rattle.run_pictures.specs.TaskBands.{stance_shape, stance_stretch}
use Rattle.run_pictures.specs.TaskStretches.{current_stretches, due_stretches, hold_stretches, holder_stretches, message_stretches, priority_stretches, tick_stretches}

-- ---- of a stretch the bar, or none

abbrev pub bar_over : {X : Type 0} → Ink → ℕ → ℕ → Stretch X → Bar
bar_over ink y height stretch = record {
  ink = ink;
  first = stretch.first;
  last = stretch.last;
  y = y;
  height = height;
}

abbrev pub where_drawn : Bool → Bar → List Bar
where_drawn drawn bar = if drawn then bar ∷ [] else []

abbrev pub tick_shape : ℕ → Stretch ℕ → List Bar
tick_shape y stretch = bar_over (tick_ink stretch.value) y 14 stretch ∷ []

abbrev pub current_shape : ℕ → ℕ → Stretch ℕ → List Bar
current_shape cores y stretch = bar_over (task_ink cores stretch.value) (y + 10) 24 stretch ∷ []

abbrev pub due_shape : ℕ → Stretch Due → List Bar
due_shape y stretch =
    where_drawn (stretch.value.pend || stretch.value.asked) (bar_over ink.Due (y + 10) 4 stretch)

abbrev pub hold_shape : ℕ → Stretch (Option Hold) → List Bar
hold_shape y stretch = where_drawn (is_some stretch.value) (bar_over ink.Held (y + 30) 4 stretch)

abbrev pub pose_shape : ℕ → ℕ → Stretch Pose → List Bar
pose_shape user y stretch = stance_shape user y (stance_stretch stretch) ∷ []

abbrev pub inherited_shape : ℕ → Stretch Priorities → List Bar
inherited_shape y stretch =
    where_drawn (not (stretch.value.in_use == stretch.value.base))
    (bar_over ink.Inherited (y + 20) 3 stretch)

abbrev pub off_shape : ℕ → Stretch Bool → List Bar
off_shape y stretch = where_drawn (not stretch.value) (bar_over ink.Off y 3 stretch)

abbrev pub held_over : ℕ → ℕ → Stretch (Option ℕ) → Option ℕ → List Bar
held_over cores y stretch None = []
held_over cores y stretch (Some task) = bar_over (ink.Taken (task - cores)) y 14 stretch ∷ []

abbrev pub held_shape : ℕ → ℕ → Stretch (Option ℕ) → List Bar
held_shape cores y stretch = held_over cores y stretch stretch.value

abbrev pub messages_shape : ℕ → Stretch ℕ → List Bar
messages_shape y stretch =
    where_drawn (not (stretch.value == 0)) (bar_over (ink.Messages stretch.value) y 14 stretch)

-- of the k-th place from the first on the bar over which its step is told
abbrev pub step_shape : ℕ → ℕ → List Made → ℕ → List Bar
step_shape first y made k = where_drawn (is_some (slice_get made k))
    (record { ink = ink.Clear; first = first + k; last = first + k; y = y; height = 14 })

-- ---- of a row, where the run begins so far below the top

abbrev pub core_top : ℕ → ℕ → ℕ
core_top top core = top + 36 + CORE_ROW * core

abbrev pub task_top : Shown → ℕ → ℕ → ℕ
task_top shown top user = top + tasks_down shown.header + TASK_ROW * user

-- of the k-th mutex that has a row
abbrev pub mutex_top : Shown → ℕ → ℕ → ℕ
mutex_top shown top k = top + mutexes_down shown.header + MUTEX_ROW * k

-- of the k-th queue that has a row
abbrev pub queue_top : Shown → ℕ → ℕ → ℕ
queue_top shown top k =
    top + queues_down shown.header shown.run_looks.looks + QUEUE_ROW * k

abbrev pub tick_bars : Shown → ℕ → List Bar
tick_bars shown top =
    flat_map (tick_shape (top + 16)) (tick_stretches shown.frame.first shown.run_looks.looks)

abbrev pub step_bars : Shown → ℕ → List Bar
step_bars shown top =
    flat_map (step_shape shown.frame.first top shown.run_looks.made)
    (numbers (length shown.run_looks.looks))

abbrev pub current_bars : Shown → ℕ → ℕ → List Bar
current_bars shown top core =
    flat_map (current_shape shown.header.config.cores (core_top top core))
    (current_stretches shown.frame.first shown.run_looks.looks core)

abbrev pub due_bars : Shown → ℕ → ℕ → List Bar
due_bars shown top core =
    flat_map (due_shape (core_top top core))
    (due_stretches shown.frame.first shown.run_looks.looks core)

abbrev pub hold_bars : Shown → ℕ → ℕ → List Bar
hold_bars shown top core =
    flat_map (hold_shape (core_top top core))
    (hold_stretches shown.frame.first shown.run_looks.looks core)

-- of a user task how it stands
abbrev pub pose_bars : Shown → ℕ → ℕ → List Bar
pose_bars shown top user =
    let looks = shown.run_looks.looks in
    flat_map (pose_shape user (task_top shown top user))
    (detailed_stretches (detail_for shown.header shown.frame.first looks) shown.frame.first looks
    (shown.header.config.cores + user))

abbrev pub inherited_bars : Shown → ℕ → ℕ → List Bar
inherited_bars shown top user =
    flat_map (inherited_shape (task_top shown top user))
    (priority_stretches shown.frame.first shown.run_looks.looks (shown.header.config.cores + user))

abbrev pub off_bars : Shown → ℕ → ℕ → List Bar
off_bars shown top user =
    flat_map (off_shape (task_top shown top user))
    (preempt_stretches shown.frame.first shown.run_looks.looks (shown.header.config.cores + user))

abbrev pub taken_bars : Shown → ℕ → ℕ → List Bar
taken_bars shown top k =
    let looks = shown.run_looks.looks in
    flat_map (held_shape shown.header.config.cores (mutex_top shown top k))
    (holder_stretches shown.frame.first looks
    (slice_index_or (taken_mutexes shown.header looks) k 0))

abbrev pub changed_bars : Shown → ℕ → ℕ → List Bar
changed_bars shown top k =
    let looks = shown.run_looks.looks in
    flat_map (messages_shape (queue_top shown top k))
    (message_stretches shown.frame.first looks
    (slice_index_or (changed_queues shown.header looks) k 0))

-- ---- of the run

abbrev pub core_bars : Shown → ℕ → List Bar
core_bars shown top =
    flat_map (λ core. current_bars shown top core ++ due_bars shown top core
    ++ hold_bars shown top core)
    (numbers shown.header.config.cores)

abbrev pub task_bars : Shown → ℕ → List Bar
task_bars shown top =
    flat_map (λ user. pose_bars shown top user ++ inherited_bars shown top user
    ++ off_bars shown top user)
    (numbers (length shown.header.tasks))

abbrev pub mutex_bars : Shown → ℕ → List Bar
mutex_bars shown top =
    flat_map (taken_bars shown top)
    (numbers (length (taken_mutexes shown.header shown.run_looks.looks)))

abbrev pub queue_bars : Shown → ℕ → List Bar
queue_bars shown top =
    flat_map (changed_bars shown top)
    (numbers (length (changed_queues shown.header shown.run_looks.looks)))

abbrev pub all_bars : Shown → ℕ → List Bar
all_bars shown top =
    tick_bars shown top ++ core_bars shown top ++ task_bars shown top ++ mutex_bars shown top
    ++ queue_bars shown top ++ step_bars shown top
