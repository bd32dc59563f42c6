-- The stretches of the bands.
use Rattle.std.specs.Prelude.{ℕ, List, map, slice_index_or, nat_eq, false, ◌==◌, Option, Some, None, if◌then◌else◌}
use Rattle.bench_types.specs.declared.kernel_data.CoreLook.{CoreLook}
use Rattle.bench_types.specs.declared.kernel_data.Hold.{Hold}
use Rattle.bench_model.specs.SameTest.{are_same_holds, are_same_options}
use Rattle.run_views.specs.declared.look.Look.{Look}
use Rattle.run_pictures.specs.declared.shown.Due.{Due}
use Rattle.run_pictures.specs.declared.stretch.Stretch.{Stretch}
use Rattle.run_pictures.specs.declared.shown.Priorities.{Priorities}
use Rattle.run_pictures.specs.declared.stance.Stance.{Stance}
use Rattle.run_views.specs.Changes.{are_same_numbers}
use Rattle.run_pictures.specs.Same.{are_same_dues, are_same_priorities, are_same_stances}
use Rattle.run_pictures.specs.Stances.{stance_in, status_in}
use Rattle.run_pictures.specs.StretchesOf.{stretches_of}

-- what a look shows of a core
abbrev pub core_in : ℕ → Look → CoreLook
core_in core look =
    slice_index_or look.cores core (record { current = 0; pend = false; asked = false })

abbrev pub current_in : ℕ → Look → ℕ
current_in core look = (core_in core look).current

-- by whom the core was asked to switch
abbrev pub due_in : ℕ → Look → Due
due_in core look = record { pend = (core_in core look).pend; asked = (core_in core look).asked }

-- the hold, where it is this core's
abbrev pub own_hold : ℕ → Option Hold → Option Hold
own_hold core None = None
own_hold core (Some hold) = if hold.core == core then Some hold else None

abbrev pub hold_in : ℕ → Look → Option Hold
hold_in core look = own_hold core look.hold

-- the stretches of a core, where the first look is that of the place
unfoldable pub current_stretches : ℕ → List Look → ℕ → List (Stretch ℕ)
current_stretches first looks core = stretches_of nat_eq first (map (current_in core) looks)

unfoldable pub due_stretches : ℕ → List Look → ℕ → List (Stretch Due)
due_stretches first looks core = stretches_of are_same_dues first (map (due_in core) looks)

unfoldable pub hold_stretches : ℕ → List Look → ℕ → List (Stretch (Option Hold))
hold_stretches first looks core =
    stretches_of (are_same_options are_same_holds) first (map (hold_in core) looks)

abbrev pub tick_in : Look → ℕ
tick_in look = look.tick

-- the stretches of one tick count
unfoldable pub tick_stretches : ℕ → List Look → List (Stretch ℕ)
tick_stretches first looks = stretches_of nat_eq first (map tick_in looks)

-- the stretches of how the task stands
unfoldable pub stance_stretches : ℕ → List Look → ℕ → List (Stretch Stance)
stance_stretches first looks task = stretches_of are_same_stances first (map (stance_in task) looks)

abbrev pub priorities_in : ℕ → Look → Priorities
priorities_in task look =
    record { in_use = (status_in task look).in_use; base = (status_in task look).base }

unfoldable pub priority_stretches : ℕ → List Look → ℕ → List (Stretch Priorities)
priority_stretches first looks task =
    stretches_of are_same_priorities first (map (priorities_in task) looks)

-- the task that holds the mutex
abbrev pub holder_in : ℕ → Look → Option ℕ
holder_in mutex look = slice_index_or look.holders mutex None

unfoldable pub holder_stretches : ℕ → List Look → ℕ → List (Stretch (Option ℕ))
holder_stretches first looks mutex =
    stretches_of are_same_numbers first (map (holder_in mutex) looks)

-- how many messages the queue has
abbrev pub messages_in : ℕ → Look → ℕ
messages_in queue look = slice_index_or look.messages queue 0

unfoldable pub message_stretches : ℕ → List Look → ℕ → List (Stretch ℕ)
message_stretches first looks queue = stretches_of nat_eq first (map (messages_in queue) looks)
