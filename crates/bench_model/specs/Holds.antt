-- Holding the kernel: while a core has a hold open, no other core makes a call and no core switches
-- (FreeRTOS Reference Manual, taskENTER_CRITICAL and taskEXIT_CRITICAL).
use Rattle.std.specs.Prelude.{ℕ, ◌+◌, ◌-◌, Bool, false, not, ◌==◌, Option, Some, None, if◌then◌else◌}
use Rattle.std.specs.Option.{option_map_or}
use Rattle.bench_types.specs.declared.kernel_data.Hold.{Hold}
use Rattle.bench_model.specs.State.{State}

-- the core has a hold open
abbrev pub is_held_by : ℕ → Option Hold → Bool
is_held_by core hold = option_map_or (λ hold. hold.core == core) hold false

-- another core has
abbrev pub is_held_elsewhere : ℕ → Option Hold → Bool
is_held_elsewhere core hold = option_map_or (λ hold. not (hold.core == core)) hold false

-- how many times over the kernel is held
abbrev pub depth_of : Option Hold → ℕ
depth_of hold = option_map_or (λ hold. hold.depth) hold 0

-- how many times over the core holds it
abbrev pub depth_by : ℕ → Option Hold → ℕ
depth_by core hold = if is_held_by core hold then depth_of hold else 0

module _ {Orders : Type 0} where
  -- The core holds the kernel once more (V11 tasks.c, vTaskEnterCritical).
  unfoldable pub hold_opened : ℕ → State Orders → State Orders
  hold_opened core state =
      record state { hold = Some (record { core = core; depth = depth_of state.hold + 1 }) }

  -- The core holds the kernel once less, and frees it with the last time (V11 tasks.c,
  -- vTaskExitCritical).
  unfoldable pub hold_closed : ℕ → State Orders → State Orders
  hold_closed core state = let left = depth_of state.hold - 1 in
      record state
      { hold = if left == 0 then None else Some (record { core = core; depth = left }) }
