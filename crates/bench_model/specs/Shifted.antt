-- Kernels that are equal but for their tick counts, and the steps that tell such kernels apart.
use Rattle.std.specs.Prelude.{◌≡◌, ℕ, ◌+◌, ◌-◌, ◌%◌, ◌^◌, List, Bool, true, false, not, ◌&&◌, ◌||◌}
use Rattle.std.specs.List.{list_any}
use Rattle.bench_types.specs.declared.step.Call.{Call as KernelCall}
use Rattle.bench_types.specs.declared.step.Call.TheVariants.{DelayUntil}
use Rattle.bench_types.specs.declared.step.Step.{Step}
use Rattle.bench_types.specs.declared.step.Step.TheVariants.{Call}
use Rattle.bench_model.specs.Lists.{View, view_of}
use Rattle.bench_model.specs.SameTest.{are_same_views, is_same}
use Rattle.bench_model.specs.Table.{Table}

-- what can be seen, under another tick count
abbrev pub at_tick : ℕ → View → View
at_tick tick view = record view { orders = record view.orders { tick = tick } }

-- what can be seen, but for the tick count
abbrev pub untimed : View → View
untimed view = at_tick 0 view

-- equal but for their tick counts
abbrev pub SameShifted : Table → Table → Type 0
SameShifted a b = untimed (view_of a) ≡ untimed (view_of b)

-- the same as a test
unfoldable pub is_same_shifted : Table → Table → Bool
is_same_shifted a b = are_same_views (untimed (view_of a)) (untimed (view_of b))

-- the tick count so many ticks later, which wraps
abbrev pub later_tick : ℕ → ℕ → ℕ
later_tick by tick = (tick + by) % 2 ^ 32

-- what can be seen, with a tick count that is so many ticks later
abbrev pub shifted : ℕ → View → View
shifted by view = at_tick (later_tick by view.orders.tick) view

-- the ticks from one tick count to another
abbrev pub shift_between : ℕ → ℕ → ℕ
shift_between from to = (to + 2 ^ 32 - from) % 2 ^ 32

abbrev pub is_until : KernelCall → Bool
is_until (DelayUntil prev inc) = true
is_until call = false

-- Whether the step is a call that reads the tick count: that of a delay until a tick count
-- (FreeRTOS Reference Manual, xTaskDelayUntil). It is so too where it will be refused.
abbrev pub delays_until : Step → Bool
delays_until (Call core task call) = is_until call
delays_until step = false

-- one of the steps is such a call
abbrev pub some_delays_until : List Step → Bool
some_delays_until steps = list_any delays_until steps

-- Whether the steps, from the one kernel and from the other, go on alike for sure: the kernels are
-- equal, or they are so but for their tick counts and no step reads the tick count.
abbrev pub is_met : Table → Table → List Step → Bool
is_met old new steps =
    is_same old new || (is_same_shifted old new && not (some_delays_until steps))
