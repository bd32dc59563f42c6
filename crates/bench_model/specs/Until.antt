-- Waking again and again, so many ticks apart (FreeRTOS Reference Manual, xTaskDelayUntil).
use Rattle.std.specs.Prelude.{ℕ, ◌+◌, ◌-◌, ◌%◌, ◌^◌, Bool, ◌&&◌, ◌||◌, nat_lt, if◌then◌else◌}

-- the tick count so many ticks after the last wake
abbrev pub next_wake : ℕ → ℕ → ℕ
next_wake prev inc = (prev + inc) % 2 ^ 32

-- Whether the wake lies ahead of now: where the tick count has wrapped since the last wake, the
-- wake has to have wrapped too (V11 tasks.c, xTaskDelayUntil).
unfoldable pub is_ahead : ℕ → ℕ → ℕ → Bool
is_ahead now prev wake =
    if nat_lt now prev then nat_lt wake prev && nat_lt now wake
    else nat_lt wake prev || nat_lt now wake

-- the ticks from now to the wake
abbrev pub ticks_to : ℕ → ℕ → ℕ
ticks_to now wake = (wake + 2 ^ 32 - now) % 2 ^ 32
