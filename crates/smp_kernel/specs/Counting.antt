-- How a meter grows.
use Rattle.std.specs.Prelude.{◌≡◌, ℕ, zero, suc, ◌+◌, ◌-◌, ◌≤◌, ◌^◌, min}

-- the count after so many kernel steps more, up to the end of 64 bits
abbrev pub meter_after : ℕ → ℕ → ℕ
meter_after zero count = count
meter_after (suc steps) count = min (count + suc steps) (2 ^ 64 - 1)

-- some steps more were counted, at most so many
abbrev pub CountsUpTo : ℕ → ℕ → ℕ → Type 0
CountsUpTo most old new = (steps : ℕ) × (steps ≤ most) × (new ≡ meter_after steps old)
