-- Core affinity masks.
use Rattle.std.specs.Prelude.{ℕ, ◌%◌, ◌^◌}

-- the bits of a core affinity mask that mean one of so many cores
abbrev pub cores_of_mask : ℕ → ℕ → ℕ
cores_of_mask cores mask = mask % 2 ^ cores
