-- Which texts are names of user tasks.
use Rattle.std.specs.Prelude.{ℕ, List, length, Bool, not, ◌&&◌, nat_eq, nat_le, codes}
use Rattle.std.specs.List.{list_all, starts_with}
use Rattle.bench_types.specs.Limits.{max_name}

-- the number is from low to high
abbrev pub is_within : ℕ → ℕ → ℕ → Bool
is_within low high n = nat_le low n && nat_le n high

-- a printable ASCII character but the space, which parts the fields of the output
abbrev pub is_name_byte : ℕ → Bool
is_name_byte byte = is_within 0x21 0x7E byte

-- 1 to 15 such characters, as `configMAX_TASK_NAME_LEN` 16 allows (FreeRTOS Reference Manual,
-- xTaskCreate); names that begin with IDLE are those of the idle tasks
abbrev pub is_name : List ℕ → Bool
is_name text =
    is_within 1 max_name (length text) && list_all is_name_byte text
    && not (starts_with nat_eq text (codes "IDLE"))
