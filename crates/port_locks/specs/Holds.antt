-- Whose hold is open after a history.
use Rattle.std.specs.Prelude.{ℕ, List, Option, None, if◌then◌else◌, option_map}
use Rattle.bench_types.specs.declared.header.Header.{Header}
use Rattle.bench_types.specs.declared.kernel_data.Hold.{Hold}
use Rattle.bench_model.specs.Holds.{is_held_by}
use Rattle.bench_types.specs.declared.entry.Entry.{Entry}
use Rattle.bench_model.specs.History.{end_of}

abbrev pub hold_after : Header → List Entry → Option Hold
hold_after header es = (end_of header es).hold

-- the core whose hold is open
abbrev pub holder_after : Header → List Entry → Option ℕ
holder_after header es = option_map (λ hold. hold.core) (hold_after header es)

-- the core's hold, where it is open
abbrev pub own_hold : ℕ → Option Hold → Option Hold
own_hold core hold = if is_held_by core hold then hold else None
