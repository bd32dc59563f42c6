-- Histories on whose way each table is sound.
use Rattle.std.specs.Prelude.{List}
use Rattle.bench_types.specs.declared.entry.Entry.{Entry}
use Rattle.bench_types.specs.declared.header.Header.{Header}
use Rattle.bench_model.specs.History.{end_of, StartsWith}
use Rattle.bench_model.specs.Sound.{IsSound}

-- the table is sound after each beginning of the history
abbrev pub IsSoundHistory : Header → List Entry → Type 0
IsSoundHistory header entries =
    (first : List Entry) → StartsWith entries first → IsSound (end_of header first)
