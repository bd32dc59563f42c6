-- Tables that are moved in time.
use Rattle.std.specs.Prelude.{ℕ, ◌+◌, map, option_map}
use Rattle.bench_model.specs.declared.row.TaskRow.{TaskRow}
use Rattle.bench_model.specs.declared.row.TaskState.{TaskState}
use Rattle.bench_model.specs.declared.row.TaskState.TheVariants.{Ready, Blocked}
use Rattle.bench_model.specs.Table.{Stamps, Table}

-- a wake so many ticks later
abbrev pub later_standing : ℕ → TaskState → TaskState
later_standing by Ready = Ready
later_standing by (Blocked wake) = Blocked (option_map (λ wake. wake + by) wake)

abbrev pub later_row : ℕ → TaskRow → TaskRow
later_row by row = record row { standing = later_standing by row.standing }

-- the tick count, each wake and each deadline so many ticks later
abbrev pub later_stamps : ℕ → Stamps → Stamps
later_stamps by stamps = record stamps {
  rows = map (later_row by) stamps.rows;
  deadlines = map (option_map (λ deadline. deadline + by)) stamps.deadlines;
  tick = stamps.tick + by;
}

-- the table so many ticks later, with as many ticks left to each wake and deadline
unfoldable pub later : ℕ → Table → Table
later by table = record table { orders = later_stamps by table.orders }
