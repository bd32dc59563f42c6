-- How large a workload may be. Each limit stands here once.
use Rattle.std.specs.Prelude.{ℕ}

-- the items of all programs
abbrev pub max_items : ℕ
max_items = 100000

-- the loops and calls with branches around an item
abbrev pub max_nesting : ℕ
max_nesting = 16

-- the ticks that a workload goes on for
abbrev pub max_ticks : ℕ
max_ticks = 1000000
