-- Up to where a run that keeps work is known, as people are told.
use Rattle.std.specs.Prelude.{ℕ, List, [], ◌++◌, ◌==◌, codes, decimal, Bool, true, false, Option, Some, None, if◌then◌else◌}
use Rattle.std.specs.List.{list_any}
use Rattle.bench_types.specs.declared.header.Header.{Header}
use Rattle.bench_types.specs.Header.{name_of}
use Rattle.kept_runs.specs.declared.known_limit.KnownLimit.{KnownLimit}
use Rattle.kept_runs.specs.declared.known_limit.LimitReason.{LimitReason}
use Rattle.kept_runs.specs.declared.known_limit.LimitReason.TheVariants.{End, Answer}
use Rattle.run_comparisons.specs.declared.rows.Row.{Row}
use Rattle.run_comparisons.specs.Rows.{place_after}

-- why it is not known what a task does
abbrev pub reason_text : LimitReason → List ℕ
reason_text End = codes " has made its last call"
reason_text (Answer true) = codes " got true where it got false"
reason_text (Answer false) = codes " got false where it got true"

-- up to which place a run is known, and of which task it is not known what it does next
abbrev pub known_line : Header → KnownLimit → List ℕ
known_line header limit =
    codes "known until place " ++ decimal limit.place ++ codes ": " ++ name_of header limit.task
    ++ reason_text limit.reason ++ codes "\n"

-- whether the step of the row stands at the place of the run after the edits
abbrev pub stands_at : ℕ → Row → Bool
stands_at place row = list_any (λ later. later == place) (place_after row)

-- Before a row that stands where the known part of the run ends, it is told so. Before another row
-- nothing is told.
abbrev pub known_before : Header → Option KnownLimit → Row → List ℕ
known_before header None row = []
known_before header (Some limit) row =
    if stands_at limit.place row then known_line header limit else []

-- Where no row stands there, the end of the run does, and it is told behind the last row.
abbrev pub known_behind : Header → Option KnownLimit → List Row → List ℕ
known_behind header None rows = []
known_behind header (Some limit) rows =
    if list_any (stands_at limit.place) rows then [] else known_line header limit
