use Rattle.std.proofs.Common.{◌≡◌, ◌++◌, string_bytes}
use Rattle.run_pictures.specs.TimeRow.{time_labels}
use Rattle.run_pictures.proofs.time_row.push_times.Given as goal

abbrev pub invariant-loop-k : goal.invariant-loop-k
invariant-loop-k l = string_bytes l.text ≡ string_bytes l.initial.text ++ time_labels l.frame l.y l.times l.k
