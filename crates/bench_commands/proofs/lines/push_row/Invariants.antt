use Rattle.std.proofs.Common.{◌≡◌, ◌++◌, take, string_bytes}
use Rattle.bench_commands.specs.Lines.{row_text}
use Rattle.bench_commands.proofs.lines.push_row.Given as goal

abbrev pub invariant-loop-task : goal.invariant-loop-task
invariant-loop-task l = string_bytes l.text ≡ string_bytes l.initial.text ++ row_text l.header (take l.task-index l.row)
