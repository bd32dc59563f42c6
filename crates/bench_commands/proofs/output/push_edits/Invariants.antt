use Rattle.std.proofs.Common.{string_bytes}
use Rattle.bench_commands.proofs.EditLines.{AreMade}
use Rattle.bench_commands.proofs.output.push_edits.Given as goal

abbrev pub invariant-loop-index : goal.invariant-loop-index
invariant-loop-index l = AreMade l.fn.store l.store l.edits l.index (string_bytes l.fn.text) (string_bytes l.text)
