use Rattle.std.proofs.Common.{◌≡◌, ◌+◌, ◌-◌, ◌≤◌, length}
use Rattle.std.specs.Io.KnownBytes.{Consumes}
use Rattle.bench_types.specs.Limits.{max_input}
use Rattle.program_io.specs.declared.input.TheConstants.{CHUNK}
use Rattle.program_io.proofs.input.read_all.Given as goal

abbrev pub invariant-loop-input : goal.invariant-loop-input
invariant-loop-input g l = record {
  consumes : Consumes (g.R.CountedRead.seen l.fn.reader).bytes (g.R.CountedRead.seen l.reader).bytes l.input.items;
  within : length l.input.items ≤ max_input + 1;
  none_failed : (g.R.CountedRead.seen l.reader).failures ≡ (g.R.CountedRead.seen l.fn.reader).failures;
  room : length l.chunk ≡ CHUNK;
}

abbrev pub decreases-loop-input : goal.decreases-loop-input
decreases-loop-input g l = (max_input + 1) - length l.input.items
