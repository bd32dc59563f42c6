use Rattle.std.proofs.Common.{◌≡◌, ◌-◌, ◌≤◌, length, take}
use Rattle.std.specs.Io.KnownBytes.{Appends}
use Rattle.program_io.proofs.writing.write_text.Given as goal

abbrev pub invariant-loop-written : goal.invariant-loop-written
invariant-loop-written g l = record {
  wrote : Appends (g.W.CountedWrite.seen l.fn.writer).bytes (g.W.CountedWrite.seen l.writer).bytes (take l.written l.text);
  within : l.written ≤ length l.text;
  none_failed : (g.W.CountedWrite.seen l.writer).failures ≡ (g.W.CountedWrite.seen l.fn.writer).failures;
  same_fault : (g.W.CountedWrite.seen l.writer).fault ≡ (g.W.CountedWrite.seen l.fn.writer).fault;
}

abbrev pub decreases-loop-written : goal.decreases-loop-written
decreases-loop-written g l = length l.text - l.written
