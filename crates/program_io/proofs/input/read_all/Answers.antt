use Rattle.std.proofs.Common.{arith}
use Rattle.program_io.proofs.KnownInput.{reads_more}
use Rattle.program_io.proofs.input.read_all.Goals as goal

pub returns-in_err-read_on-clause-some : goal.returns-in_err-read_on-clause-some
returns-in_err-read_on-clause-some g c = reads_more (g.R.CountedRead.seen c.args.reader.now).bytes (g.R.CountedRead.seen c.loop-input.reader).bytes
    (g.R.CountedRead.seen c.read_on.new.reader).bytes c.loop-input.input.items c.min-most.result _ c.loop-input.invariant.consumes c.read_on.ensures.some
    (omega (arith, c.min-most.ensures, c.len-in-loop-input.ensures, c.loop-input-test.true, c.loop-input.invariant.within, c.len.ensures))
