use Rattle.program_io.specs.Endings.{EndsWith}
use Rattle.program_io.proofs.Ended.{refused_over, words_over, words_refused}
use Rattle.bench_commands.specs.Command.{asked}
use Rattle.bench_commands.specs.Program.{Ends}
use Rattle.bench_commands.proofs.Requests.{memory_refused}
use Rattle.bench_commands.proofs.program.ending_of.Goals as goal

pub returns-in-Ok : goal.returns-in-Ok
returns-in-Ok g c =
    words_over (g.R.CountedRead.seen c.args.reader.now) (g.R.CountedRead.seen c.carry_out.new.reader) (g.W.CountedWrite.seen c.args.writer.now)
    (g.W.CountedWrite.seen c.carry_out.new.writer)
    Ends c.args.words c.as_deref.result c.in-Ok.given c.carry_out.result c.as_deref.ensures.value c.in-Ok.ensures c.carry_out.ensures

pub returns-in-Err : goal.returns-in-Err
returns-in-Err g c =
    let read = g.R.CountedRead.seen c.args.reader.now in
    let write = g.W.CountedWrite.seen c.args.writer.now in
    refused_over (EndsWith Ends c.args.words) read write (words_refused Ends c.args.words read.bytes write.bytes
    (λ given. memory_refused (asked given) read.bytes write.bytes))
