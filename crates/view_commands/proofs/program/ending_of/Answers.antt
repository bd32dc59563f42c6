use Rattle.program_io.specs.Endings.{EndsWith}
use Rattle.program_io.proofs.Ended.{refused_over, words_over, words_refused}
use Rattle.view_commands.specs.CommandLine.{asked}
use Rattle.view_commands.specs.ViewProgram.{Ends}
use Rattle.view_commands.proofs.MemoryRefused.{refused_first}
use Rattle.view_commands.proofs.program.ending_of.Goals as goal

pub returns-in-Ok : goal.returns-in-Ok
returns-in-Ok g c =
    words_over (g.R.CountedRead.seen c.args.reader.now) (g.R.CountedRead.seen c.end_of_words.new.reader) (g.W.CountedWrite.seen c.args.writer.now)
    (g.W.CountedWrite.seen c.end_of_words.new.writer)
    (Ends (g.R.Source.file c.args.reader.now)) c.args.words c.as_deref.result c.in-Ok.given c.end_of_words.result c.as_deref.ensures.value c.in-Ok.ensures
    c.end_of_words.ensures

pub returns-in-Err : goal.returns-in-Err
returns-in-Err g c =
    let files = g.R.Source.file c.args.reader.now in
    let read = g.R.CountedRead.seen c.args.reader.now in
    let write = g.W.CountedWrite.seen c.args.writer.now in
    refused_over (EndsWith (Ends files) c.args.words) read write (words_refused (Ends files) c.args.words read.bytes write.bytes
    (λ given. refused_first (asked given) files read.bytes write.bytes))
