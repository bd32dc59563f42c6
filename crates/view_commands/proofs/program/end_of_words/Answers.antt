use Rattle.std.proofs.Common.{map, option_map}
use Rattle.program_io.proofs.Ended.{refused_over}
use Rattle.view_commands.specs.CommandLine.{asked}
use Rattle.view_commands.specs.ViewProgram.{EndsAsked}
use Rattle.view_commands.proofs.MemoryRefused.{refused_first}
use Rattle.view_commands.proofs.Requests.{request_ended}
use Rattle.view_commands.proofs.program.end_of_words.Goals as goal

pub returns-in-Err : goal.returns-in-Err
returns-in-Err g c =
    let what = asked (option_map (λ all. map g.S.AsStr.text all.now) c.args.words) in
    let files = g.R.Source.file c.args.reader.now in
    let read = g.R.CountedRead.seen c.args.reader.now in
    let write = g.W.CountedWrite.seen c.args.writer.now in
    refused_over (EndsAsked what files) read write (refused_first what files read.bytes write.bytes)

pub returns-in-Ok : goal.returns-in-Ok
returns-in-Ok g c =
    let what = asked (option_map (λ all. map g.S.AsStr.text all.now) c.args.words) in
    request_ended c.in-Ok.request what (g.R.Source.file c.args.reader.now) c.carry_out.result (g.R.CountedRead.seen c.args.reader.now)
    (g.R.CountedRead.seen c.carry_out.new.reader) (g.W.CountedWrite.seen c.args.writer.now) (g.W.CountedWrite.seen c.carry_out.new.writer)
    c.in-Ok.ensures.asked c.in-Ok.ensures.mark c.carry_out.ensures
