use Rattle.std.proofs.Common.{map, option_map}
use Rattle.program_io.proofs.Ended.{refused_over}
use Rattle.bench_commands.specs.Command.{asked}
use Rattle.bench_commands.specs.Program.{EndsAsked}
use Rattle.bench_commands.proofs.Requests.{memory_refused, request_ended}
use Rattle.bench_commands.proofs.program.carry_out.Goals as goal

pub returns-in-Ok : goal.returns-in-Ok
returns-in-Ok g c =
    let what = asked (option_map (λ all. map g.S.AsStr.text all.now) c.args.words) in
    request_ended c.in-Ok.request what c.end_of_request.result (g.R.CountedRead.seen c.args.reader.now) (g.R.CountedRead.seen c.end_of_request.new.reader)
    (g.W.CountedWrite.seen c.args.writer.now) (g.W.CountedWrite.seen c.end_of_request.new.writer) c.in-Ok.ensures.asked c.in-Ok.ensures.mark
    c.end_of_request.ensures

pub returns-in-Err : goal.returns-in-Err
returns-in-Err g c =
    let what = asked (option_map (λ all. map g.S.AsStr.text all.now) c.args.words) in
    let read = g.R.CountedRead.seen c.args.reader.now in
    let write = g.W.CountedWrite.seen c.args.writer.now in
    refused_over (EndsAsked what) read write (memory_refused what read.bytes write.bytes)
