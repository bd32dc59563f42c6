use Rattle.std.proofs.Common.{sym, ap, subst, ◌∙◌}
use Rattle.program_io.specs.Device.{failures_after, later_fault}
use Rattle.bench_commands.specs.declared.execution.Status.{Status}
use Rattle.bench_commands.specs.Answer.{IsRun}
use Rattle.bench_commands.specs.Run.{Ran, fault_of_status, reads_well, writes_well}
use Rattle.bench_commands.proofs.Statuses.{fault_by_status, of_run, reads_by_status, run_ended, writes_by_status}
use Rattle.bench_commands.proofs.execution.run.Goals as goal

pub of-requires : goal.of-requires
of-requires g c = of_run (IsRun c.args.mode.now) c.end_of_run.result (g.R.CountedRead.seen c.args.reader.now).bytes
    (g.R.CountedRead.seen c.end_of_run.new.reader).bytes (g.W.CountedWrite.seen c.args.writer.now).bytes (g.W.CountedWrite.seen c.end_of_run.new.writer).bytes
    c.end_of_run.ensures.bytes

pub returns-clause-bytes : goal.returns-clause-bytes
returns-clause-bytes g c =
    subst (λ (status : Status). Ran c.args.mode.now status (g.R.CountedRead.seen c.args.reader.now).bytes (g.R.CountedRead.seen c.end_of_run.new.reader).bytes
    (g.W.CountedWrite.seen c.args.writer.now).bytes (g.W.CountedWrite.seen c.end_of_run.new.writer).bytes) (sym c.of.ensures)
    (run_ended (g.R.CountedRead.seen c.args.reader.now).bytes (g.R.CountedRead.seen c.end_of_run.new.reader).bytes
    (g.W.CountedWrite.seen c.args.writer.now).bytes (g.W.CountedWrite.seen c.end_of_run.new.writer).bytes c.args.mode.now c.end_of_run.result
    c.end_of_run.ensures.bytes)

pub returns-clause-reads : goal.returns-clause-reads
returns-clause-reads g c =
    let is = of_run (IsRun c.args.mode.now) c.end_of_run.result (g.R.CountedRead.seen c.args.reader.now).bytes
    (g.R.CountedRead.seen c.end_of_run.new.reader).bytes (g.W.CountedWrite.seen c.args.writer.now).bytes
    (g.W.CountedWrite.seen c.end_of_run.new.writer).bytes c.end_of_run.ensures.bytes in
    c.end_of_run.ensures.reads ∙ sym (ap (λ well. failures_after well (g.R.CountedRead.seen c.args.reader.now).failures)
    (ap reads_well c.of.ensures ∙ reads_by_status c.end_of_run.result is))

pub returns-clause-writes : goal.returns-clause-writes
returns-clause-writes g c =
    let is = of_run (IsRun c.args.mode.now) c.end_of_run.result (g.R.CountedRead.seen c.args.reader.now).bytes
    (g.R.CountedRead.seen c.end_of_run.new.reader).bytes (g.W.CountedWrite.seen c.args.writer.now).bytes
    (g.W.CountedWrite.seen c.end_of_run.new.writer).bytes c.end_of_run.ensures.bytes in
    c.end_of_run.ensures.writes ∙ sym (ap (λ well. failures_after well (g.W.CountedWrite.seen c.args.writer.now).failures)
    (ap writes_well c.of.ensures ∙ writes_by_status c.end_of_run.result is))

pub returns-clause-fault : goal.returns-clause-fault
returns-clause-fault g c =
    let is = of_run (IsRun c.args.mode.now) c.end_of_run.result (g.R.CountedRead.seen c.args.reader.now).bytes
    (g.R.CountedRead.seen c.end_of_run.new.reader).bytes (g.W.CountedWrite.seen c.args.writer.now).bytes
    (g.W.CountedWrite.seen c.end_of_run.new.writer).bytes c.end_of_run.ensures.bytes in
    c.end_of_run.ensures.fault ∙ sym (ap (λ why. later_fault why (g.W.CountedWrite.seen c.args.writer.now).fault)
    (ap fault_of_status c.of.ensures ∙ fault_by_status c.end_of_run.result is))
