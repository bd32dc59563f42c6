use Rattle.std.proofs.Common.{sym, ap, subst, ◌∙◌}
use Rattle.program_io.specs.Device.{failures_after, later_fault}
use Rattle.bench_commands.specs.declared.execution.Status.{Status}
use Rattle.bench_commands.specs.Record.{EndsRecord, IsRecording}
use Rattle.bench_commands.specs.Run.{fault_of_status, reads_well, writes_well}
use Rattle.bench_commands.proofs.Statuses.{fault_by_status, of_run, reads_by_status, recording_ended, writes_by_status}
use Rattle.bench_commands.proofs.recording.record.Goals as goal

pub of-requires : goal.of-requires
of-requires g c = of_run IsRecording c.end_of_recording.result (g.I.CountedRead.seen c.args.reader.now).bytes
    (g.I.CountedRead.seen c.end_of_recording.new.reader).bytes (g.O.CountedWrite.seen c.args.writer.now).bytes
    (g.O.CountedWrite.seen c.end_of_recording.new.writer).bytes c.end_of_recording.ensures.bytes

pub returns-clause-bytes : goal.returns-clause-bytes
returns-clause-bytes g c =
    subst (λ (status : Status). EndsRecord status (g.I.CountedRead.seen c.args.reader.now).bytes (g.I.CountedRead.seen c.end_of_recording.new.reader).bytes
    (g.O.CountedWrite.seen c.args.writer.now).bytes (g.O.CountedWrite.seen c.end_of_recording.new.writer).bytes) (sym c.of.ensures)
    (recording_ended (g.I.CountedRead.seen c.args.reader.now).bytes (g.I.CountedRead.seen c.end_of_recording.new.reader).bytes
    (g.O.CountedWrite.seen c.args.writer.now).bytes (g.O.CountedWrite.seen c.end_of_recording.new.writer).bytes c.end_of_recording.result
    c.end_of_recording.ensures.bytes)

pub returns-clause-reads : goal.returns-clause-reads
returns-clause-reads g c =
    let is = of_run IsRecording c.end_of_recording.result (g.I.CountedRead.seen c.args.reader.now).bytes
    (g.I.CountedRead.seen c.end_of_recording.new.reader).bytes (g.O.CountedWrite.seen c.args.writer.now).bytes
    (g.O.CountedWrite.seen c.end_of_recording.new.writer).bytes c.end_of_recording.ensures.bytes in
    c.end_of_recording.ensures.reads ∙ sym (ap (λ well. failures_after well (g.I.CountedRead.seen c.args.reader.now).failures)
    (ap reads_well c.of.ensures ∙ reads_by_status c.end_of_recording.result is))

pub returns-clause-writes : goal.returns-clause-writes
returns-clause-writes g c =
    let is = of_run IsRecording c.end_of_recording.result (g.I.CountedRead.seen c.args.reader.now).bytes
    (g.I.CountedRead.seen c.end_of_recording.new.reader).bytes (g.O.CountedWrite.seen c.args.writer.now).bytes
    (g.O.CountedWrite.seen c.end_of_recording.new.writer).bytes c.end_of_recording.ensures.bytes in
    c.end_of_recording.ensures.writes ∙ sym (ap (λ well. failures_after well (g.O.CountedWrite.seen c.args.writer.now).failures)
    (ap writes_well c.of.ensures ∙ writes_by_status c.end_of_recording.result is))

pub returns-clause-fault : goal.returns-clause-fault
returns-clause-fault g c =
    let is = of_run IsRecording c.end_of_recording.result (g.I.CountedRead.seen c.args.reader.now).bytes
    (g.I.CountedRead.seen c.end_of_recording.new.reader).bytes (g.O.CountedWrite.seen c.args.writer.now).bytes
    (g.O.CountedWrite.seen c.end_of_recording.new.writer).bytes c.end_of_recording.ensures.bytes in
    c.end_of_recording.ensures.fault ∙ sym (ap (λ why. later_fault why (g.O.CountedWrite.seen c.args.writer.now).fault)
    (ap fault_of_status c.of.ensures ∙ fault_by_status c.end_of_recording.result is))
