use Rattle.std.proofs.Common.{subst, sym}
use Rattle.std.specs.Vec.{vec_capacity}
use Rattle.bench_types.specs.declared.header.Header.{Header}
use Rattle.bench_types.specs.Header.{header_check}
use Rattle.recordings.specs.Kept.{IsRecording}
use Rattle.recordings.proofs.Keeping.{no_fault, start_is_recording}
use Rattle.recordings.proofs.recording.Parts.start.Goals as goal

pub returns-in-Ok-clause-kept : goal.returns-in-Ok-clause-kept
returns-in-Ok-clause-kept c =
    let entries = c.in-Ok.entries in
    let kernel = c.in_ok-kernel.kernel in
    subst (λ (h : Header). IsRecording h entries.items c.args.limit (vec_capacity entries) kernel) (sym c.in-Ok.ensures.header)
    (start_is_recording c.args.header.now entries.items c.args.limit (vec_capacity entries) kernel
    (no_fault (header_check c.args.header.now) (λ fault. let bad = c.in_ok-kernel.ensures.bad_header.1 fault in cc bad)) c.in_ok-kernel.ensures.started
    c.in_ok-kernel.ensures.shape c.in-Ok.ensures.empty c.in-Ok.ensures.room)
