use Rattle.std.proofs.Common.{subst, sym}
use Rattle.std.specs.Vec.{vec_capacity}
use Rattle.bench_model.specs.History.{end_of}
use Rattle.recordings.specs.declared.recording.Parts.{Parts}
use Rattle.recordings.specs.Kept.{IsRecording}
use Rattle.recordings.specs.RecordingView.{RecordingView}
use Rattle.recordings.proofs.Keeping.{IsFit, fit_is_next, step_is_recording}
use Rattle.recordings.proofs.recording.Recording.record.Goals as goal

pub invariant_of-self : goal.invariant_of-self
invariant_of-self c =
    let old = c.deref_mut-parts.result.now in
    let limit = c.self.inside.limit in
    let kept = subst (λ (parts : Parts). IsRecording parts.header parts.entries.items limit (vec_capacity parts.entries) parts.kernel)
    (sym c.deref_mut-parts.ensures.value) c.self.invariant in
    let table = end_of old.header old.entries.items in
    let next = c.step-reply.new.self in
    let fit = subst (λ (view : RecordingView). IsFit view c.args.step) (sym c.self.view_is)
    (record { checked = c.requires.checked; current = c.requires.current; unheld = c.requires.unheld; room = c.requires.room }) in
    let fits = subst (λ (parts : Parts). IsFit (record { header = parts.header; entries = parts.entries.items; limit = limit }) c.args.step)
    (sym c.deref_mut-parts.ensures.value) fit in
    step_is_recording old.header old.entries.items c.push_reserved.new.self.items limit (vec_capacity old.entries) (vec_capacity c.push_reserved.new.self)
    old.kernel next c.args.step c.core.result c.step-reply.result kept fits
    c.core.ensures (c.step-reply.ensures.reply table kept.stands) (c.step-reply.ensures.state table kept.stands) c.step-reply.ensures.shape
    c.push_reserved.ensures.items c.push_reserved.ensures.capacity

pub returns-clause-next : goal.returns-clause-next
returns-clause-next c = fit_is_next c.args.self.now c.args.step (record
    { checked = c.requires.checked; current = c.requires.current; unheld = c.requires.unheld; room = c.requires.room })
