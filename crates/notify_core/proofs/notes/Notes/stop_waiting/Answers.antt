use Rattle.std.proofs.Common.{◌≡◌, ◌*◌, ◌<◌, ℕ, List, length, ap, sym, subst, ◌∙◌, add-one, arith}
use Rattle.std.specs.Prelude.{slice_set}
use Rattle.bench_types.specs.declared.note.Notification.{Notification}
use Rattle.bench_model.specs.Notes.{note_at, slot_in, unawaited}
use Rattle.notify_core.specs.Parts.{NotesPart, note_in}
use Rattle.bench_model.proofs.Waits.{all_freed, freed, none_freed, one_freed, slot_below}
use Rattle.notify_core.proofs.notes.Notes.stop_waiting.Goals as goal

with_notes : NotesPart → List Notification → NotesPart
with_notes part notes = record part { notes = notes }

-- the notification of the index, for which nobody waits
set_at : ℕ → ℕ → NotesPart → NotesPart
set_at task index part =
    record part {
      notes = slice_set part.notes (slot_in part.entries task index) (unawaited (note_in part task index));
    }

pub loop-index-init : goal.loop-index-init
unfolding with_notes
loop-index-init c = sym (ap (with_notes c.args.self.now) (none_freed c.args.self.now.entries c.args.task c.args.self.now.notes))

pub note-requires-clause-task : goal.note-requires-clause-task
note-requires-clause-task c = omega (arith, ap (λ (part : NotesPart). part.tasks) c.loop-index.invariant, c.requires)

pub note-requires-clause-index : goal.note-requires-clause-index
note-requires-clause-index c =
    omega (arith, ap (λ (part : NotesPart). part.entries) c.loop-index.invariant, ap (λ (part : NotesPart). part.entries) c.self.view_is, c.loop-index-test.true)

pub set-requires-clause-task : goal.set-requires-clause-task
set-requires-clause-task c = omega (arith, ap (λ (part : NotesPart). part.tasks) c.loop-index.invariant, c.requires)

pub set-requires-clause-index : goal.set-requires-clause-index
set-requires-clause-index c =
    omega (arith, ap (λ (part : NotesPart). part.entries) c.loop-index.invariant, ap (λ (part : NotesPart). part.entries) c.self.view_is, c.loop-index-test.true)

pub loop-index-preserved : goal.loop-index-preserved
unfolding with_notes set_at
loop-index-preserved c =
    let now = c.args.self.now in
    let task = c.args.task in
    let index = c.loop-index.index in
    let many : length now.notes ≡ now.tasks * now.entries =
    subst (λ (part : NotesPart). length part.notes ≡ part.tasks * part.entries) c.self.view_is c.self.invariant.many in
    let few : index < now.entries = omega (arith, ap (λ (part : NotesPart). part.entries) c.self.view_is, c.loop-index-test.true) in
    let below : slot_in now.entries task index < length now.notes = omega (arith, many, slot_below now.tasks now.entries task index c.requires few) in
    let made : c.set.new.self ≡ set_at task index c.loop-index.self =
    c.set.ensures ∙ ap (λ note. with_notes c.loop-index.self (slice_set c.loop-index.self.notes (slot_in c.loop-index.self.entries task index) note))
    (c.unawaited.ensures ∙ ap unawaited c.note.ensures) in
    made ∙ ap (set_at task index) c.loop-index.invariant ∙ ap (with_notes now) (one_freed now.entries task now.notes index below)
    ∙ ap (λ n. with_notes now (freed now.entries task now.notes n)) (sym (add-one index))

pub returns : goal.returns
unfolding with_notes
returns c =
    let now = c.args.self.now in
    let last : c.loop-index.index ≡ now.entries =
    omega (arith, ap (λ (part : NotesPart). part.entries) c.self.view_is, c.loop-index-test.false, c.loop-index.auto.index-end) in
    c.loop-index.invariant ∙ ap (λ n. with_notes now (freed now.entries c.args.task now.notes n)) last
    ∙ ap (with_notes now) (all_freed now.entries c.args.task now.notes)
