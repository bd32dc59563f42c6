use Rattle.std.proofs.Common.{◌≡◌, ◌*◌, ◌<◌, ℕ, List, length, ap, sym, subst, ◌∙◌, add-one, arith}
use Rattle.std.specs.Prelude.{slice_set}
use Rattle.bench_types.specs.declared.note.Notification.{Notification}
use Rattle.bench_model.specs.Notes.{note_at, slot_in, unawaited}
use Rattle.bench_model.specs.Table.{Table}
use Rattle.bench_model.proofs.Waits.{all_freed, freed, none_freed, one_freed, slot_below}
use Rattle.slow_replay.proofs.slow.SlowTable.stop_waiting.Goals as goal

with_notes : Table → List Notification → Table
with_notes table notes = record table { notes = notes }

-- the notification of the index, for which nobody waits
set_at : ℕ → ℕ → Table → Table
set_at task index table =
    record table {
      notes = slice_set table.notes (slot_in table.settings.notes task index)
          (unawaited (note_at table.notes (slot_in table.settings.notes task index)));
    }

pub loop-index-init : goal.loop-index-init
unfolding with_notes
loop-index-init c = sym (ap (with_notes c.args.self.now) (none_freed c.args.self.now.settings.notes c.args.task c.args.self.now.notes))

pub note-requires-clause-task : goal.note-requires-clause-task
note-requires-clause-task c = omega (arith, ap (λ (t : Table). length t.orders.rows) c.loop-index.invariant, c.requires)

pub note-requires-clause-index : goal.note-requires-clause-index
note-requires-clause-index c =
    omega (arith, ap (λ (t : Table). t.settings.notes) c.loop-index.invariant, ap (λ (t : Table). t.settings.notes) c.self.view_is, c.loop-index-test.true)

pub set_note-requires-clause-task : goal.set_note-requires-clause-task
set_note-requires-clause-task c = omega (arith, ap (λ (t : Table). length t.orders.rows) c.loop-index.invariant, c.requires)

pub set_note-requires-clause-index : goal.set_note-requires-clause-index
set_note-requires-clause-index c =
    omega (arith, ap (λ (t : Table). t.settings.notes) c.loop-index.invariant, ap (λ (t : Table). t.settings.notes) c.self.view_is, c.loop-index-test.true)

pub loop-index-preserved : goal.loop-index-preserved
unfolding with_notes set_at
loop-index-preserved c =
    let now = c.args.self.now in
    let task = c.args.task in
    let index = c.loop-index.index in
    let entries = now.settings.notes in
    let kept = c.self.invariant in
    let many : length now.notes ≡ length now.orders.rows * entries =
    subst (λ (t : Table). length t.notes ≡ length t.orders.rows * t.settings.notes) c.self.view_is
    (kept.notes ∙ ap (λ n. n * c.self.inside.settings.notes) (sym kept.rows)) in
    let few : index < entries = omega (arith, ap (λ (t : Table). t.settings.notes) c.self.view_is, c.loop-index-test.true) in
    let below : slot_in entries task index < length now.notes =
    omega (arith, many, slot_below (length now.orders.rows) entries task index c.requires few) in
    let made : c.set_note.new.self ≡ set_at task index c.loop-index.self =
    c.set_note.ensures ∙ ap (λ note. with_notes c.loop-index.self (slice_set c.loop-index.self.notes (slot_in c.loop-index.self.settings.notes task index) note))
    (c.unawaited.ensures ∙ ap unawaited c.note.ensures) in
    made ∙ ap (set_at task index) c.loop-index.invariant ∙ ap (with_notes now) (one_freed entries task now.notes index below)
    ∙ ap (λ n. with_notes now (freed entries task now.notes n)) (sym (add-one index))

pub returns : goal.returns
unfolding with_notes
returns c =
    let now = c.args.self.now in
    let last : c.loop-index.index ≡ now.settings.notes =
    omega (arith, ap (λ (t : Table). t.settings.notes) c.self.view_is, c.loop-index-test.false, c.loop-index.auto.index-end) in
    c.loop-index.invariant ∙ ap (λ n. with_notes now (freed now.settings.notes c.args.task now.notes n)) last
    ∙ ap (with_notes now) (all_freed now.settings.notes c.args.task now.notes)
