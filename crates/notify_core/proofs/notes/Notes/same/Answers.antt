use Rattle.std.proofs.Common.{◌≡◌, ◌∙◌, ℕ, List, ap, sym}
use Rattle.std.proofs.lemmas.Slice.Eq.{slice_eq-Decides}
use Rattle.bench_types.proofs.Equalities.{notification_decides}
use Rattle.bench_types.specs.declared.note.Notification.{Notification}
use Rattle.notify_core.specs.Parts.{NotesPart}
use Rattle.notify_core.proofs.notes.Notes.same.Goals as goal

part : ℕ → ℕ → List Notification → NotesPart
part tasks entries notes = record { tasks = tasks; entries = entries; notes = notes }

same_part : (t u e f : ℕ) (m n : List Notification) → t ≡ u → e ≡ f → m ≡ n → part t e m ≡ part u f n
same_part t u e f m n one two three = cc

pub returns-then-self-other-2 : goal.returns-then-self-other-2
unfolding part
returns-then-self-other-2 c =
    let notes = slice_eq-Decides notification_decides c.self.inside.notes.items c.other.inside.notes.items c.eq.result c.eq.ensures in (
      λ yes. sym c.self.view_is ∙ same_part _ _ _ _ _ _ c.if-self-other.true c.if-self-other-2.true (notes.0 yes) ∙ c.other.view_is,
      λ same. notes.1 (ap (λ (part : NotesPart). part.notes) (c.self.view_is ∙ same ∙ sym c.other.view_is)),
    )
