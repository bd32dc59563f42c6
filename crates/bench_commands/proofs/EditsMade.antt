-- What an edit led to, and what it leaves.
use Rattle.std.proofs.Common.{◌≡◌, refl, sym, ap, ◌∙◌}
use Rattle.std.specs.Prelude.{is_ok, if◌then◌else◌, Result, Ok, Err}
use Rattle.std.specs.Result.{result_map_both}
use Rattle.bench_types.specs.declared.edit.Edit.{Edit}
use Rattle.bench_types.specs.declared.edit.EditFault.{EditFault}
use Rattle.bench_model.specs.Edits.{accepted}
use Rattle.bench_model.specs.Meeting.{CheckpointedSession, kept_after}
use Rattle.session_store.specs.declared.outcome.Outcome.{Outcome}
use Rattle.session_store.specs.Outcomes.{after_edit, answer, outcome_of}

-- an edit is accepted where it is refused for nothing
pub accepted_printed : (kept : CheckpointedSession) (edit : Edit) → ((why : EditFault) → accepted kept.session edit ≡ Err why → ⊥) → accepted kept.session edit
    ≡ Ok tt
accepted_printed kept edit none = at (accepted kept.session edit) refl
  where
    at : (check : Result (Unit {0}) EditFault) → accepted kept.session edit ≡ check → accepted kept.session edit ≡ Ok tt
    at (Ok done) is = is
    at (Err why) is = absurd (none why is)

-- what an accepted edit leads to, and what a refused one does
pub accepted_answer : (kept : CheckpointedSession) (edit : Edit) (outcome : Outcome) → accepted kept.session edit ≡ Ok tt → outcome ≡ outcome_of kept edit → Ok
    outcome ≡ answer kept edit
accepted_answer kept edit outcome accepts is =
    ap (λ (o : Outcome). Ok o) is ∙ sym (ap
    (λ (check : Result (Unit {0}) EditFault). result_map_both (λ _. outcome_of kept edit) (λ (why : EditFault). why) check) accepts)

pub accepted_after : (kept next : CheckpointedSession) (edit : Edit) → accepted kept.session edit ≡ Ok tt → next ≡ kept_after edit kept → next ≡ after_edit kept
    edit
accepted_after kept next edit accepts is = is ∙ sym (ap (λ (check : Result (Unit {0}) EditFault). if is_ok check then kept_after edit kept else kept) accepts)

pub refused_answer : (kept : CheckpointedSession) (edit : Edit) (why : EditFault) → accepted kept.session edit ≡ Err why → Err why ≡ answer kept edit
refused_answer kept edit why refuses = sym (ap
    (λ (check : Result (Unit {0}) EditFault). result_map_both (λ _. outcome_of kept edit) (λ (why : EditFault). why) check) refuses)

pub refused_after : (kept next : CheckpointedSession) (edit : Edit) (why : EditFault) → accepted kept.session edit ≡ Err why → next ≡ kept → next ≡ after_edit
    kept edit
refused_after kept next edit why refuses is = is ∙ sym (ap (λ (check : Result (Unit {0}) EditFault). if is_ok check then kept_after edit kept else kept)
    refuses)
