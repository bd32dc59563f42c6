-- The laws of edits that are refused.
use Rattle.std.proofs.Common.{◌≡◌, ℕ, zero, suc, ◌+◌, List, [], ◌∷◌, ◌++◌, length, take, flat_map, Some, Result, Ok, Err, refl, ap, sym, subst, ◌∙◌, arith, inl}
use Rattle.std.proofs.Common.{inr}
use Rattle.std.specs.Prelude.{Contains, slice_get}
use Rattle.std.proofs.lemmas.List.Elements.{Contains-append_cases, Contains-append_left, Contains-append_right}
use Rattle.bench_types.specs.declared.edit.Edit.{Edit}
use Rattle.bench_types.specs.declared.edit.EditFault.{EditFault}
use Rattle.bench_types.specs.Session.{Session}
use Rattle.bench_model.specs.Edits.{accepted, after_edit, after_edits}
use Rattle.session_edits.specs.Notes.{edit_notes, refused_line, RefusedArePrinted}
use Rattle.session_edits.specs.Refused.{refused_at, refused_by, refused_edits, refused_from, IsRefusedAmong, RefusedAreThese}
use Rattle.session_edits.specs.declared.refused.RefusedEdit.{RefusedEdit}

-- a line is never empty
line_is_some : (refused : RefusedEdit) (rest : List ℕ) → refused_line refused ++ rest ≡ [] → ⊥
unfolding refused_line
line_is_some refused rest none = cc none

none_printed : (list : List RefusedEdit) → flat_map refused_line list ≡ [] → list ≡ []
none_printed [] none = refl
none_printed (refused ∷ list) none = absurd (line_is_some refused (flat_map refused_line list) none)

pub refused_are_printed : RefusedArePrinted
unfolding edit_notes
refused_are_printed session edits = (none_printed (refused_edits session edits), λ none. ap (flat_map refused_line) none)

-- of edits, the first of which has the index, the one that is so far on is refused
record IsRefusedFrom (index : ℕ) (session : Session) (edits : List Edit) (refused : RefusedEdit) : Type 0 where
  on : ℕ
  edit : Edit
  place : index + on ≡ refused.index
  stands : slice_get edits on ≡ Some edit
  steps : length (after_edits session (take on edits)).steps ≡ refused.steps
  refuses : accepted (after_edits session (take on edits)) edit ≡ Err refused.why

one_there : (index steps : ℕ) (check : Result (Unit {0}) EditFault) (refused : RefusedEdit) → Contains (refused_by index steps check) refused →
    (check ≡ Err refused.why) × (steps ≡ refused.steps) × (index ≡ refused.index)
one_there index steps (Ok done) refused (k, within, is) = absurd (omega (arith, within))
one_there index steps (Err why) refused (zero, within, is) =
    (ap (λ (one : RefusedEdit). Err one.why) is, ap (λ (one : RefusedEdit). one.steps) is, ap (λ (one : RefusedEdit). one.index) is)
one_there index steps (Err why) refused (suc k, within, is) = absurd (omega (arith, within))

printed_are_refused : (index : ℕ) (session : Session) (edits : List Edit) (refused : RefusedEdit) → Contains (refused_from index session edits) refused →
    IsRefusedFrom index session edits refused
printed_are_refused index session [] refused (k, within, is) = absurd (omega (arith, within))
printed_are_refused index session (edit ∷ edits) refused printed =
    elim (Contains-append_cases (refused_at index session edit) (refused_from (suc index) (after_edit session edit) edits) refused printed) [
      | inl here ↦
          let it = one_there index (length session.steps) (accepted session edit) refused here in
          record { on = 0; edit = edit; place = omega (arith, it.2); stands = refl; steps = it.1; refuses = it.0 }
      | inr later ↦
          let it = printed_are_refused (suc index) (after_edit session edit) edits refused later in
          record { on = suc it.on; edit = it.edit; place = omega (arith, it.place); stands = it.stands; steps = it.steps; refuses = it.refuses }
    ]

abbrev one_of : ℕ → ℕ → EditFault → RefusedEdit
one_of index steps why = record { index = index; steps = steps; why = why }

there_is_one : (index steps : ℕ) (check : Result (Unit {0}) EditFault) (refused : RefusedEdit) → check ≡ Err refused.why → steps ≡ refused.steps → index ≡
    refused.index → Contains (refused_by index steps check) refused
there_is_one index steps check refused refuses many at =
    let one : refused_by index steps check ≡ refused ∷ [] =
    ap (refused_by index steps) refuses
    ∙ ap (λ (n : ℕ). one_of n steps refused.why ∷ []) at ∙ ap (λ (n : ℕ). one_of refused.index n refused.why ∷ []) many in
    subst (λ (list : List RefusedEdit). Contains list refused) (sym one) (0, omega arith, refl)

refused_are_listed : (index : ℕ) (session : Session) (edits : List Edit) (refused : RefusedEdit) (on : ℕ) (edit : Edit) → index + on ≡ refused.index → slice_get
    edits on ≡ Some edit → length (after_edits session (take on edits)).steps ≡ refused.steps
    → accepted (after_edits session (take on edits)) edit ≡ Err refused.why → Contains (refused_from index session edits) refused
refused_are_listed index session [] refused on edit at stands many refuses = absurd (cc stands)
refused_are_listed index session (first ∷ edits) refused zero edit at stands many refuses =
    let same : first ≡ edit = cc stands in
    let rest = refused_from (suc index) (after_edit session first) edits in
    let here = there_is_one index (length session.steps) (accepted session first) refused (ap (accepted session) same ∙ refuses) many (omega (arith, at)) in
    Contains-append_left (refused_at index session first) rest refused here
refused_are_listed index session (first ∷ edits) refused (suc on) edit at stands many refuses =
    let there = refused_are_listed (suc index) (after_edit session first) edits refused on edit (omega (arith, at)) stands many refuses in
    Contains-append_right (refused_at index session first) (refused_from (suc index) (after_edit session first) edits) refused there

pub refused_are_these : RefusedAreThese
refused_are_these session edits refused = (printed, listed)
  where
    printed : Contains (refused_edits session edits) refused → IsRefusedAmong session edits refused
    printed some =
        let it = printed_are_refused 0 session edits refused some in
        let place : it.on ≡ refused.index = omega (arith, it.place) in
        record {
          edit = it.edit;
          stands = subst (λ (n : ℕ). slice_get edits n ≡ Some it.edit) place it.stands;
          steps = subst (λ (n : ℕ). length (after_edits session (take n edits)).steps ≡ refused.steps) place it.steps;
          refuses = subst (λ (n : ℕ). accepted (after_edits session (take n edits)) it.edit ≡ Err refused.why) place it.refuses;
        }

    listed : IsRefusedAmong session edits refused → Contains (refused_edits session edits) refused
    listed it = refused_are_listed 0 session edits refused refused.index it.edit (omega arith) it.stands it.steps it.refuses
