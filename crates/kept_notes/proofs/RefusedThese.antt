-- Which edits are refused, and where the others lead.
use Rattle.std.proofs.Common.{◌≡◌, ℕ, zero, suc, ◌+◌, Bool, false, cond, List, [], ◌∷◌, ◌++◌, take, Option, Some, None, refl, ap, sym, subst, ◌∙◌, arith}
use Rattle.std.proofs.Common.{inl, inr}
use Rattle.std.specs.Prelude.{Contains, option_map, slice_get, slice_set}
use Rattle.std.specs.Option.{option_map_or}
use Rattle.std.proofs.lemmas.List.Elements.{Contains-append_cases, Contains-append_left, Contains-append_right}
use Rattle.std.proofs.lemmas.Option.{slice_get-map}
use Rattle.bench_types.specs.declared.step.Step.{Step}
use Rattle.bench_types.specs.Session.{Session}
use Rattle.bench_model.specs.Edits.{after_edit}
use Rattle.kept_edits.specs.declared.edit.KeptEdit.{KeptEdit}
use Rattle.kept_edits.specs.declared.edit.KeptEdit.TheVariants.{Plain, Work}
use Rattle.kept_runs.specs.Items.{edited_session, is_call, Item}
use Rattle.kept_notes.specs.declared.refused.RefusedKept.{RefusedKept}
use Rattle.kept_notes.specs.NoteLaws.{IsRefusedAmong, KeptAreMade, RefusedChangesNothing, RefusedKeptAreThese}
use Rattle.kept_notes.specs.Refused.{after_kept, refused_kept, refused_kept_at, refused_kept_from}

pub kept_are_made : KeptAreMade
kept_are_made session [] = refl
kept_are_made session (Plain edit ∷ edits) = kept_are_made (after_edit session edit) edits
kept_are_made session (Work at change ∷ edits) = kept_are_made session edits

pub refused_changes_nothing : RefusedChangesNothing
refused_changes_nothing items at change none =
    by (slice_get items at) (sym (ap (λ (step : Option Step). option_map_or is_call step false) (slice_get-map (λ (item : Item). item.step) items at)) ∙ none)
  where
    by : (found : Option Item) → option_map_or is_call (option_map (λ (item : Item). item.step) found) false ≡ false → option_map_or
        (λ (item : Item). cond (is_call item.step) (slice_set items at (record item { changes = item.changes ++ change ∷ [] })) items) found items ≡ items
    by None is = refl
    by (Some item) is = ap (λ (b : Bool). cond b (slice_set items at (record item { changes = item.changes ++ change ∷ [] })) items) is

-- the first edit leads to the session after it
led : (session : Session) (edit : KeptEdit) (edits : List KeptEdit) → edited_session session (edit ∷ edits) ≡ edited_session (after_kept session edit) edits
led session (Plain edit) edits = refl
led session (Work at change) edits = refl

-- of edits, the first of which has the index, the one that is so far on is refused
abbrev IsRefusedFrom : ℕ → Session → List KeptEdit → RefusedKept → Type 0
IsRefusedFrom index session edits refused =
    (on : ℕ) × (edit : KeptEdit) × (slice_get edits on ≡ Some edit) × Contains (refused_kept_at (index + on) (edited_session session (take on edits)) edit) refused

listed_are_refused : (index : ℕ) (session : Session) (edits : List KeptEdit) (refused : RefusedKept) → Contains (refused_kept_from index session edits) refused →
    IsRefusedFrom index session edits refused
listed_are_refused index session [] refused there = absurd (omega (arith, there.1))
listed_are_refused index session (edit ∷ edits) refused there =
    elim (Contains-append_cases (refused_kept_at index session edit) (refused_kept_from (suc index) (after_kept session edit) edits) refused there) [
      | inl here ↦
          let same : index ≡ index + 0 = omega arith in (
            0,
            edit,
            refl,
            subst (λ n. Contains (refused_kept_at n session edit) refused) same here,
          )
      | inr later ↦
          let it = listed_are_refused (suc index) (after_kept session edit) edits refused later in
          let same : suc index + it.0 ≡ index + suc it.0 = omega arith in (
            suc it.0,
            it.1,
            it.2,
            subst (λ n. Contains (refused_kept_at n (edited_session session (edit ∷ take it.0 edits)) it.1) refused) same
                (subst (λ (one : Session). Contains (refused_kept_at (suc index + it.0) one it.1) refused) (sym (led session edit (take it.0 edits))) it.3),
          )
    ]

refused_are_listed : (index : ℕ) (session : Session) (edits : List KeptEdit) (refused : RefusedKept) (on : ℕ) (edit : KeptEdit) → slice_get edits on ≡ Some edit
    → Contains (refused_kept_at (index + on) (edited_session session (take on edits)) edit) refused → Contains (refused_kept_from index session edits) refused
refused_are_listed index session [] refused on edit stands there = absurd (cc stands)
refused_are_listed index session (first ∷ edits) refused zero edit stands there =
    let same : edit ≡ first = cc stands in
    let at : index + 0 ≡ index = omega arith in
    Contains-append_left (refused_kept_at index session first) (refused_kept_from (suc index) (after_kept session first) edits) refused
    (subst (λ (one : KeptEdit). Contains (refused_kept_at index session one) refused) same
    (subst (λ n. Contains (refused_kept_at n session edit) refused) at there))
refused_are_listed index session (first ∷ edits) refused (suc on) edit stands there =
    let same : index + suc on ≡ suc index + on = omega arith in
    Contains-append_right (refused_kept_at index session first) (refused_kept_from (suc index) (after_kept session first) edits) refused
    (refused_are_listed (suc index) (after_kept session first) edits refused on edit stands
    (subst (λ (one : Session). Contains (refused_kept_at (suc index + on) one edit) refused) (led session first (take on edits))
    (subst (λ n. Contains (refused_kept_at n (edited_session session (first ∷ take on edits)) edit) refused) same there)))

pub refused_kept_are_these : RefusedKeptAreThese
refused_kept_are_these session edits refused = (told, listed)
  where
    told : Contains (refused_kept session edits) refused → IsRefusedAmong session edits refused
    told there =
        let it = listed_are_refused 0 session edits refused there in
        let at : 0 + it.0 ≡ it.0 = omega arith in
        (it.0, it.1, it.2, subst (λ n. Contains (refused_kept_at n (edited_session session (take it.0 edits)) it.1) refused) at it.3)

    listed : IsRefusedAmong session edits refused → Contains (refused_kept session edits) refused
    listed it =
        let at : it.0 ≡ 0 + it.0 = omega arith in
        refused_are_listed 0 session edits refused it.0 it.1 it.2
        (subst (λ n. Contains (refused_kept_at n (edited_session session (take it.0 edits)) it.1) refused) at it.3)
