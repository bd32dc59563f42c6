-- What is told of edits that are refused.
use Rattle.std.proofs.Common.{◌≡◌, ℕ, suc, List, [], ◌∷◌, ◌++◌, map, flat_map, refl, ap, ap₂, sym, ◌∙◌}
use Rattle.std.proofs.lemmas.Grind.{flat_map-append}
use Rattle.bench_types.specs.declared.edit.Edit.{Edit}
use Rattle.bench_types.specs.Session.{Session}
use Rattle.bench_model.specs.Edits.{after_edit}
use Rattle.kept_edits.specs.declared.edit.KeptEdit.TheVariants.{Plain}
use Rattle.session_edits.specs.declared.refused.RefusedEdit.{RefusedEdit}
use Rattle.session_edits.specs.Notes.{edit_notes, refused_line}
use Rattle.session_edits.specs.Refused.{refused_at, refused_from}
use Rattle.kept_notes.specs.declared.refused.RefusedKept.{RefusedKept}
use Rattle.kept_notes.specs.declared.refused.RefusedKept.TheVariants as refusals
use Rattle.kept_notes.specs.NoteLaws.{NoneRefusedNothingTold, PlainAreNoted}
use Rattle.kept_notes.specs.Notes.{kept_line, no_call_line}
use Rattle.kept_notes.specs.Refused.{plain_one, refused_kept, refused_kept_from}

plain_lines : (list : List RefusedEdit) → flat_map kept_line (map plain_one list) ≡ flat_map refused_line list
plain_lines [] = refl
plain_lines (refused ∷ list) = ap (λ text. refused_line refused ++ text) (plain_lines list)

plain_noted : (index : ℕ) (session : Session) (edits : List Edit) → flat_map kept_line (refused_kept_from index session (map Plain edits)) ≡ flat_map refused_line
    (refused_from index session edits)
plain_noted index session [] = refl
plain_noted index session (edit ∷ edits) =
    let here = refused_at index session edit in
    let later = refused_kept_from (suc index) (after_edit session edit) (map Plain edits) in
    flat_map-append kept_line (map plain_one here) later
    ∙ ap₂ (λ (one other : List ℕ). one ++ other) (plain_lines here) (plain_noted (suc index) (after_edit session edit) edits)
    ∙ sym (flat_map-append refused_line here (refused_from (suc index) (after_edit session edit) edits))

pub plain_are_noted : PlainAreNoted
unfolding edit_notes
plain_are_noted session edits = plain_noted 0 session edits

-- a line is never empty
line_is_some : (refused : RefusedKept) (rest : List ℕ) → kept_line refused ++ rest ≡ [] → ⊥
unfolding refused_line no_call_line
line_is_some (refusals.Plain refused) rest none = cc none
line_is_some (refusals.Work index at) rest none = cc none

none_told : (list : List RefusedKept) → flat_map kept_line list ≡ [] → list ≡ []
none_told [] none = refl
none_told (refused ∷ list) none = absurd (line_is_some refused (flat_map kept_line list) none)

pub none_refused_nothing_told : NoneRefusedNothingTold
none_refused_nothing_told session edits = (none_told (refused_kept session edits), λ none. ap (flat_map kept_line) none)
