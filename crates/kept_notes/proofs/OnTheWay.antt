-- The edits that are refused, one edit after another.
use Rattle.std.proofs.Common.{◌≡◌, ℕ, suc, ◌+◌, ◌≤◌, ◌<◌, List, [], ◌∷◌, ◌++◌, length, drop, get_or, ap, sym, subst, ◌∙◌, append_assoc, add-one}
use Rattle.std.specs.Prelude.{All}
use Rattle.std.proofs.Math.Seq.{drop-cons}
use Rattle.std.proofs.lemmas.List.{append-nil, drop_all}
use Rattle.std.proofs.lemmas.List.Elements.{All-head, All-tail}
use Rattle.bench_types.specs.declared.header.Header.{Header}
use Rattle.bench_types.specs.Edit.{IsCheckedEdit}
use Rattle.bench_types.specs.Session.{Session}
use Rattle.kept_edits.specs.declared.edit.KeptEdit.{KeptEdit}
use Rattle.kept_edits.specs.declared.edit.KeptEdit.TheVariants.{Plain, Work}
use Rattle.kept_edits.specs.Edits.{plain_edits}
use Rattle.session_edits.proofs.Accepting.{still_checked}
use Rattle.kept_notes.specs.declared.refused.RefusedKept.{RefusedKept}
use Rattle.kept_notes.specs.Refused.{after_kept, refused_kept, refused_kept_at, refused_kept_from, IsCheckedKept}

first_checked : (header : Header) (edit : KeptEdit) (rest : List KeptEdit) → All (IsCheckedEdit header) (plain_edits (edit ∷ rest)) → IsCheckedKept header edit
first_checked header (Plain edit) rest checked = All-head (IsCheckedEdit header) edit (plain_edits rest) checked
first_checked header (Work at change) rest checked = tt

rest_checked : (session : Session) (edit : KeptEdit) (rest : List KeptEdit) → All (IsCheckedEdit session.header) (plain_edits (edit ∷ rest)) → All
    (IsCheckedEdit (after_kept session edit).header) (plain_edits rest)
rest_checked session (Plain edit) rest checked =
    still_checked session edit (plain_edits rest) (All-tail (IsCheckedEdit session.header) edit (plain_edits rest) checked)
rest_checked session (Work at change) rest checked = checked

-- Those that were found, with those of the edits that are left, are all. The edits before them led to the session.
pub record IsOnTheWay (first : Session) (edits : List KeptEdit) (index : ℕ) (now : Session) (found : List RefusedKept) : Type 0 where
  pub checked : All (IsCheckedEdit now.header) (plain_edits (drop index edits))
  pub listed : found ++ refused_kept_from index now (drop index edits) ≡ refused_kept first edits

pub initial : (session : Session) (edits : List KeptEdit) (now : Session) (found : List RefusedKept) → now ≡ session → found ≡ [] → All
    (IsCheckedEdit session.header) (plain_edits edits) → IsOnTheWay session edits 0 now found
initial session edits now found is none checked = record {
  checked = subst (λ (one : Session). All (IsCheckedEdit one.header) (plain_edits edits)) (sym is) checked;
  listed = ap (λ (some : List RefusedKept). some ++ refused_kept_from 0 now edits) none ∙ ap (λ (one : Session). refused_kept_from 0 one edits) is;
}

-- the next edit was checked
pub next_checked : {first : Session} {edits : List KeptEdit} {index : ℕ} {now : Session} {found : List RefusedKept} (d : KeptEdit) → IsOnTheWay first edits index
    now found → index < length edits → IsCheckedKept now.header (get_or edits index d)
next_checked {first} {edits} {index} {now} {found} d way within =
    first_checked now.header (get_or edits index d) (drop (suc index) edits)
    (subst (λ (list : List KeptEdit). All (IsCheckedEdit now.header) (plain_edits list)) (drop-cons edits index d within) way.checked)

pub way_on : {first : Session} {edits : List KeptEdit} {index : ℕ} {now : Session} {found : List RefusedKept} (next : Session) (later : List RefusedKept)
    (d : KeptEdit) → IsOnTheWay first edits index now found → index < length edits → next ≡ after_kept now (get_or edits index d) → later ≡ found ++
    refused_kept_at index now (get_or edits index d) → IsOnTheWay first edits (index + 1) next later
way_on {first} {edits} {index} {now} {found} next later d way within leads tells =
    let edit = get_or edits index d in
    let rest = drop (suc index) edits in
    let here = refused_kept_at index now edit in
    let others = refused_kept_from (suc index) (after_kept now edit) rest in
    let split : drop index edits ≡ edit ∷ rest = drop-cons edits index d within in
    let fits = rest_checked now edit rest (subst (λ (list : List KeptEdit). All (IsCheckedEdit now.header) (plain_edits list)) split way.checked) in
    record {
      checked = rw add-one (subst (λ (one : Session). All (IsCheckedEdit one.header) (plain_edits rest)) (sym leads) fits);
      listed = rw add-one (ap (λ (one : Session). later ++ refused_kept_from (suc index) one rest) leads
          ∙ ap (λ (some : List RefusedKept). some ++ others) tells ∙ append_assoc found here others
          ∙ ap (λ (list : List KeptEdit). found ++ refused_kept_from index now list) (sym split) ∙ way.listed);
    }

-- no edit is left
pub all_listed : {first : Session} {edits : List KeptEdit} {index : ℕ} {now : Session} {found : List RefusedKept} → IsOnTheWay first edits index now found → length
    edits ≤ index → found ≡ refused_kept first edits
all_listed {first} {edits} {index} {now} {found} way past =
    sym (append-nil found)
    ∙ ap (λ (list : List KeptEdit). found ++ refused_kept_from index now list) (sym (drop_all index edits past)) ∙ way.listed
