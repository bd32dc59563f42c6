-- The edits that are refused, one edit after another.
use Rattle.std.proofs.Common.{◌≡◌, ℕ, suc, ◌+◌, ◌≤◌, ◌<◌, List, [], ◌∷◌, ◌++◌, length, drop, get_or, Ok, ap, sym, ◌∙◌, append_assoc, add-one}
use Rattle.std.proofs.Math.Seq.{drop-cons}
use Rattle.std.proofs.lemmas.List.{append-nil, drop_all}
use Rattle.bench_types.specs.declared.edit.Edit.{Edit}
use Rattle.bench_types.specs.Edit.{edit_check}
use Rattle.bench_types.specs.Session.{Session}
use Rattle.bench_model.specs.Edits.{after_edit}
use Rattle.session_edits.specs.declared.refused.RefusedEdit.{RefusedEdit}
use Rattle.session_edits.specs.Refused.{refused_at, refused_edits, refused_from, untried_from, IsCounted}
use Rattle.session_edits.proofs.Accepting.{still_checked}

-- Those that were found, with those of the edits that are left, are all. There is a session that
-- the edits before them led to.
pub record IsOnTheWay (first : Session) (edits : List Edit) (index steps : ℕ) (found : List RefusedEdit) : Type 0 where
  pub now : Session
  pub counted : IsCounted steps edits now
  pub listed : found ++ refused_from index now (drop index edits) ≡ refused_edits first edits

pub initial : (session : Session) (edits : List Edit) (steps : ℕ) (found : List RefusedEdit) → found ≡ [] → IsCounted steps edits session →
    IsOnTheWay session edits 0 steps found
initial session edits steps found none counted = record {
  now = session;
  counted = counted;
  listed = ap (λ (some : List RefusedEdit). some ++ refused_from 0 session edits) none;
}

-- those of one edit more
found_on : (found later here others all rest : List RefusedEdit) → later ≡ found ++ here → rest ≡ here ++ others → found ++ rest ≡ all → later ++ others ≡ all
found_on found later here others all rest tells split were =
    ap (λ (some : List RefusedEdit). some ++ others) tells
    ∙ append_assoc found here others
    ∙ ap (λ (some : List RefusedEdit). found ++ some) (sym split) ∙ were

pub way_on : {first : Session} {edits : List Edit} {index steps : ℕ} {found : List RefusedEdit} (after : ℕ) (later : List RefusedEdit) (d : Edit) → IsOnTheWay
    first edits index steps found → index < length edits
    → ((session : Session) → length session.steps ≡ steps → edit_check session.header (get_or edits index d) ≡ Ok tt → length
    (after_edit session (get_or edits index d)).steps ≡ after)
    → ((session : Session) → length session.steps ≡ steps → edit_check session.header (get_or edits index d) ≡ Ok tt → later ≡ found ++
    refused_at index session (get_or edits index d))
    → IsOnTheWay first edits (index + 1) after later
way_on {first} {edits} {index} {steps} {found} after later d way within counts tells =
    let edit = get_or edits index d in
    let fits = (way.counted.checked index d within).passes in
    let next = after_edit way.now edit in
    let here = refused_at index way.now edit in
    let others = refused_from (suc index) next (drop (suc index) edits) in
    let rest : drop index edits ≡ edit ∷ drop (suc index) edits = drop-cons edits index d within in
    let split : refused_from index way.now (drop index edits) ≡ here ++ others = ap (λ (list : List Edit). refused_from index way.now list) rest in
    record {
      now = next;
      counted = record { many = counts way.now way.counted.many fits; checked = still_checked way.now edit edits way.counted.checked };
      listed = rw add-one (found_on found later here others _ _ (tells way.now way.counted.many fits) split way.listed);
    }

-- no edit is left
pub all_listed : {first : Session} {edits : List Edit} {index steps : ℕ} {found : List RefusedEdit} → IsOnTheWay first edits index steps found → length edits ≤
    index → found ≡ refused_edits first edits
all_listed {first} {edits} {index} {steps} {found} way past =
    sym (append-nil found)
    ∙ ap (λ (list : List Edit). found ++ refused_from index way.now list) (sym (drop_all index edits past)) ∙ way.listed

-- the same of one edit more that is tried alone
pub alone_on : (session : Session) (edits : List Edit) (index steps : ℕ) (found later all : List RefusedEdit) (d : Edit) → IsCounted steps edits session →
    index < length edits
    → ((one : Session) → length one.steps ≡ steps → edit_check one.header (get_or edits index d) ≡ Ok tt → later ≡ found ++
    refused_at index one (get_or edits index d))
    → found ++ untried_from index session (drop index edits) ≡ all → later ++ untried_from (index + 1) session (drop (index + 1) edits) ≡ all
alone_on session edits index steps found later all d counted within tells were =
    let edit = get_or edits index d in
    let here = refused_at index session edit in
    let others = untried_from (suc index) session (drop (suc index) edits) in
    let rest : drop index edits ≡ edit ∷ drop (suc index) edits = drop-cons edits index d within in
    let split : untried_from index session (drop index edits) ≡ here ++ others = ap (λ (list : List Edit). untried_from index session list) rest in
    rw add-one (found_on found later here others all _ (tells session counted.many (counted.checked index d within).passes) split were)

pub none_alone : (session : Session) (edits : List Edit) (index : ℕ) (found all : List RefusedEdit) → length edits ≤ index → found ++
    untried_from index session (drop index edits) ≡ all → found ≡ all
none_alone session edits index found all past were =
    sym (append-nil found) ∙ ap (λ (list : List Edit). found ++ untried_from index session list) (sym (drop_all index edits past)) ∙ were
