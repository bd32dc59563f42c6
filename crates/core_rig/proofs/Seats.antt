-- Seats that make no call.
use Rattle.std.proofs.Common.{◌≡◌, ℕ, cond, get_or, eqb, List, [], ◌∷◌, ◌++◌, length, map, Option, None, sym, ap, subst, ◌∙◌, arith, All, append_assoc}
use Rattle.std.proofs.lemmas.List.{map-append}
use Rattle.std.proofs.lemmas.List.Elements.{All-get_or}
use Rattle.std.proofs.Math.Seq.{get_or-append_seam}
use Rattle.std.proofs.lemmas.List.{length-append}
use Rattle.bench_model.specs.History.{made_by, IsLegal}
use Rattle.bench_model.specs.Holds.{depth_by}
use Rattle.history_laws.proofs.KeptOut.{start_free}
use Rattle.history_laws.proofs.Legal.{end_empty, legal_empty}
use Rattle.port_locks.specs.Holds.{hold_after, own_hold}
use Rattle.port_locks.specs.Seats.{SeatView}
use Rattle.recordings.specs.RecordingView.{RecordingView}
use Rattle.core_rig.specs.Resting.{IsNew, IsResting, at_rest, core_view}
use Rattle.core_rig.specs.Seats.{CoreView, depth_at}

-- the seat with these fields of the task word and the interrupt word
abbrev with_words : SeatView RecordingView → ℕ → ℕ → Option RecordingView → SeatView RecordingView
with_words seat task interrupt value = record seat { task_depth = task; interrupt_depth = interrupt; value = value }

pub rests_as : (seat : SeatView RecordingView) (made depth : ℕ) (core : CoreView) → IsResting seat made depth → core_view seat ≡ core → depth_at core ≡ 0 → seat
    ≡ at_rest core
rests_as seat made depth core resting is none =
    let nothing : depth ≡ 0 = resting.holds ∙ ap depth_at is ∙ none in
    let task : seat.task_depth ≡ 0 = resting.task ∙ ap (λ depth. cond {A = ℕ} (eqb depth 0) 0 1) nothing in
    ap (λ task. with_words seat task seat.interrupt_depth seat.value) task
    ∙ ap (λ interrupt. with_words seat 0 interrupt seat.value) resting.interrupt
    ∙ ap (λ value. with_words seat 0 0 value) resting.value
    ∙ ap at_rest is

-- an item of which all is said
pub at_seam : {X : Type 0} (P : X → Type 0) (front rest : List X) (x : X) (items : List X) → items ≡ front ++ x ∷ rest → All P items → P x
at_seam P front rest x items is all =
    subst P (ap (λ xs. get_or xs (length front) x) is ∙ get_or-append_seam front x rest x)
    (All-get_or P items (length front) x (let long = ap length is in omega (arith, long, length-append front (x ∷ rest))) all)

-- one more item that a loop took
pub moved_on : {X : Type 0} (items front rest later : List X) (x : X) → items ≡ front ++ rest → rest ≡ x ∷ later → items ≡ (front ++ x ∷ []) ++ later
moved_on items front rest later x is first = is ∙ ap (λ rest. front ++ rest) first ∙ sym (append_assoc front (x ∷ []) later)

pub mapped_on : {X Y : Type 0} (f : X → Y) (front : List X) (x : X) (done now : List Y) → done ≡ map f front → now ≡ done ++ f x ∷ [] → now ≡ map f
    (front ++ x ∷ [])
mapped_on f front x done now is push = push ∙ ap (λ done. done ++ f x ∷ []) is ∙ sym (map-append f front (x ∷ []))

-- the seat of a core that has seen nothing rests
module _ (seat : SeatView RecordingView) (new : IsNew seat) where
  nothing_held : hold_after seat.terms.header seat.seen ≡ None
  nothing_held = ap (hold_after seat.terms.header) new.seen ∙ ap (λ table. table.hold) (end_empty seat.terms.header) ∙ start_free seat.terms.header

  pub new_rests : IsResting seat 0 0
  new_rests = record {
    passes = new.passes;
    core = new.core;
    interrupt = ap (λ seat. seat.interrupt_depth) new.rests;
    value = ap (λ seat. seat.value) new.rests;
    task = ap (λ seat. seat.task_depth) new.rests;
    holds = sym (ap (depth_by seat.number) nothing_held);
    none = λ _. ap (own_hold seat.number) nothing_held;
    legal = subst (IsLegal seat.terms.header) (sym new.seen) (legal_empty seat.terms.header);
    own = ap (made_by seat.number) new.seen ∙ sym new.made;
    count = sym (ap length new.made);
  }
