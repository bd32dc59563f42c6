-- What a step leaves as it is for the numbers that it does not concern.
use Rattle.std.proofs.Common.{◌≡◌, ◌≢◌, ℕ, ◌+◌, ◌<◌, ◌≤◌, ◌==◌, List, set, Bool, true, false, sym, ◌∙◌, subst, ⊎_elim, arith}
use Rattle.std.specs.List.{All}
use mathlib.Core.Option.{some}
use lib.ListN.{get_elem?}
use Rattle.atomic_table.proofs.Lists.{at_set}
use Rattle.port_locks.specs.declared.view.Handover.{Handover}
use Rattle.port_locks.specs.declared.view.View.{View}
use Rattle.bench_model.specs.History.{made_by, StartsWith}
use Rattle.port_locks.specs.Holds.{hold_after, own_hold}
use Rattle.port_locks.specs.Locks.{PairState, IsHeard, Fits}
use Rattle.history_laws.proofs.Parts.{begins_through}

pub record Alike (p q : PairState) (N : ℕ → Type 0) : Type 0 where
  pub terms : q.terms ≡ p.terms
  pub place : (n : ℕ) → N n → q.place n ≡ p.place n
  pub given : p.given ≤ q.given
  pub first : N 0 → q.given ≡ p.given
  pub interrupt : (n : ℕ) → N n → (q.interrupt == n + 1) ≡ (p.interrupt == n + 1)
  pub task : (n : ℕ) → N n → (q.task == n + 1) ≡ (p.task == n + 1)
  pub owner : (n : ℕ) → N n → (p.interrupt == n + 1) ≡ true
      → (q.history ≡ p.history) × (q.out ≡ p.out)
  pub history : StartsWith q.history p.history
  pub made : (n : ℕ) → N n → made_by n q.history ≡ made_by n p.history
  pub hold : (n : ℕ) → N n
      → own_hold n (hold_after p.terms.header q.history)
      ≡ own_hold n (hold_after p.terms.header p.history)

module _ (p q : PairState) (N : ℕ → Type 0) (a : Alike p q N) where
  pub heard_alike : (seat : ℕ) (t : Handover) → N t.number → IsHeard p seat t → IsHeard q seat t
  heard_alike seat t n f = record {
    place = a.place t.number n ∙ f.place;
    below = let less = f.below in let more = a.given in omega arith;
    interrupt = a.interrupt t.number n ∙ f.interrupt;
    task = a.task t.number n ∙ f.task;
    seen = begins_through q.history p.history t.seen a.history f.seen;
    made = a.made t.number n ∙ f.made;
  }

  pub all_alike : (seat : ℕ) (ts : List Handover)
      → ((t : Handover) → IsHeard p seat t → N t.number)
      → All (IsHeard p seat) ts → All (IsHeard q seat) ts
  all_alike seat ts numbers all k d l =
      let t = all k d l in heard_alike seat _ (numbers _ t) t

  pub fits_alike : (seat : ℕ) (v : View)
      → ((n : ℕ) (b : Bool) → n < p.given → p.place n ≡ (seat, b) → N n)
      → Fits p seat v → Fits q seat v
  fits_alike seat v numbers f =
      let n : N v.number = numbers v.number true f.below f.place in record {
        place = a.place v.number n ∙ f.place;
        below = let less = f.below in let more = a.given in omega arith;
        terms = f.terms ∙ sym a.terms;
        interrupt = a.interrupt v.number n ∙ f.interrupt;
        holds = f.holds;
        owner = λ own.
            let known = f.owner own in
            let same = a.owner v.number n (f.interrupt ∙ own) in
            (known.0 ∙ sym same.0, known.1 ∙ sym same.1);
        task = a.task v.number n ∙ f.task;
        seen = begins_through q.history p.history v.seen a.history f.seen;
        made = a.made v.number n ∙ f.made;
        hold = held seat v n f;
        first = λ z. f.first z ∙ sym (a.first (subst N z n));
        heard = all_alike seat v.heard (λ t is. numbers t.number false is.below is.place) f.heard;
        heard_once = f.heard_once;
      }
    where
      held : (seat : ℕ) (v : View) → N v.number → Fits p seat v
          → own_hold v.number (hold_after q.terms.header v.seen)
          ≡ own_hold v.number (hold_after q.terms.header q.history)
      held seat v n f =
          subst
          (λ t. own_hold v.number (hold_after t.header v.seen)
          ≡ own_hold v.number (hold_after t.header q.history))
          (sym a.terms)
          (f.hold ∙ sym (a.hold v.number n))

-- a fact of all views, where one has changed
pub views_stay : (K : ℕ → View → Type 0) (views : List View) (me : ℕ) (w : View) → K me w
    → ((seat : ℕ) (u : View) → seat ≢ me → get_elem? views seat ≡ some u → K seat u)
    → (seat : ℕ) (u : View) → get_elem? (set views me w) seat ≡ some u → K seat u
views_stay K views me w mine others seat u e =
    ⊎_elim
    (λ (t : (seat ≡ me) × (w ≡ u)).
    subst (λ (x : ℕ × View). K x.0 x.1) (λ i. (sym t.0 i, t.1 i)) mine)
    (λ (t : (seat ≢ me) × (get_elem? views seat ≡ some u)). others seat u t.0 t.1)
    (at_set views me seat w u e)
