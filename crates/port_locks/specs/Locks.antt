-- The rule of a lock pair. Word 0 is the number of entries that are published, word 1 the owner of
-- the interrupt word, word 2 that of the task word: a seat's number and one, or 0. The value lies
-- in the one slot.
use Rattle.std.specs.Prelude.{◌≡◌, ◌≢◌, ℕ, ◌+◌, ◌<◌, ◌≤◌, List, [], ◌∷◌, length, Bool, true, false, ◌==◌, Option, Some, None}
use Rattle.std.specs.List.{All, AllPairs, Any}
use mathlib.Core.Option as maybe
use lib.ListN.{get_elem?}
use Rattle.atomic_table.specs.Table.{State}
use Rattle.bench_types.specs.declared.entry.Entry.{Entry}
use Rattle.port_locks.specs.declared.view.About.{About}
use Rattle.port_locks.specs.declared.view.Handover.{Handover}
use Rattle.port_locks.specs.declared.view.Terms.{Terms}
use Rattle.port_locks.specs.declared.view.View.{View}
use Rattle.bench_model.specs.History.{made_by, StartsWith, IsLegal}
use Rattle.port_locks.specs.Holds.{hold_after, holder_after, own_hold}

-- the pair between two steps
pub record PairState : Type 0 where
  pub terms : Terms
  -- the published history
  pub history : List Entry
  -- how many numbers are given out
  pub given : ℕ
  -- per number the one seat of the table that has it or was told of it, and whether it has it
  pub place : ℕ → ℕ × Bool
  -- the owners of the interrupt word and of the task word
  pub interrupt : ℕ
  pub task : ℕ
  -- the value is out of its slot
  pub out : Bool

-- what a joined seat handed over to the seat there
pub record IsHeard (p : PairState) (seat : ℕ) (t : Handover) : Type 0 where
  pub place : p.place t.number ≡ (seat, false)
  pub below : t.number < p.given
  pub interrupt : (p.interrupt == t.number + 1) ≡ false
  pub task : (p.task == t.number + 1) ≡ false
  pub seen : StartsWith p.history t.seen
  pub made : made_by t.number p.history ≡ t.made

-- what is so of the view of the seat there
pub record Fits (p : PairState) (seat : ℕ) (v : View) : Type 0 where
  pub place : p.place v.number ≡ (seat, true)
  pub below : v.number < p.given
  pub terms : v.terms ≡ p.terms
  pub interrupt : (p.interrupt == v.number + 1) ≡ v.owns_interrupt
  -- a seat that doesn't own the interrupt word doesn't hold the slot
  pub holds : v.owns_interrupt ≡ false → v.holds ≡ false
  -- the owner has seen all that is published, and knows whether the value is out
  pub owner : v.owns_interrupt ≡ true → (v.seen ≡ p.history) × (v.holds ≡ p.out)
  pub task : (p.task == v.number + 1) ≡ v.owns_task
  pub seen : StartsWith p.history v.seen
  pub made : made_by v.number p.history ≡ v.made
  -- nobody but the seat opens or closes its hold
  pub hold :
      own_hold v.number (hold_after p.terms.header v.seen)
      ≡ own_hold v.number (hold_after p.terms.header p.history)
  pub first : v.number ≡ 0 → v.given ≡ p.given
  pub heard : All (IsHeard p seat) v.heard
  -- no two that it was told of have one number
  pub heard_once : AllPairs (λ t u. t.number ≢ u.number) v.heard

-- a view that is not spent fits
abbrev pub FitsIfKept : PairState → ℕ → View → Type 0
FitsIfKept p seat v = v.spent ≡ false → Fits p seat v

-- the number is the view's own, or that of one that it was told of
abbrev pub HasNumber : ℕ → Bool → View → Type 0
HasNumber number true v = v.number ≡ number
HasNumber number false v = Any (λ t. t.number ≡ number) v.heard

-- a view that is not spent has the number, at the place of the number
pub record IsPlaced (place : ℕ × Bool) (views : List View) (number : ℕ) : Type 0 where
  pub view : View
  pub there : get_elem? views place.0 ≡ maybe.some view
  pub kept : view.spent ≡ false
  pub has : HasNumber number place.1 view

-- a view that is not spent has the number as its own, and owns the word
pub record IsOwner (owns : View → Bool) (views : List View) (number : ℕ) : Type 0 where
  pub seat : ℕ
  pub view : View
  pub there : get_elem? views seat ≡ maybe.some view
  pub kept : view.spent ≡ false
  pub same_number : view.number ≡ number
  pub owner : owns view ≡ true

-- the word names the seat whose view owns it, or none
abbrev pub NamesOwner : (View → Bool) → List View → ℕ → Type 0
NamesOwner owns views word = (number : ℕ) → word ≡ number + 1 → IsOwner owns views number

-- each view that is not spent fits
abbrev pub AllFit : PairState → List View → Type 0
AllFit p views = (seat : ℕ) (v : View) → get_elem? views seat ≡ maybe.some v → FitsIfKept p seat v

-- each number that is given out is at its place
abbrev pub AllPlaced : PairState → List View → Type 0
AllPlaced p views = (number : ℕ) → number < p.given → IsPlaced (p.place number) views number

module _ {V : Type 0} (terms_of : V → Terms) (list_of : V → List Entry) where
  -- the value of a slot that is home
  pub record IsHome (p : PairState) (slots : List (maybe.Option (Option V))) : Type 0 where
    pub value : V
    pub slot : slots ≡ maybe.some (Some value) ∷ []
    pub terms : terms_of value ≡ p.terms
    pub list : list_of value ≡ p.history

  pub record Locked (key : About V) (s : State (Option V) View) : Type 0 where
    pub p : PairState
    pub terms : p.terms ≡ terms_of key.first.value
    pub words : s.words ≡ length p.history ∷ p.interrupt ∷ p.task ∷ []
    pub home : p.out ≡ false → IsHome p s.homes
    -- while the value is out, the slot is empty and the interrupt word is owned
    pub away : p.out ≡ true → s.homes ≡ maybe.none ∷ []
    pub owned : p.out ≡ true → p.interrupt ≢ 0
    pub legal : IsLegal p.terms.header p.history
    -- no hold is open before the first entry
    pub start : hold_after p.terms.header [] ≡ None
    -- an open hold is that of the task word's owner
    pub hold : (core : ℕ) → holder_after p.terms.header p.history ≡ Some core → p.task ≡ core + 1
    pub interrupt_given : p.interrupt ≤ p.given
    pub task_given : p.task ≤ p.given
    pub some_given : 0 < p.given
    pub few_given : p.given ≤ key.cores
    -- a number that is not given out has no entries
    pub not_given : (number : ℕ) → p.given ≤ number → made_by number p.history ≡ []
    pub views : AllFit p s.views
    -- each number that is given out is a seat's, or a seat was told of it
    pub placed : AllPlaced p s.views
    -- each word names the seat whose view owns it, or none
    pub interrupt_owner : NamesOwner (λ v. v.owns_interrupt) s.views p.interrupt
    pub task_owner : NamesOwner (λ v. v.owns_task) s.views p.task
