-- Lock pairs and their seats as callers see them.
use Rattle.std.specs.Prelude.{◌≡◌, ℕ, List, [], ◌∷◌, length, Bool, false, nat_lt, if◌then◌else◌, Option, Some, None, is_some, IfSome}
use Rattle.atomic_table.specs.Seated.{TableId}
use Rattle.bench_types.specs.declared.entry.Entry.{Entry}
use Rattle.bench_model.specs.History.{made_by}
use Rattle.port_locks.specs.declared.view.Terms.{Terms}
use Rattle.port_locks.specs.declared.view.View.{View}
use Rattle.port_locks.specs.Holds.{hold_after, own_hold}
use Rattle.port_locks.specs.Steps.{Finds, MayFollow}

pub record PairView : Type 0 where
  -- which pair it is
  pub pair : TableId
  pub terms : Terms
  pub cores : ℕ

pub record SeatView (V : Type 0) : Type 0 where
  -- which pair's it is
  pub pair : TableId
  pub terms : Terms
  pub number : ℕ
  -- how many times over it has taken each word
  pub task_depth : ℕ
  pub interrupt_depth : ℕ
  -- the history as it last saw it, and its own entries
  pub seen : List Entry
  pub made : List Entry
  -- the value, while it owns the interrupt word
  pub value : Option V

abbrev pub owns : ℕ → Bool
owns depth = nat_lt 0 depth

-- what the fields of a seat keep
pub record IsSeated {V : Type 0} (view : View) (held : List (ℕ × Option V)) (number task_depth : ℕ)
    (interrupt_depth seen : ℕ) (value : Option V) : Type 0 where
  pub kept : view.spent ≡ false
  pub same_number : view.number ≡ number
  pub owns_interrupt : view.owns_interrupt ≡ owns interrupt_depth
  pub holds : view.holds ≡ owns interrupt_depth
  pub owns_task : view.owns_task ≡ owns task_depth
  pub count : length view.seen ≡ seen
  pub slot : held ≡ (if owns interrupt_depth then (0, None) ∷ [] else [])
  pub some : is_some value ≡ owns interrupt_depth

module _ {V : Type 0} where
  -- the seat is one of the pair's
  abbrev pub IsSeatOf : PairView → SeatView V → Type 0
  IsSeatOf pair seat = (seat.pair ≡ pair.pair) × (seat.terms ≡ pair.terms)

  -- the seat's core has no hold open
  abbrev pub HasNoHold : SeatView V → Type 0
  HasNoHold seat = own_hold seat.number (hold_after seat.terms.header seat.seen) ≡ None

  -- the seat with w as its value
  abbrev pub with_value : SeatView V → V → SeatView V
  with_value seat w = record seat { value = Some w }

module _ {V : Type 0} (terms_of : V → Terms) (list_of : V → List Entry) where
  -- The seat has taken the interrupt word, and the value with it. Its entries are what the seat has
  -- seen from then on.
  abbrev pub HasTaken : SeatView V → SeatView V → Type 0
  HasTaken old new =
      (value : V) × (terms_of value ≡ old.terms)
      × (new
      ≡ record old { interrupt_depth = 1; seen = list_of value; value = Some value })
      × Finds old.terms old.number (owns old.task_depth) old.seen old.made (list_of value)

  -- the seat's value may go back: it is of the same terms, and grew by entries of this seat
  abbrev pub MayReturn : SeatView V → Type 0
  MayReturn seat =
      IfSome seat.value
      (λ value. (terms_of value ≡ seat.terms)
      × MayFollow seat.terms seat.number (owns seat.task_depth) seat.seen (list_of value))

module _ {V : Type 0} (list_of : V → List Entry) where
  -- the value is back, and the interrupt word free of the seat
  abbrev pub HasFreed : SeatView V → SeatView V → Type 0
  HasFreed old new =
      IfSome old.value
      (λ value. new
      ≡ record old {
        interrupt_depth = 0;
        seen = list_of value;
        made = made_by old.number (list_of value);
        value = None;
      })
