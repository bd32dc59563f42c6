-- The end of a pair.
use Rattle.std.specs.Prelude.{◌≡◌, ◌⊎◌, ℕ, ◌<◌, ◌≤◌, List, [], length, Bool, ◌&&◌, ◌==◌, Ok, Err, Result, ⊤, if◌then◌else◌, slice_index_or}
use Rattle.std.specs.List.{count_by, list_all, list_any}
use Rattle.list_orders.specs.Search.{numbers}
use Rattle.bench_types.specs.declared.entry.Entry.{Entry}
use Rattle.bench_model.specs.History.{made_by, StartsWith}
use Rattle.port_locks.specs.declared.fault.CloseFault.{CloseFault}
use Rattle.port_locks.specs.declared.fault.CloseFault.TheVariants.{WrongSeats, Owned}
use Rattle.port_locks.specs.declared.view.Handover.{Handover}
use Rattle.port_locks.specs.declared.view.View.{View}
use Rattle.port_locks.specs.Seats.{SeatView}

-- the view has taken in a seat of that number, with what it had seen and made, or is that seat's
abbrev pub Knows : View → ℕ → List Entry → List Entry → Type 0
Knows v number seen made =
    ((v.number ≡ number) × (v.seen ≡ seen) × (v.made ≡ made))
    ⊎ ((k : ℕ) × (t : Handover) × (k < length v.heard)
    × ((d : Handover) → slice_index_or v.heard k d ≡ t) × (t.number ≡ number) × (t.seen ≡ seen)
    × (t.made ≡ made))

-- the history begins with all that such seats had seen, and has of each just its own entries
abbrev pub IsEnd : View → List Entry → Type 0
IsEnd v history =
    (number : ℕ) (seen made : List Entry) → Knows v number seen made
    → StartsWith history seen × (made_by number history ≡ made)

-- only numbers below the number of cores have entries
abbrev pub HasNoOthers : ℕ → List Entry → Type 0
HasNoOthers cores history = (number : ℕ) → cores ≤ number → made_by number history ≡ []

-- the seat owns neither word
abbrev pub IsFree : {V : Type 0} → SeatView V → Type 0
IsFree seat = (seat.task_depth ≡ 0) × (seat.interrupt_depth ≡ 0)

-- each of the numbers below the number of cores is a seat's
abbrev pub HasAllNumbers : {V : Type 0} → ℕ → List (SeatView V) → Type 0
HasAllNumbers {V} cores seats =
    (number : ℕ) → number < cores
    → (k : ℕ) × (k < length seats)
    × ((d : SeatView V) → (slice_index_or seats k d).number ≡ number)

-- There are as many seats as cores, and each of the numbers below the number of cores is that of
-- just one of them.
abbrev pub HasEachOnce : {V : Type 0} → ℕ → List (SeatView V) → Type 0
HasEachOnce cores seats =
    (length seats ≡ cores)
    × ((number : ℕ) → number < cores
    → count_by (λ seat. seat.number == number) seats ≡ 1)

-- the history begins with all that the seat has seen, and its entries of the seat are its own
abbrev pub IsEndOf : {V : Type 0} → List Entry → SeatView V → Type 0
IsEndOf history seat =
    StartsWith history seat.seen × (made_by seat.number history ≡ seat.made)

abbrev pub has_number : {V : Type 0} → ℕ → List (SeatView V) → Bool
has_number number seats = list_any (λ seat. seat.number == number) seats

-- each of the numbers below the number of cores is found
abbrev pub has_all_numbers : {V : Type 0} → ℕ → List (SeatView V) → Bool
has_all_numbers cores seats = list_all (λ number. has_number number seats) (numbers cores)

abbrev pub is_free : {V : Type 0} → SeatView V → Bool
is_free seat = (seat.task_depth == 0) && (seat.interrupt_depth == 0)

abbrev pub are_free : {V : Type 0} → List (SeatView V) → Bool
are_free seats = list_all is_free seats

-- L4 where the seats' numbers are not those below the number of cores, each once, else L3 where a
-- seat owns a word
abbrev pub close_check : {V : Type 0} → ℕ → List (SeatView V) → Result ⊤ CloseFault
close_check cores seats =
    if (length seats == cores) && has_all_numbers cores seats
    then (if are_free seats then Ok tt else Err Owned) else Err WrongSeats
