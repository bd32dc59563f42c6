-- Seats stay usable.
use Rattle.std.proofs.Common.{◌≡◌, ℕ, List, [], ◌∷◌, All, map, None, refl, sym, ap, ◌∙◌, subst, arith}
use Rattle.std.proofs.lemmas.List.Elements.{All-map, All-nil, All-cons}
use Rattle.list_orders.specs.Search.{numbers}
use Rattle.bench_types.specs.declared.header.Header.{Header}
use Rattle.history_laws.proofs.KeptOut.{start_free}
use Rattle.history_laws.proofs.Legal.{end_empty}
use Rattle.port_locks.specs.Holds.{hold_after, own_hold}
use Rattle.port_locks.specs.Made.{new_seat}
use Rattle.port_locks.specs.Seats.{PairView, SeatView}
use Rattle.recordings.specs.RecordingView.{RecordingView}
use Rattle.rig_tests.specs.Use.{IsUsable}

-- no hold is open before the first entry
no_hold : (header : Header) → hold_after header [] ≡ None
no_hold header = ap (λ t. t.hold) (end_empty header) ∙ start_free header

new_usable : (pair : PairView) (number : ℕ) → IsUsable pair (new_seat pair number)
new_usable pair number = record {
  own = (refl, refl);
  unheld = ap (own_hold number) (no_hold pair.terms.header);
  grown = λ some. absurd (omega (arith, some));
}

pub all_usable : (pair : PairView) (cores : ℕ) (seats : List (SeatView RecordingView))
    → seats ≡ map (new_seat pair) (numbers cores)
    → All (IsUsable pair) seats
all_usable pair cores seats are =
    subst (All (IsUsable pair)) (sym are)
    (All-map (IsUsable pair) (new_seat pair) (numbers cores) (λ k d l. new_usable pair _))
