-- Seats over recordings, as tests use them: while no core holds the kernel.
use Rattle.std.specs.Prelude.{◌≡◌, ◌<◌, Some}
use Rattle.bench_model.specs.History.{IsGrowthBy}
use Rattle.recordings.specs.RecordingView.{RecordingView}
use Rattle.port_locks.specs.declared.view.Terms.{Terms}
use Rattle.port_locks.specs.Holds.{hold_after}
use Rattle.port_locks.specs.Seats.{PairView, SeatView, IsSeatOf, HasNoHold}

abbrev pub terms_of : RecordingView → Terms
terms_of view = record { header = view.header; limit = view.limit }

-- the recording grew by entries of the seat that open and close no hold
abbrev pub IsGrown : SeatView RecordingView → RecordingView → Type 0
IsGrown seat view =
    (terms_of view ≡ seat.terms) × IsGrowthBy seat.number seat.seen view.entries
    × (hold_after seat.terms.header view.entries ≡ hold_after seat.terms.header seat.seen)

-- the seat may give up each word that it has taken
pub record IsUsable (pair : PairView) (seat : SeatView RecordingView) : Type 0 where
  pub own : IsSeatOf pair seat
  pub unheld : HasNoHold seat
  pub grown :
      0 < seat.interrupt_depth
      → (view : RecordingView) × (seat.value ≡ Some view) × IsGrown seat view
