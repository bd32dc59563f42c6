-- What a core's seat keeps while the core makes no call.
use Rattle.std.specs.Prelude.{◌≡◌, ℕ, ◌<◌, length, [], None, Ok, ◌==◌, if◌then◌else◌}
use Rattle.bench_types.specs.Header.{header_check}
use Rattle.bench_model.specs.Holds.{depth_by}
use Rattle.bench_model.specs.History.{made_by, IsLegal}
use Rattle.port_locks.specs.Holds.{hold_after, own_hold}
use Rattle.port_locks.specs.Seats.{SeatView}
use Rattle.recordings.specs.RecordingView.{RecordingView}
use Rattle.core_rig.specs.Seats.{CoreView}

-- the core's view of its seat at the lock pair
abbrev pub core_view : SeatView RecordingView → CoreView
core_view seat = record {
  pair = seat.pair;
  terms = seat.terms;
  core = seat.number;
  seen = seat.seen;
  made = seat.made;
}

-- A core owns the task word, once, while it holds the kernel. It does not own the interrupt word.
pub record IsResting (seat : SeatView RecordingView) (made depth : ℕ) : Type 0 where
  pub passes : header_check seat.terms.header ≡ Ok tt
  pub core : seat.number < seat.terms.header.config.cores
  pub interrupt : seat.interrupt_depth ≡ 0
  pub value : seat.value ≡ None
  pub task : seat.task_depth ≡ (if depth == 0 then 0 else 1)
  pub holds : depth ≡ depth_by seat.number (hold_after seat.terms.header seat.seen)
  pub none :
      depth ≡ 0 → own_hold seat.number (hold_after seat.terms.header seat.seen) ≡ None
  pub legal : IsLegal seat.terms.header seat.seen
  pub own : made_by seat.number seat.seen ≡ seat.made
  pub count : made ≡ length seat.made

-- the seat at the lock pair of a core that holds nothing
abbrev pub at_rest : CoreView → SeatView RecordingView
at_rest core = record {
  pair = core.pair;
  terms = core.terms;
  number = core.core;
  task_depth = 0;
  interrupt_depth = 0;
  seen = core.seen;
  made = core.made;
  value = None;
}

-- the seat of a core that has seen nothing
pub record IsNew (seat : SeatView RecordingView) : Type 0 where
  pub passes : header_check seat.terms.header ≡ Ok tt
  pub core : seat.number < seat.terms.header.config.cores
  pub rests : seat ≡ at_rest (core_view seat)
  pub seen : seat.seen ≡ []
  pub made : seat.made ≡ []

-- the core's own entries are those that it made, as far as it has seen
abbrev pub IsOwn : CoreView → Type 0
IsOwn seat = made_by seat.core seat.seen ≡ seat.made
