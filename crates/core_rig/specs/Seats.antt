-- Rigs and the seats of their cores as callers see them.
use Rattle.std.specs.Prelude.{◌≡◌, ℕ, List, []}
use Rattle.atomic_table.specs.Seated.{TableId}
use Rattle.bench_types.specs.declared.entry.Entry.{Entry}
use Rattle.bench_model.specs.Holds.{depth_by}
use Rattle.port_locks.specs.declared.view.Terms.{Terms}
use Rattle.port_locks.specs.Holds.{hold_after}
use Rattle.port_locks.specs.Seats.{PairView}
use Rattle.recordings.specs.RecordingView.{RecordingView}

pub record CoreView : Type 0 where
  -- which rig's it is
  pub pair : TableId
  -- the header and the limit of the rig
  pub terms : Terms
  pub core : ℕ
  -- the history as the core last saw it, and the core's own entries
  pub seen : List Entry
  pub made : List Entry

-- the seat is one of the rig's
abbrev pub IsSeatOf : PairView → CoreView → Type 0
IsSeatOf rig seat = (seat.pair ≡ rig.pair) × (seat.terms ≡ rig.terms)

-- one seat, before and after it was used
pub record IsSameSeat (old new : CoreView) : Type 0 where
  pub pair : new.pair ≡ old.pair
  pub terms : new.terms ≡ old.terms
  pub core : new.core ≡ old.core

-- the seat of a core that has seen nothing
abbrev pub new_seat : PairView → ℕ → CoreView
new_seat rig core = record {
  pair = rig.pair;
  terms = rig.terms;
  core = core;
  seen = [];
  made = [];
}

-- the recording that a history is, of the header and the limit
abbrev pub recording_of : Terms → List Entry → RecordingView
recording_of terms history =
    record { header = terms.header; entries = history; limit = terms.limit }

-- how many times over the core holds the kernel
abbrev pub depth_at : CoreView → ℕ
depth_at seat = depth_by seat.core (hold_after seat.terms.header seat.seen)
