-- What an edit that is tried is answered, and how the tallies of segments add up.
use Rattle.std.specs.Prelude.{◌≡◌, ◌⊎◌, ◌↔◌, ◌≤◌, ℕ, false, drop, List, ◌++◌, length, Result, Err, IfOk}
use Rattle.bench_types.specs.declared.edit.Edit.{Edit}
use Rattle.bench_types.specs.declared.edit.EditFault.{EditFault}
use Rattle.bench_types.specs.declared.header.Header.{Header}
use Rattle.bench_types.specs.Limits.{max_steps}
use Rattle.bench_types.specs.Session.{Session, IsSession}
use Rattle.bench_types.specs.Step.{settings_of}
use Rattle.bench_model.specs.Edits.{accepted, edited}
use Rattle.bench_model.specs.Meeting.{CheckpointedSession}
use Rattle.bench_model.specs.Session.{state_after}
use Rattle.bench_model.specs.Shifted.{some_delays_until}
use Rattle.bench_model.specs.Start.{start}
use Rattle.bench_model.specs.Tallied.{part_tallies, shape, shape_of}
use Rattle.bench_model.specs.Table.{Table}
use Rattle.bench_model.specs.Tally.{TaskTally, tallies}
use Rattle.bench_types.specs.declared.step.Step.{Step}
use Rattle.segment_laws.specs.EditedSegments.{AreUnmet, IsMetAt}
use Rattle.segment_laws.specs.Segments.{SegmentView, all_steps, later_segments, Follow}
use Rattle.session_store.specs.declared.fault.StoreFault.{StoreFault}
use Rattle.session_store.specs.declared.fault.StoreFault.TheVariants as fault
use Rattle.session_store.specs.declared.outcome.Outcome.{Outcome}
use Rattle.session_store.specs.Kept.{session_of}
use Rattle.session_store.specs.Outcomes.{outcome_of}

-- how each task fares in the edited session
abbrev pub tallies_after : Edit → Session → List TaskTally
tallies_after edit session = let next = edited edit session in tallies next.header next.steps

-- The answer to an edit that is made of the session alone. It is `NoMemory` where memory was
-- wanting, which an accepted edit may be answered.
pub record IsTried (kept : CheckpointedSession) (edit : Edit)
    (result : Result (Outcome × List TaskTally) StoreFault) : Type 0 where
  pub refused :
      (why : EditFault) → (result ≡ Err (fault.Edit why)) ↔ (accepted kept.session edit ≡ Err why)
  pub outcome : IfOk result (λ tried. tried.0 ≡ outcome_of kept edit)
  pub tallies : IfOk result (λ tried. tried.1 ≡ tallies_after edit kept.session)

-- the tallies of the steps of segments, from the start of a header on
pub record AreTallied (header : Header) (segments : List SegmentView)
    (total : List TaskTally) : Type 0 where
  pub counts : total ≡ part_tallies (settings_of header) (start header) (all_steps segments)
  pub sizes : shape total ≡ shape_of (settings_of header)

-- the same of segments that come after others
pub record AreTalliedFrom (header : Header) (earlier segments : List SegmentView)
    (total : List TaskTally) : Type 0 where
  pub counts :
      total
      ≡ part_tallies (settings_of header) (state_after (start header) (all_steps earlier))
      (all_steps segments)
  pub sizes : shape total ≡ shape_of (settings_of header)

-- the replay of a session that is not too long, from its start in segments
pub record IsReplay (header : Header) (segments : List SegmentView) : Type 0 where
  pub session : IsSession (session_of header segments)
  pub few_steps : length (all_steps segments) ≤ max_steps
  pub follow : Follow (start header) segments

-- the tallies of those segments of a replay that come before these
pub record AreTalliedBefore (total : List TaskTally) (segments : List SegmentView) : Type 0 where
  pub header : Header
  pub earlier : List SegmentView
  pub later : List SegmentView
  pub replay : IsReplay header (earlier ++ segments ++ later)
  pub tallied : AreTallied header earlier total

-- the same of a replay in which these segments are so many ticks later
pub record AreTalliedLater (total : List TaskTally) (segments : List SegmentView) : Type 0 where
  pub by : ℕ
  pub unread : (by ≡ 0) ⊎ (some_delays_until (all_steps segments) ≡ false)
  pub before : AreTalliedBefore total (later_segments by segments)

-- these segments are others so many ticks later
pub record StayLater (later segments : List SegmentView) : Type 0 where
  pub by : ℕ
  pub unread : (by ≡ 0) ⊎ (some_delays_until (all_steps segments) ≡ false)
  pub are : later ≡ later_segments by segments

-- A replay of the steps from a table on and of so many of the segments after them ended at the
-- first of these that it meets, so many ticks later, or after the last.
pub record IsMeeting (table : Table) (steps : List Step) (after : List SegmentView)
    (count : ℕ) : Type 0 where
  pub within : count ≤ length after
  pub by : ℕ
  pub unread : (by ≡ 0) ⊎ (some_delays_until (all_steps (drop count after)) ≡ false)
  pub unmet : AreUnmet table steps after count
  pub met : IsMetAt table steps after count by

-- the tallies of what is replayed in an edited session after its first segments
pub record AreTalliedAfter (front : List SegmentView) (replayed : List TaskTally) : Type 0 where
  pub header : Header
  pub made : List SegmentView
  pub later : List SegmentView
  pub replay : IsReplay header (front ++ made ++ later)
  pub counts :
      replayed
      ≡ part_tallies (settings_of header) (state_after (start header) (all_steps front))
      (all_steps made)
  pub sizes : shape replayed ≡ shape_of (settings_of header)
