-- Whether a replay meets a segment.
use Rattle.std.specs.Prelude.{◌≡◌, ℕ, drop, Option, Some, MatchOption, false, nat_lt, slice_get, count_by, List}
use Rattle.bench_model.specs.Equal.{StandsFor}
use Rattle.bench_model.specs.Lists.{View}
use Rattle.bench_model.specs.Shifted.{is_met, some_delays_until}
use Rattle.bench_model.specs.Table.{Table}
use Rattle.meeting_laws.specs.RunLaws.{MeetBy}
use Rattle.segment_laws.specs.Segments.{SegmentView, all_steps}

-- how many segments have a delay until a tick count
abbrev pub count_delaying : List SegmentView → ℕ
count_delaying segments = count_by (λ segment. some_delays_until segment.steps) segments

-- it is the least index from which on no segment has a delay until a tick count
abbrev pub IsUnreadFrom : List SegmentView → ℕ → Type 0
IsUnreadFrom segments from =
    (index : ℕ) → some_delays_until (all_steps (drop index segments)) ≡ nat_lt index from

-- the kernel meets the segment at the index by so many ticks, or doesn't meet it
abbrev pub IsMeetingAt : List SegmentView → ℕ → View → Option ℕ → Type 0
IsMeetingAt segments index kernel by =
    (segment : SegmentView) (a b : Table) → slice_get segments index ≡ Some segment
    → StandsFor segment.kernel a → StandsFor kernel b →
    MatchOption by (is_met a b (all_steps (drop index segments)) ≡ false)
    (λ by. MeetBy by a b (all_steps (drop index segments)))
