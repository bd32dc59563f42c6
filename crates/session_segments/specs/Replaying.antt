-- Segments that are replayed in place of what they were.
use Rattle.std.specs.Prelude.{◌≡◌, ℕ, ◌-◌, ◌≤◌, List, [], ◌++◌, length, map, take, drop}
use Rattle.bench_types.specs.declared.kernel_data.Settings.{Settings}
use Rattle.bench_model.specs.Table.{Table}
use Rattle.segment_laws.specs.EditedSegments.{AreUnmet, IsMetAt}
use Rattle.segment_laws.specs.Segments.{SegmentView, steps_of, later_segments, Follow}

-- the segment's kernel has these settings
abbrev pub HasSettings : Settings → SegmentView → Type 0
HasSettings settings segment = segment.kernel.settings ≡ settings

-- So many of the segments, replayed from a table on: up to the first that the replay meets, so many
-- ticks later, or to the last.
pub record IsReplayOf (table : Table) (after made : List SegmentView) (count by : ℕ) : Type 0 where
  pub within : count ≤ length after
  pub parts_are : map steps_of made ≡ map steps_of (take count after)
  pub follow : Follow table made
  pub unmet : AreUnmet table [] after count
  pub met : IsMetAt table [] after count by

-- the segments from the first of two indices up to the second became such a replay, and those from
-- there on are as many ticks later
pub record AreReplayedFrom (table : Table) (first : ℕ) (old new : List SegmentView) (end : ℕ)
    : Type 0 where
  pub made : List SegmentView
  pub by : ℕ
  pub order : first ≤ end
  pub replaced : new ≡ take first old ++ made ++ later_segments by (drop end old)
  pub replay : IsReplayOf table (drop first old) made (end - first) by
