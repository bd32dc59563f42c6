-- No bar stands outside its row or beside the columns, and none over another of its kind in a row.
use Rattle.std.specs.Prelude.{◌<◌, ◌≤◌, ℕ, suc, ◌+◌, List, [], ◌∷◌, length, All}
use Rattle.run_views.specs.declared.places.Places.{Places}
use Rattle.run_pictures.specs.declared.bar.Bar.{Bar}
use Rattle.run_pictures.specs.declared.frame.Axis.{Axis}
use Rattle.run_pictures.specs.declared.frame.Frame.{Frame}
use Rattle.run_pictures.specs.declared.frame.TheConstants.{CORE_ROW, MUTEX_ROW, QUEUE_ROW, TASK_ROW}
use Rattle.run_pictures.specs.Bars.{changed_bars, core_top, current_bars, due_bars, hold_bars, inherited_bars, mutex_top, off_bars, pose_bars, queue_top, step_bars, taken_bars, task_top, tick_bars}
use Rattle.run_pictures.specs.Drawn.{Drawn}
use Rattle.run_pictures.specs.Frame.{column_of, pixels, scale_for, width_between, x_of}
use Rattle.run_pictures.specs.MutexLines.{taken_mutexes}
use Rattle.run_pictures.specs.Picture.{count_of, count_of_both, left_of, shown_alone, shown_at}
use Rattle.run_pictures.specs.QueueLines.{changed_queues}
use Rattle.run_pictures.specs.Shown.{Shown}

-- Between these two the bars stand one behind another: each begins where the one before it ends, or
-- behind that.
abbrev pub StandApart : Frame → ℕ → ℕ → List Bar → Type 0
StandApart frame left right [] = left ≤ right
StandApart frame left right (bar ∷ bars) =
    (left ≤ x_of frame bar.first)
    × StandApart frame (x_of frame bar.first + width_between frame bar.first bar.last) right bars

-- from top to bottom the bar is within a row of that height
pub record IsWithinRow (top height : ℕ) (bar : Bar) : Type 0 where
  pub above : top ≤ bar.y
  pub below : bar.y + bar.height ≤ top + height

-- the columns begin behind the names of the rows
abbrev pub columns_begin : ℕ
columns_begin = 150

-- the bars of one kind in a row
pub record FillRow (frame : Frame) (right top height : ℕ) (bars : List Bar) : Type 0 where
  pub apart : StandApart frame columns_begin right bars
  pub within : All (IsWithinRow top height) bars

-- each kind of bar in each row; rows have the height by which the next row is lower
pub record AreLaidOut (shown : Shown) (top right : ℕ) : Type 0 where
  pub ticks : FillRow shown.frame right top 36 (tick_bars shown top)
  pub steps : FillRow shown.frame right top 36 (step_bars shown top)
  pub currents : (core : ℕ) → core < shown.header.config.cores
      → FillRow shown.frame right (core_top top core) CORE_ROW (current_bars shown top core)
  pub dues : (core : ℕ) → core < shown.header.config.cores
      → FillRow shown.frame right (core_top top core) CORE_ROW (due_bars shown top core)
  pub holds : (core : ℕ) → core < shown.header.config.cores
      → FillRow shown.frame right (core_top top core) CORE_ROW (hold_bars shown top core)
  pub poses : (user : ℕ) → user < length shown.header.tasks
      → FillRow shown.frame right (task_top shown top user) TASK_ROW (pose_bars shown top user)
  pub inherited : (user : ℕ) → user < length shown.header.tasks
      → FillRow shown.frame right (task_top shown top user) TASK_ROW
      (inherited_bars shown top user)
  pub offs : (user : ℕ) → user < length shown.header.tasks
      → FillRow shown.frame right (task_top shown top user) TASK_ROW (off_bars shown top user)
  pub taken : (k : ℕ) → k < length (taken_mutexes shown.header shown.run_looks.looks)
      → FillRow shown.frame right (mutex_top shown top k) MUTEX_ROW (taken_bars shown top k)
  pub changed : (k : ℕ) → k < length (changed_queues shown.header shown.run_looks.looks)
      → FillRow shown.frame right (queue_top shown top k) QUEUE_ROW (changed_bars shown top k)

-- no place of the run, nor the end behind the last one, begins at an earlier column than one before
abbrev pub Climb : Drawn → Type 0
Climb run = (p q : ℕ) → p ≤ q → q ≤ suc (length run.steps)
    → column_of run.columns p ≤ column_of run.columns q

-- the columns end so far to the right
abbrev pub columns_end : Shown → ℕ → ℕ
columns_end shown count = columns_begin + pixels shown.frame.scale count

abbrev pub RunIsLaidOut : Type 0
RunIsLaidOut =
    (places : Places) (axis : Axis) (run : Drawn) (top : ℕ) → Climb run
    → let shown = shown_alone places axis run in
    AreLaidOut shown top (columns_end shown (count_of places run))

abbrev pub RunsAreLaidOut : Type 0
RunsAreLaidOut =
    (places : Places) (axis : Axis) (before after : Drawn) (top below : ℕ)
    → Climb before → Climb after
    → let count = count_of_both places before after in
    let scale = scale_for count in
    let left = left_of places before after in
    let upper = shown_at places axis scale left before in
    let lower = shown_at places axis scale left after in
    AreLaidOut upper top (columns_end upper count)
    × AreLaidOut lower below (columns_end lower count)
