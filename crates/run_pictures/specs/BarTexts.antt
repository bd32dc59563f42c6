-- The text of each bar is that of its shape.
use Rattle.std.specs.Prelude.{◌≡◌, ℕ, ◌+◌, ◌-◌, ◌*◌, List, [], ◌++◌, flat_map, codes, decimal, ◌==◌, Bool, Option, Some, None, if◌then◌else◌, slice_get}
use Rattle.bench_types.specs.declared.header.Header.{Header}
use Rattle.bench_types.specs.declared.kernel_data.Hold.{Hold}
use Rattle.bench_types.specs.Header.{name_of}
use Rattle.run_pictures.specs.declared.bar.Bar.{Bar}
use Rattle.run_pictures.specs.declared.bar.Letters.TheVariants.{Dark}
use Rattle.run_pictures.specs.declared.frame.Frame.{Frame}
use Rattle.run_pictures.specs.declared.frame.TheConstants.{CORE_ROW}
use Rattle.run_pictures.specs.declared.pose.Detail.{Detail}
use Rattle.run_pictures.specs.declared.pose.Pose.{Pose}
use Rattle.run_pictures.specs.declared.run_looks.Made.{Made}
use Rattle.run_pictures.specs.declared.shown.Due.{Due}
use Rattle.run_pictures.specs.declared.shown.Priorities.{Priorities}
use Rattle.run_pictures.specs.declared.stretch.Stretch.{Stretch}
use Rattle.bench_types.specs.Step.{core_of}
use Rattle.run_pictures.specs.Axis.{tick_bar}
use Rattle.run_pictures.specs.Bar.{bar_text, label_text, over_text}
use Rattle.run_pictures.specs.Bars.{current_shape, due_shape, held_shape, hold_shape, inherited_shape, messages_shape, off_shape, pose_shape, step_shape, tick_shape}
use Rattle.run_pictures.specs.CoreBands.{core_words, current_bar, due_bar, due_words, hold_bar, hold_words}
use Rattle.run_pictures.specs.Marks.{mark_in, mark_of, step_at, step_words}
use Rattle.run_pictures.specs.MutexLines.{held_words, holder_bar}
use Rattle.run_pictures.specs.Preemption.{off_bar}
use Rattle.run_pictures.specs.QueueLines.{message_bar, message_words}
use Rattle.run_pictures.specs.TaskBands.{inherited_bar, inherited_words, pose_bar, pose_words, stance_label, stance_stretch}

-- each of the bars with these words
abbrev pub bars_text : Frame → List ℕ → List Bar → List ℕ
bars_text frame words bars = flat_map (λ bar. bar_text frame bar words) bars

abbrev pub tick_words : Stretch ℕ → List ℕ
tick_words stretch =
    over_text stretch.first stretch.last ++ codes "tick " ++ decimal stretch.value

abbrev pub off_words : Header → ℕ → Stretch Bool → List ℕ
off_words header task stretch =
    over_text stretch.first stretch.last ++ name_of header task ++ codes " preemption off"

-- what is told of a hold, where there is one
abbrev pub words_of_hold : ℕ → ℕ → Option Hold → List ℕ
words_of_hold first last None = []
words_of_hold first last (Some hold) = hold_words first last hold

abbrev pub words_of_holder : Header → ℕ → ℕ → ℕ → Option ℕ → List ℕ
words_of_holder header mutex first last None = []
words_of_holder header mutex first last (Some task) = held_words header mutex first last task

abbrev pub label_of_holder : Header → Frame → ℕ → ℕ → ℕ → Option ℕ → List ℕ
label_of_holder header frame y first last None = []
label_of_holder header frame y first last (Some task) =
    label_text frame Dark first last (y + 11) (name_of header task)

abbrev pub label_of_messages : Frame → ℕ → Stretch ℕ → List ℕ
label_of_messages frame y stretch =
    if stretch.value == 0 then []
    else label_text frame Dark stretch.first stretch.last (y + 11) (decimal stretch.value)

abbrev pub words_of_step : Header → ℕ → Option Made → List ℕ
words_of_step header place None = []
words_of_step header place (Some made) = step_words header place made.step made.reply

abbrev pub mark_of_step : Header → Frame → ℕ → ℕ → Option Made → List ℕ
mark_of_step header frame top place None = []
mark_of_step header frame top place (Some made) =
    mark_in frame (top + 36 + CORE_ROW * core_of made.step) place
    (step_words header place made.step made.reply) (mark_of made)

-- what is drawn of each stretch, and of each step: the bars, and what stands in or above them
pub record BarsAreDrawn : Type 0 where
  pub tick : (frame : Frame) (y : ℕ) (stretch : Stretch ℕ)
      → tick_bar frame y stretch
      ≡ bars_text frame (tick_words stretch) (tick_shape y stretch)
      ++ label_text frame Dark stretch.first stretch.last (y + 11) (decimal stretch.value)
  pub current : (header : Header) (frame : Frame) (y core : ℕ) (stretch : Stretch ℕ)
      → current_bar header frame y core stretch
      ≡ bars_text frame (core_words header core stretch)
      (current_shape header.config.cores y stretch)
      ++ label_text frame Dark stretch.first stretch.last (y + 27) (name_of header stretch.value)
  pub due : (frame : Frame) (y core : ℕ) (stretch : Stretch Due)
      → due_bar frame y core stretch
      ≡ bars_text frame (due_words core stretch) (due_shape y stretch)
  pub hold : (frame : Frame) (y : ℕ) (stretch : Stretch (Option Hold))
      → hold_bar frame y stretch
      ≡ bars_text frame (words_of_hold stretch.first stretch.last stretch.value)
      (hold_shape y stretch)
  pub pose : (header : Header) (frame : Frame) (y task : ℕ) (detail : Detail)
      (stretch : Stretch Pose)
      → pose_bar header frame y task detail stretch
      ≡ bars_text frame (pose_words header task detail stretch)
      (pose_shape (task - header.config.cores) y stretch)
      ++ stance_label frame y (stance_stretch stretch)
  pub inherited : (header : Header) (frame : Frame) (y task : ℕ) (stretch : Stretch Priorities)
      → inherited_bar header frame y task stretch
      ≡ bars_text frame (inherited_words header task stretch) (inherited_shape y stretch)
  pub off : (header : Header) (frame : Frame) (y task : ℕ) (stretch : Stretch Bool)
      → off_bar header frame y task stretch
      ≡ bars_text frame (off_words header task stretch) (off_shape y stretch)
  pub holder : (header : Header) (frame : Frame) (y mutex : ℕ) (stretch : Stretch (Option ℕ))
      → holder_bar header frame y mutex stretch
      ≡ bars_text frame
      (words_of_holder header mutex stretch.first stretch.last stretch.value)
      (held_shape header.config.cores y stretch)
      ++ label_of_holder header frame y stretch.first stretch.last stretch.value
  pub messages : (frame : Frame) (y queue : ℕ) (stretch : Stretch ℕ)
      → message_bar frame y queue stretch
      ≡ bars_text frame (message_words queue stretch) (messages_shape y stretch)
      ++ label_of_messages frame y stretch
  pub step : (header : Header) (frame : Frame) (top : ℕ) (made : List Made) (k : ℕ)
      → step_at header frame top made k
      ≡ bars_text frame (words_of_step header (frame.first + k) (slice_get made k))
      (step_shape frame.first top made k)
      ++ mark_of_step header frame top (frame.first + k) (slice_get made k)
