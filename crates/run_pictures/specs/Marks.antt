-- What the steps are: each is told at its place of the axis, and an interrupt or a refusal is
-- marked above the bar of its core.
use Rattle.std.specs.Prelude.{ℕ, ◌+◌, ◌-◌, ◌*◌, ◌/◌, List, [], ◌++◌, flat_map, codes, decimal, Option, Some, None, slice_get, if◌then◌else◌}
use Rattle.std.specs.Option.{option_and_then}
use Rattle.bench_types.specs.declared.header.Header.{Header}
use Rattle.bench_types.specs.declared.reply.Reply.{Reply}
use Rattle.bench_types.specs.declared.step.Step.{Step}
use Rattle.bench_types.specs.declared.step.Step.TheVariants as step
use Rattle.bench_types.specs.Step.{core_of}
use Rattle.run_views.specs.RefusedSteps.{is_refusal}
use Rattle.run_views.specs.ReplyWords.{reply_words}
use Rattle.run_views.specs.StepWords.{step_text}
use Rattle.run_pictures.specs.declared.run_looks.Made.{Made}
use Rattle.run_pictures.specs.declared.frame.Frame.{Frame}
use Rattle.run_pictures.specs.declared.frame.TheConstants.{CORE_ROW}
use Rattle.run_pictures.specs.declared.ink.Ink.TheVariants as ink
use Rattle.run_pictures.specs.declared.marks.Mark.{Mark}
use Rattle.run_pictures.specs.declared.marks.Mark.TheVariants.{Refused, Interrupt}
use Rattle.run_pictures.specs.Bar.{bar_text}
use Rattle.run_pictures.specs.Escape.{escaped}
use Rattle.run_pictures.specs.Frame.{pixels, x_of}

abbrev pub interrupt_mark : Step → Option Mark
interrupt_mark (step.Interrupt core note) = Some Interrupt
interrupt_mark (step.QueueInterrupt core queue direction) = Some Interrupt
interrupt_mark (step.ResumeInterrupt core task) = Some Interrupt
interrupt_mark other = None

-- what is marked of a step
abbrev pub mark_of : Made → Option Mark
mark_of made = if is_refusal made.reply then Some Refused else interrupt_mark made.step

-- the step in the words of a trace, and its reply on a line of its own
abbrev pub step_words : Header → ℕ → Step → Reply → List ℕ
step_words header place step reply =
    codes "step " ++ decimal place ++ codes ": " ++ step_text header step ++ codes "\n"
    ++ reply_words header step reply

abbrev pub path_text : Mark → ℕ → ℕ → List ℕ
path_text Refused x y =
    codes "<path class='x' d='M" ++ decimal x ++ codes " " ++ decimal y
    ++ codes "l8 8m0-8l-8 8'><title>"
path_text Interrupt x y =
    codes "<path class='n' d='M" ++ decimal x ++ codes " " ++ decimal y
    ++ codes "h8l-4 7z'><title>"

-- where a mark of the place begins: its middle is that of the place
abbrev pub middle : Frame → ℕ → ℕ
middle frame place = (x_of frame place + pixels frame.scale 1 / 2) - 4

unfoldable pub mark_text : Frame → ℕ → ℕ → Mark → List ℕ → List ℕ
mark_text frame y place mark words =
    path_text mark (middle frame place) y ++ flat_map escaped words ++ codes "</title></path>\n"

abbrev pub mark_in : Frame → ℕ → ℕ → List ℕ → Option Mark → List ℕ
mark_in frame y place words None = []
mark_in frame y place words (Some mark) = mark_text frame y place mark words

-- the step of a place, told there and marked above the bar of its core
unfoldable pub step_cell : Header → Frame → ℕ → ℕ → Made → List ℕ
step_cell header frame top place made =
    let words = step_words header place made.step made.reply in
    bar_text frame (record {
      ink = ink.Clear;
      first = place;
      last = place;
      y = top;
      height = 14;
    }) words
    ++ mark_in frame (top + 36 + CORE_ROW * core_of made.step) place words (mark_of made)

abbrev pub step_part : Header → Frame → ℕ → ℕ → Option Made → List ℕ
step_part header frame top place None = []
step_part header frame top place (Some made) = step_cell header frame top place made

-- what is marked at the k-th of the places that are shown
abbrev pub mark_at : List Made → ℕ → Option Mark
mark_at made k = option_and_then mark_of (slice_get made k)

-- the step that is made there, if there is one
abbrev pub step_at : Header → Frame → ℕ → List Made → ℕ → List ℕ
step_at header frame top made k = step_part header frame top (frame.first + k) (slice_get made k)
