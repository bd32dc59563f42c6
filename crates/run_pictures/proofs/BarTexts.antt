-- The text of each bar is that of its shape.
use Rattle.std.proofs.Common.{◌≡◌, ℕ, ◌+◌, List, [], ◌++◌, Bool, true, false, Option, Some, None, slice_get, refl, sym, ap}
use Rattle.std.specs.Prelude.{decimal, ◌==◌, ◌||◌, not, is_some, if◌then◌else◌}
use Rattle.std.proofs.lemmas.List.{append-nil}
use Rattle.bench_types.specs.declared.header.Header.{Header}
use Rattle.bench_types.specs.declared.kernel_data.Hold.{Hold}
use Rattle.run_pictures.specs.declared.bar.Bar.{Bar}
use Rattle.run_pictures.specs.declared.bar.Letters.TheVariants.{Dark}
use Rattle.run_pictures.specs.declared.frame.Frame.{Frame}
use Rattle.run_pictures.specs.declared.ink.Ink.TheVariants as ink
use Rattle.run_pictures.specs.declared.run_looks.Made.{Made}
use Rattle.run_pictures.specs.declared.shown.Due.{Due}
use Rattle.run_pictures.specs.declared.shown.Priorities.{Priorities}
use Rattle.run_pictures.specs.declared.stretch.Stretch.{Stretch}
use Rattle.run_pictures.specs.Axis.{tick_bar}
use Rattle.run_pictures.specs.Bar.{bar_text, label_text}
use Rattle.run_pictures.specs.Bars.{bar_over, held_over, where_drawn}
use Rattle.run_pictures.specs.BarTexts.{bars_text, label_of_holder, mark_of_step, off_words, words_of_hold, words_of_holder, words_of_step, BarsAreDrawn}
use Rattle.run_pictures.specs.CoreBands.{current_bar, due_bar, due_words, hold_bar, hold_part}
use Rattle.run_pictures.specs.Marks.{step_cell, step_part}
use Rattle.run_pictures.specs.MutexLines.{held_bar, held_part, holder_bar}
use Rattle.run_pictures.specs.Preemption.{off_bar}
use Rattle.run_pictures.specs.QueueLines.{filled_bar, message_bar, message_words}
use Rattle.run_pictures.specs.TaskBands.{inherited_bar, inherited_words, pose_bar}

-- one bar, and what follows it
one_drawn : (frame : Frame) (words rest : List ℕ) (bar : Bar) → bar_text frame bar words ++ rest ≡ (bar_text frame bar words ++ []) ++ rest
one_drawn frame words rest bar = ap (λ text. text ++ rest) (sym (append-nil (bar_text frame bar words)))

when_drawn : (frame : Frame) (words : List ℕ) (bar : Bar) (b : Bool) → (if b then bar_text frame bar words else []) ≡ bars_text frame words (where_drawn b bar)
when_drawn frame words bar true = sym (append-nil (bar_text frame bar words))
when_drawn frame words bar false = refl

unless_drawn : (frame : Frame) (words : List ℕ) (bar : Bar) (b : Bool) → (if b then [] else bar_text frame bar words) ≡ bars_text frame words
    (where_drawn (not b) bar)
unless_drawn frame words bar true = refl
unless_drawn frame words bar false = sym (append-nil (bar_text frame bar words))

due_drawn : (frame : Frame) (y core : ℕ) (stretch : Stretch Due) → due_bar frame y core stretch ≡ bars_text frame (due_words core stretch)
    (where_drawn (stretch.value.pend || stretch.value.asked) (bar_over ink.Due (y + 10) 4 stretch))
unfolding due_bar
due_drawn frame y core stretch = when_drawn frame (due_words core stretch) (bar_over ink.Due (y + 10) 4 stretch) (stretch.value.pend || stretch.value.asked)

hold_drawn : (frame : Frame) (y : ℕ) (stretch : Stretch (Option Hold)) (hold : Option Hold) → hold_part frame y stretch.first stretch.last hold ≡ bars_text frame
    (words_of_hold stretch.first stretch.last hold) (where_drawn (is_some hold) (bar_over ink.Held (y + 30) 4 stretch))
hold_drawn frame y stretch None = refl
hold_drawn frame y stretch (Some hold) = sym (append-nil _)

inherited_drawn : (header : Header) (frame : Frame) (y task : ℕ) (stretch : Stretch Priorities) → inherited_bar header frame y task stretch ≡ bars_text frame
    (inherited_words header task stretch)
    (where_drawn (not (stretch.value.in_use == stretch.value.base)) (bar_over ink.Inherited (y + 20) 3 stretch))
unfolding inherited_bar
inherited_drawn header frame y task stretch =
    unless_drawn frame (inherited_words header task stretch) (bar_over ink.Inherited (y + 20) 3 stretch) (stretch.value.in_use == stretch.value.base)

off_drawn : (header : Header) (frame : Frame) (y task : ℕ) (stretch : Stretch Bool) → off_bar header frame y task stretch ≡ bars_text frame
    (off_words header task stretch) (where_drawn (not stretch.value) (bar_over ink.Off y 3 stretch))
unfolding off_bar
off_drawn header frame y task stretch = unless_drawn frame (off_words header task stretch) (bar_over ink.Off y 3 stretch) stretch.value

holder_drawn : (header : Header) (frame : Frame) (y mutex : ℕ) (stretch : Stretch (Option ℕ)) (holder : Option ℕ)
    → held_part header frame y mutex stretch.first stretch.last holder
    ≡ bars_text frame (words_of_holder header mutex stretch.first stretch.last holder) (held_over header.config.cores y stretch holder)
    ++ label_of_holder header frame y stretch.first stretch.last holder
unfolding held_bar
holder_drawn header frame y mutex stretch None = refl
holder_drawn header frame y mutex stretch (Some task) = one_drawn frame _ _ _

messages_drawn : (frame : Frame) (y queue : ℕ) (stretch : Stretch ℕ) (none : Bool)
    → (if none then [] else filled_bar frame y queue stretch)
    ≡ bars_text frame (message_words queue stretch) (where_drawn (not none) (bar_over (ink.Messages stretch.value) y 14 stretch))
    ++ (if none then [] else label_text frame Dark stretch.first stretch.last (y + 11) (decimal stretch.value))
unfolding filled_bar
messages_drawn frame y queue stretch true = refl
messages_drawn frame y queue stretch false = one_drawn frame _ _ _

step_drawn : (header : Header) (frame : Frame) (top place : ℕ) (made : Option Made)
    → step_part header frame top place made
    ≡ bars_text frame (words_of_step header place made)
    (where_drawn (is_some made) (record { ink = ink.Clear; first = place; last = place; y = top; height = 14 }))
    ++ mark_of_step header frame top place made
unfolding step_cell
step_drawn header frame top place None = refl
step_drawn header frame top place (Some made) = one_drawn frame _ _ _

pub bars_are_drawn : BarsAreDrawn
unfolding tick_bar current_bar hold_bar pose_bar holder_bar message_bar
bars_are_drawn = record {
  tick = λ frame y stretch. one_drawn frame _ _ _;
  current = λ header frame y core stretch. one_drawn frame _ _ _;
  due = due_drawn;
  hold = λ frame y stretch. hold_drawn frame y stretch stretch.value;
  pose = λ header frame y task detail stretch. one_drawn frame _ _ _;
  inherited = inherited_drawn;
  off = off_drawn;
  holder = λ header frame y mutex stretch. holder_drawn header frame y mutex stretch stretch.value;
  messages = λ frame y queue stretch. messages_drawn frame y queue stretch (stretch.value == 0);
  step = λ header frame top made k. step_drawn header frame top (frame.first + k) (slice_get made k);
}
