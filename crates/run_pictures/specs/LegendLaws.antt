-- A sign stands in the legend just where a bar of such an ink, or such a mark, is drawn, and that
-- of what is not known where a place that is shown is not.
use Rattle.std.specs.Prelude.{◌≡◌, ◌<◌, ◌≤◌, ℕ, ◌+◌, ◌⊎◌, ◌↔◌, Contains, length, Option, Some, None}
use Rattle.run_views.specs.declared.places.Places.{Places}
use Rattle.run_pictures.specs.declared.bar.Bar.{Bar}
use Rattle.run_pictures.specs.declared.frame.Axis.{Axis}
use Rattle.run_pictures.specs.declared.frame.Scale.{Scale}
use Rattle.run_pictures.specs.declared.ink.Ink.{Ink}
use Rattle.run_pictures.specs.declared.ink.Ink.TheVariants as ink
use Rattle.run_pictures.specs.declared.marks.Mark.{Mark}
use Rattle.run_pictures.specs.declared.marks.Mark.TheVariants as mark
use Rattle.run_pictures.specs.declared.signs.Sign.{Sign}
use Rattle.run_pictures.specs.declared.signs.Sign.TheVariants.{Running, Idle, Ready, Blocked, Suspended, Due, Held, Inherited, PreemptionOff, Taken, Messages, Interrupt, Refused, Unknown}
use Rattle.run_pictures.specs.Bars.{all_bars}
use Rattle.run_pictures.specs.Drawn.{Drawn, IsDrawable}
use Rattle.run_pictures.specs.Marks.{mark_at}
use Rattle.run_pictures.specs.Picture.{shown_alone, shown_at}
use Rattle.run_pictures.specs.Shown.{Shown}
use Rattle.run_pictures.specs.Signs.{signs_of, signs_of_both}

-- The sign of an ink. Ticks have their numbers, and a clear bar is not seen.
abbrev pub sign_of : Ink → Option Sign
sign_of ink.EvenTick = None
sign_of ink.OddTick = None
sign_of ink.Idle = Some Idle
sign_of (ink.Runs user) = Some Running
sign_of (ink.Ready user) = Some Ready
sign_of ink.Waits = Some Blocked
sign_of ink.Suspended = Some Suspended
sign_of ink.Due = Some Due
sign_of ink.Held = Some Held
sign_of ink.Inherited = Some Inherited
sign_of ink.Off = Some PreemptionOff
sign_of (ink.Taken user) = Some Taken
sign_of (ink.Messages count) = Some Messages
sign_of ink.Clear = None

abbrev pub sign_of_mark : Mark → Sign
sign_of_mark mark.Interrupt = Interrupt
sign_of_mark mark.Refused = Refused

-- a bar is drawn of an ink that has the sign
pub record HasBar (shown : Shown) (top : ℕ) (sign : Sign) : Type 0 where
  pub bar : Bar
  pub drawn : Contains (all_bars shown top) bar
  pub so : sign_of bar.ink ≡ Some sign

-- the sign is that of a mark at one of the places that are shown
pub record HasMark (shown : Shown) (sign : Sign) : Type 0 where
  pub k : ℕ
  pub within : k < length shown.run_looks.looks
  pub mark : Mark
  pub made : mark_at shown.run_looks.made k ≡ Some mark
  pub so : sign_of_mark mark ≡ sign

-- the sign is that of what is not known, and one of the places that are shown is not
pub record HasUnknown (shown : Shown) (sign : Sign) : Type 0 where
  pub from : ℕ
  pub known : shown.known ≡ Some from
  pub k : ℕ
  pub within : k < length shown.run_looks.looks
  pub behind : from ≤ shown.frame.first + k
  pub so : sign ≡ Unknown

abbrev pub IsDrawn : Shown → ℕ → Sign → Type 0
IsDrawn shown top sign = HasBar shown top sign ⊎ (HasMark shown sign ⊎ HasUnknown shown sign)

-- wherever the run begins from top to bottom
abbrev pub LegendIsOfRun : Type 0
LegendIsOfRun =
    (places : Places) (axis : Axis) (run : Drawn) (top : ℕ) (sign : Sign) → IsDrawable run
    → let shown = shown_alone places axis run in
    Contains (signs_of shown) sign ↔ IsDrawn shown top sign

-- and of two runs on one axis
abbrev pub LegendIsOfRuns : Type 0
LegendIsOfRuns =
    (places : Places) (axis : Axis) (scale : Scale) (left : ℕ) (before after : Drawn)
    (top below : ℕ) (sign : Sign) → IsDrawable before → IsDrawable after
    → let upper = shown_at places axis scale left before in
    let lower = shown_at places axis scale left after in
    Contains (signs_of_both upper lower) sign
    ↔ (IsDrawn upper top sign ⊎ IsDrawn lower below sign)
