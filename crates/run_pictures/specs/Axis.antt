-- The axis: the places by their numbers, and the tick count at each.
use Rattle.std.specs.Prelude.{ℕ, ◌+◌, ◌%◌, ◌==◌, List, [], ◌++◌, flat_map, length, codes, decimal, Bool, if◌then◌else◌}
use Rattle.list_orders.specs.Search.{numbers}
use Rattle.run_views.specs.declared.look.Look.{Look}
use Rattle.run_pictures.specs.declared.bar.Letters.TheVariants.{Dark, Small}
use Rattle.run_pictures.specs.declared.frame.Axis.{Axis}
use Rattle.run_pictures.specs.declared.frame.Axis.TheVariants.{Places, Ticks, Time}
use Rattle.run_pictures.specs.declared.frame.Frame.{Frame}
use Rattle.run_pictures.specs.declared.stretch.Stretch.{Stretch}
use Rattle.run_pictures.specs.Bar.{bar_text, fits, label_text, name_text, over_text}
use Rattle.run_pictures.specs.Frame.{every, width_between, x_of}
use Rattle.run_pictures.specs.Ink.{tick_ink}
use Rattle.run_pictures.specs.TaskStretches.{tick_stretches}

-- By time a number of the place is written where it fits into the columns of the place; else where
-- the place is one of so many.
abbrev pub is_numbered : Axis → Frame → ℕ → List ℕ → Bool
is_numbered Places frame place words = place % every frame.scale == 0
is_numbered Ticks frame place words = place % every frame.scale == 0
is_numbered Time frame place words =
    fits Small (width_between frame place place) (length words)

-- a number of a place, where that is one of those that are numbered
unfoldable pub place_label : Frame → ℕ → ℕ → ℕ → List ℕ
place_label frame y place number =
    if is_numbered frame.axis frame place (decimal number)
    then codes "<text class='s' x='" ++ decimal (x_of frame place + 2) ++ codes "' y='" ++ decimal y
    ++ codes "'>" ++ decimal number ++ codes "</text>\n"
    else []

-- a stretch of one tick count, with its number
unfoldable pub tick_bar : Frame → ℕ → Stretch ℕ → List ℕ
tick_bar frame y stretch =
    bar_text frame (record {
      ink = tick_ink stretch.value;
      first = stretch.first;
      last = stretch.last;
      y = y;
      height = 14;
    }) (over_text stretch.first stretch.last ++ codes "tick " ++ decimal stretch.value)
    ++ label_text frame Dark stretch.first stretch.last (y + 11) (decimal stretch.value)

-- a thin line through all rows, where a tick begins
unfoldable pub tick_rule : Frame → ℕ → ℕ → Stretch ℕ → List ℕ
tick_rule frame top bottom stretch =
    codes "<path class='g' d='M" ++ decimal (x_of frame stretch.first) ++ codes " " ++ decimal top
    ++ codes "V" ++ decimal bottom ++ codes "'/>\n"

abbrev pub rules_by : Axis → Frame → ℕ → ℕ → List Look → List ℕ
rules_by Places frame top bottom looks = []
rules_by Ticks frame top bottom looks =
    flat_map (tick_rule frame top bottom) (tick_stretches frame.first looks)
rules_by Time frame top bottom looks =
    flat_map (tick_rule frame top bottom) (tick_stretches frame.first looks)

-- each tick is ruled, where the columns stand for ticks or for time
unfoldable pub tick_rules : Frame → ℕ → ℕ → List Look → List ℕ
tick_rules frame top bottom looks = rules_by frame.axis frame top bottom looks

unfoldable pub axis_row : Frame → ℕ → List Look → List ℕ
axis_row frame y looks =
    name_text (y + 11) (codes "place")
    ++ flat_map (λ k. place_label frame (y + 11) (frame.first + k) (frame.first + k))
    (numbers (length looks))
    ++ name_text (y + 27) (codes "tick")
    ++ flat_map (tick_bar frame (y + 16)) (tick_stretches frame.first looks)
