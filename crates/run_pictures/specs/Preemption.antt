-- Where the preemption of a task is off.
use Rattle.std.specs.Prelude.{ℕ, List, [], ◌++◌, flat_map, map, codes, Bool, if◌then◌else◌}
use Rattle.bench_types.specs.declared.header.Header.{Header}
use Rattle.bench_types.specs.Header.{name_of}
use Rattle.bench_model.specs.SameTest.{are_same_bools}
use Rattle.run_views.specs.declared.look.Look.{Look}
use Rattle.run_pictures.specs.declared.frame.Frame.{Frame}
use Rattle.run_pictures.specs.declared.ink.Ink.TheVariants as ink
use Rattle.run_pictures.specs.declared.stretch.Stretch.{Stretch}
use Rattle.run_pictures.specs.Bar.{bar_text, over_text}
use Rattle.run_pictures.specs.Stances.{status_in}
use Rattle.run_pictures.specs.StretchesOf.{stretches_of}

-- the task's preemption is on
abbrev pub preempt_in : ℕ → Look → Bool
preempt_in task look = (status_in task look).preempt

unfoldable pub preempt_stretches : ℕ → List Look → ℕ → List (Stretch Bool)
preempt_stretches first looks task = stretches_of are_same_bools first (map (preempt_in task) looks)

-- a stretch at which it is off
unfoldable pub off_bar : Header → Frame → ℕ → ℕ → Stretch Bool → List ℕ
off_bar header frame y task stretch =
    if stretch.value then []
    else bar_text frame (record {
      ink = ink.Off;
      first = stretch.first;
      last = stretch.last;
      y = y;
      height = 3;
    }) (over_text stretch.first stretch.last ++ name_of header task ++ codes " preemption off")

unfoldable pub off_bars : Header → Frame → ℕ → List Look → ℕ → List ℕ
off_bars header frame y looks task =
    flat_map (off_bar header frame y task) (preempt_stretches frame.first looks task)
