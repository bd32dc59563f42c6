-- The rows of the cores.
use Rattle.std.specs.Prelude.{ℕ, ◌+◌, List, [], ◌++◌, flat_map, codes, decimal, ◌||◌, Option, Some, None, if◌then◌else◌}
use Rattle.bench_types.specs.declared.header.Header.{Header}
use Rattle.bench_types.specs.declared.kernel_data.Hold.{Hold}
use Rattle.bench_types.specs.Header.{name_of}
use Rattle.run_views.specs.declared.look.Look.{Look}
use Rattle.run_views.specs.ChangeWords.{hold_text}
use Rattle.run_views.specs.Trace.{due_text}
use Rattle.run_pictures.specs.declared.shown.Due.{Due}
use Rattle.run_pictures.specs.declared.bar.Letters.TheVariants.{Dark}
use Rattle.run_pictures.specs.declared.frame.Frame.{Frame}
use Rattle.run_pictures.specs.declared.ink.Ink.TheVariants as ink
use Rattle.run_pictures.specs.declared.stretch.Stretch.{Stretch}
use Rattle.run_pictures.specs.Bar.{bar_text, label_text, name_text, over_text}
use Rattle.run_pictures.specs.Ink.{task_ink}
use Rattle.run_pictures.specs.TaskStretches.{current_stretches, due_stretches, hold_stretches}

abbrev pub core_words : Header → ℕ → Stretch ℕ → List ℕ
core_words header core stretch =
    over_text stretch.first stretch.last ++ codes "core " ++ decimal core ++ codes " "
    ++ name_of header stretch.value

-- a stretch of one current task, with its name
unfoldable pub current_bar : Header → Frame → ℕ → ℕ → Stretch ℕ → List ℕ
current_bar header frame y core stretch =
    bar_text frame (record {
      ink = task_ink header.config.cores stretch.value;
      first = stretch.first;
      last = stretch.last;
      y = y + 10;
      height = 24;
    }) (core_words header core stretch)
    ++ label_text frame Dark stretch.first stretch.last (y + 27) (name_of header stretch.value)

abbrev pub due_words : ℕ → Stretch Due → List ℕ
due_words core stretch =
    over_text stretch.first stretch.last ++ codes "core " ++ decimal core
    ++ due_text stretch.value.pend stretch.value.asked

-- a stretch at which the core is due to switch
unfoldable pub due_bar : Frame → ℕ → ℕ → Stretch Due → List ℕ
due_bar frame y core stretch =
    if stretch.value.pend || stretch.value.asked
    then bar_text frame (record {
      ink = ink.Due;
      first = stretch.first;
      last = stretch.last;
      y = y + 10;
      height = 4;
    }) (due_words core stretch)
    else []

abbrev pub hold_words : ℕ → ℕ → Hold → List ℕ
hold_words first last hold = over_text first last ++ codes "held by " ++ hold_text hold

abbrev pub hold_part : Frame → ℕ → ℕ → ℕ → Option Hold → List ℕ
hold_part frame y first last None = []
hold_part frame y first last (Some hold) =
    bar_text frame (record {
      ink = ink.Held;
      first = first;
      last = last;
      y = y + 30;
      height = 4;
    }) (hold_words first last hold)

-- a stretch at which the core holds the kernel
unfoldable pub hold_bar : Frame → ℕ → Stretch (Option Hold) → List ℕ
hold_bar frame y stretch = hold_part frame y stretch.first stretch.last stretch.value

-- the row of a core: a strip for marks, and below it a bar, with lines at its top and its foot
unfoldable pub core_row : Header → Frame → ℕ → List Look → ℕ → List ℕ
core_row header frame y looks core =
    name_text (y + 27) (codes "core " ++ decimal core)
    ++ flat_map (current_bar header frame y core) (current_stretches frame.first looks core)
    ++ flat_map (due_bar frame y core) (due_stretches frame.first looks core)
    ++ flat_map (hold_bar frame y) (hold_stretches frame.first looks core)
