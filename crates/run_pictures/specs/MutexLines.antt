-- The rows of the mutexes: which task holds each.
use Rattle.std.specs.Prelude.{ℕ, ◌+◌, ◌-◌, ◌*◌, List, [], ◌++◌, filter, flat_map, length, codes, decimal, Bool, Option, Some, None, is_some, slice_index_or}
use Rattle.std.specs.List.{list_any}
use Rattle.list_orders.specs.Search.{numbers}
use Rattle.bench_types.specs.declared.header.Header.{Header}
use Rattle.bench_types.specs.Header.{name_of}
use Rattle.run_views.specs.declared.look.Look.{Look}
use Rattle.run_pictures.specs.declared.bar.Letters.TheVariants.{Dark, Small}
use Rattle.run_pictures.specs.declared.frame.Frame.{Frame}
use Rattle.run_pictures.specs.declared.frame.TheConstants.{MUTEX_ROW}
use Rattle.run_pictures.specs.declared.ink.Ink.TheVariants as ink
use Rattle.run_pictures.specs.declared.stretch.Stretch.{Stretch}
use Rattle.run_pictures.specs.Bar.{bar_text, label_text, over_text, word_text}
use Rattle.run_pictures.specs.TaskStretches.{holder_in, holder_stretches}

-- whether a task holds the mutex at a place that is shown
abbrev pub is_taken : List Look → ℕ → Bool
is_taken looks mutex = list_any (λ look. is_some (holder_in mutex look)) looks

-- the mutexes that have a row
abbrev pub taken_mutexes : Header → List Look → List ℕ
taken_mutexes header looks = filter (is_taken looks) (numbers header.config.mutexes)

abbrev pub held_words : Header → ℕ → ℕ → ℕ → ℕ → List ℕ
held_words header mutex first last task =
    over_text first last ++ codes "mutex " ++ decimal mutex ++ codes " held by "
    ++ name_of header task

-- a bar of the colour of the task that holds the mutex, with its name
unfoldable pub held_bar : Header → Frame → ℕ → ℕ → ℕ → ℕ → ℕ → List ℕ
held_bar header frame y mutex first last task =
    bar_text frame (record {
      ink = ink.Taken (task - header.config.cores);
      first = first;
      last = last;
      y = y;
      height = 14;
    }) (held_words header mutex first last task)
    ++ label_text frame Dark first last (y + 11) (name_of header task)

abbrev pub held_part : Header → Frame → ℕ → ℕ → ℕ → ℕ → Option ℕ → List ℕ
held_part header frame y mutex first last None = []
held_part header frame y mutex first last (Some task) =
    held_bar header frame y mutex first last task

-- a stretch at which a task holds the mutex
unfoldable pub holder_bar : Header → Frame → ℕ → ℕ → Stretch (Option ℕ) → List ℕ
holder_bar header frame y mutex stretch =
    held_part header frame y mutex stretch.first stretch.last stretch.value

-- the row of a mutex
unfoldable pub mutex_row : Header → Frame → ℕ → List Look → ℕ → List ℕ
mutex_row header frame y looks mutex =
    word_text Small 8 (y + 11) (codes "mutex " ++ decimal mutex)
    ++ flat_map (holder_bar header frame y mutex) (holder_stretches frame.first looks mutex)

-- the rows of mutexes, one below another
abbrev pub mutex_rows : Header → Frame → ℕ → List Look → List ℕ → List ℕ
mutex_rows header frame y looks mutexes =
    flat_map (λ k. mutex_row header frame (y + MUTEX_ROW * k) looks (slice_index_or mutexes k 0))
    (numbers (length mutexes))

-- the rows of those mutexes that have one
unfoldable pub taken_rows : Header → Frame → ℕ → List Look → List ℕ
taken_rows header frame y looks =
    mutex_rows header frame y looks (taken_mutexes header looks)
