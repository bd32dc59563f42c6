-- The rows of the queues: how many messages each has.
use Rattle.std.specs.Prelude.{ℕ, ◌+◌, ◌*◌, ◌==◌, List, [], ◌∷◌, ◌++◌, filter, flat_map, length, map, codes, decimal, Bool, not, if◌then◌else◌, slice_index_or, unwrap_or}
use Rattle.std.specs.List.{list_any}
use Rattle.list_orders.specs.Search.{numbers}
use Rattle.bench_types.specs.declared.header.Header.{Header}
use Rattle.bench_types.specs.Header.{queue_count}
use Rattle.run_views.specs.declared.look.Look.{Look}
use Rattle.run_pictures.specs.declared.bar.Letters.TheVariants.{Dark, Small}
use Rattle.run_pictures.specs.declared.frame.Frame.{Frame}
use Rattle.run_pictures.specs.declared.frame.TheConstants.{QUEUE_ROW}
use Rattle.run_pictures.specs.declared.ink.Ink.TheVariants as ink
use Rattle.run_pictures.specs.declared.stretch.Stretch.{Stretch}
use Rattle.run_pictures.specs.declared.style.TheConstants.{QUEUE_STYLE}
use Rattle.run_pictures.specs.Bar.{bar_text, label_text, over_text, word_text}
use Rattle.run_pictures.specs.TaskStretches.{message_stretches, messages_in}

-- some number is another one than the first
abbrev pub do_differ : List ℕ → Bool
do_differ values = list_any (λ value. not (value == slice_index_or values 0 0)) values

-- whether the queue has not the same number of messages at all places that are shown
abbrev pub is_changed : List Look → ℕ → Bool
is_changed looks queue = do_differ (map (messages_in queue) looks)

-- how many queues there are
abbrev pub queues_of : Header → ℕ
queues_of header = unwrap_or (queue_count header) 0

-- the queues that have a row
abbrev pub changed_queues : Header → List Look → List ℕ
changed_queues header looks = filter (is_changed looks) (numbers (queues_of header))

abbrev pub message_words : ℕ → Stretch ℕ → List ℕ
message_words queue stretch =
    over_text stretch.first stretch.last ++ codes "queue " ++ decimal queue ++ codes " messages "
    ++ decimal stretch.value

-- a bar with the number of messages
unfoldable pub filled_bar : Frame → ℕ → ℕ → Stretch ℕ → List ℕ
filled_bar frame y queue stretch =
    bar_text frame (record {
      ink = ink.Messages stretch.value;
      first = stretch.first;
      last = stretch.last;
      y = y;
      height = 14;
    }) (message_words queue stretch)
    ++ label_text frame Dark stretch.first stretch.last (y + 11) (decimal stretch.value)

-- a stretch at which the queue has messages
unfoldable pub message_bar : Frame → ℕ → ℕ → Stretch ℕ → List ℕ
message_bar frame y queue stretch =
    if stretch.value == 0 then [] else filled_bar frame y queue stretch

-- the row of a queue
unfoldable pub queue_row : Frame → ℕ → List Look → ℕ → List ℕ
queue_row frame y looks queue =
    word_text Small 8 (y + 11) (codes "queue " ++ decimal queue)
    ++ flat_map (message_bar frame y queue) (message_stretches frame.first looks queue)

-- the rows of queues, one below another
abbrev pub queue_rows : Frame → ℕ → List Look → List ℕ → List ℕ
queue_rows frame y looks queues =
    flat_map (λ k. queue_row frame (y + QUEUE_ROW * k) looks (slice_index_or queues k 0))
    (numbers (length queues))

-- the colour of their bars, where there are any rows
abbrev pub queue_style : List ℕ → List ℕ
queue_style [] = []
queue_style (queue ∷ queues) = QUEUE_STYLE.now

-- the rows of those queues that have one
unfoldable pub changed_rows : Header → Frame → ℕ → List Look → List ℕ
changed_rows header frame y looks =
    queue_style (changed_queues header looks)
    ++ queue_rows frame y looks (changed_queues header looks)
