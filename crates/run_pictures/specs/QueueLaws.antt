-- What the rows of queues tell is so, and tells all.
use Rattle.std.specs.Prelude.{◌≡◌, ◌<◌, ◌≤◌, ℕ, List, Contains, length, slice_index_or}
use Rattle.bench_types.specs.declared.header.Header.{Header}
use Rattle.bench_types.specs.declared.step.Step.{Step}
use Rattle.bench_model.specs.Queues.{queue_at}
use Rattle.bench_model.specs.Session.{state_at}
use Rattle.run_views.specs.declared.places.Places.{Places}
use Rattle.run_pictures.specs.declared.bar.Bar.{Bar}
use Rattle.run_pictures.specs.declared.frame.Axis.{Axis}
use Rattle.run_pictures.specs.declared.frame.Scale.{Scale}
use Rattle.run_pictures.specs.declared.ink.Ink.TheVariants as ink
use Rattle.run_pictures.specs.Bars.{changed_bars}
use Rattle.run_pictures.specs.Drawn.{Drawn, IsDrawable}
use Rattle.run_pictures.specs.Picture.{shown_at}
use Rattle.run_pictures.specs.QueueLines.{changed_queues}
use Rattle.run_pictures.specs.RunLooks.{shown_places}
use Rattle.run_pictures.specs.Shown.{Shown}

-- how many messages the queue has at the place of the replay
abbrev pub messages_at : Header → List Step → ℕ → ℕ → ℕ
messages_at header steps queue place =
    (queue_at (state_at header steps place).queues queue).messages

-- the bar is over the place
abbrev pub Covers : Bar → ℕ → Type 0
Covers bar place = (bar.first ≤ place) × (place ≤ bar.last)

-- one of the bars is over the place
pub record IsCovered (bars : List Bar) (place : ℕ) : Type 0 where
  pub bar : Bar
  pub drawn : Contains bars bar
  pub covers : Covers bar place

-- At each place that one of the bars covers the queue has as many messages as the bar stands for,
-- and at each place that is shown and at which it has some one of the bars covers the place.
pub record TellMessages (places : Places) (header : Header) (steps : List Step) (queue : ℕ)
    (bars : List Bar) : Type 0 where
  pub told : (bar : Bar) (place : ℕ) → Contains bars bar → Covers bar place
      → bar.ink ≡ ink.Messages (messages_at header steps queue place)
  pub all : (place : ℕ) → Contains (shown_places places steps) place
      → 0 < messages_at header steps queue place → IsCovered bars place

-- the bars of each row of a queue are those of its queue
abbrev pub RowsAreSo : Places → Header → List Step → Shown → ℕ → Type 0
RowsAreSo places header steps shown top =
    (k : ℕ) → k < length (changed_queues header shown.run_looks.looks)
    → TellMessages places header steps
    (slice_index_or (changed_queues header shown.run_looks.looks) k 0)
    (changed_bars shown top k)

-- wherever the run begins from top to bottom, alone or as one of two
abbrev pub QueueRowsAreSo : Type 0
QueueRowsAreSo =
    (places : Places) (axis : Axis) (scale : Scale) (left : ℕ) (run : Drawn) (top : ℕ)
    → IsDrawable run
    → RowsAreSo places run.header run.steps (shown_at places axis scale left run) top
