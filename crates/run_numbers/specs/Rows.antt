-- The rows in which subjects are counted: one for each task, and one for all others.
use Rattle.std.specs.Prelude.{◌≡◌, ℕ, suc, ◌+◌, ◌<◌, ◌≤◌, ◌==◌, min, List, length, if◌then◌else◌, slice_index_or}
use Rattle.std.specs.Option.{option_map_or}
use Rattle.run_numbers.specs.declared.rows.Span.{Span}
use Rattle.run_numbers.specs.declared.subject.Subject.{Subject}
use Rattle.run_numbers.specs.Progress.{subject_in}
use Rattle.run_numbers.specs.Tasks.{task_of}

-- the row of a subject: its task, or how many tasks there are
abbrev pub row_of : ℕ → Subject → ℕ
row_of tasks subject = option_map_or (λ task. min task tasks) (task_of subject) tasks

abbrev pub span_in : List Span → ℕ → Span
span_in spans row = slice_index_or spans row (record { first = 0; end = 0 })

-- the span with a place that is behind all that it has
abbrev pub widened : ℕ → Span → Span
widened place span =
    record { first = if span.end == 0 then place else span.first; end = place + 1 }

-- so many of the subjects stand in the spans of their rows
pub record AreSpansTo (tasks : ℕ) (subjects : List Subject) (place : ℕ) (spans : List Span) :
    Type 0 where
  pub size : length spans ≡ suc tasks
  pub first : (row : ℕ) → row ≤ tasks → (span_in spans row).first ≤ place
  pub end : (row : ℕ) → row ≤ tasks → (span_in spans row).end ≤ place
  pub from : (k : ℕ) → k < place
      → (span_in spans (row_of tasks (subject_in subjects k))).first ≤ k
  pub before : (k : ℕ) → k < place
      → k < (span_in spans (row_of tasks (subject_in subjects k))).end

abbrev pub AreSpans : ℕ → List Subject → List Span → Type 0
AreSpans tasks subjects spans = AreSpansTo tasks subjects (length subjects) spans
