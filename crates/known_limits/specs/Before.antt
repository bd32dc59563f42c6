-- Answers of calls before the edits.
use Rattle.std.specs.Prelude.{◌≡◌, ℕ, suc, ◌<◌, Bool, List, [], length, map, filter, slice_get, slice_index_or, Option, option_and_then, option_map}
use Rattle.bench_types.specs.declared.step.Step.{Step}
use Rattle.bench_types.specs.Session.{Session}
use Rattle.kept_runs.specs.Items.{Item, begins_call, settled_place}
use Rattle.kept_runs.specs.Known.{answer_before}
use Rattle.list_orders.specs.Search.{numbers}
use Rattle.run_answers.specs.declared.answer.Answer.{Answer}
use Rattle.run_answers.specs.Answers.{answer_at}
use Rattle.known_limits.specs.Calls.{BeginsBelow}

-- the places of a session's steps in its settled run, and the answers of that run
pub record IsBefore (session : Session) (settled : List Step) (places : List ℕ)
    (answers : List (Option Answer)) : Type 0 where
  pub places_are :
      places ≡ map (settled_place session.steps settled) (numbers (suc (length session.steps)))
  pub answers_are : answers ≡ map (answer_at session.header settled) (numbers (length settled))

-- whether the answer at the place is affirmative, if one is there
abbrev pub affirmative_at : List (Option Answer) → ℕ → Option Bool
affirmative_at answers place =
    option_map (λ answer. answer.affirmative)
    (option_and_then (λ answer. answer) (slice_get answers place))

-- the place of the item's anchor is known
abbrev pub HasAnchor : List ℕ → Item → Type 0
HasAnchor places item = item.anchor < length places

-- the item is no call of another task than of so many
abbrev pub IsCallBelow : ℕ → Item → Type 0
IsCallBelow tasks item = BeginsBelow tasks item.step

-- ---- in rows

-- no answer stands in a row that is none
abbrev pub row_at : List (List (Option Bool)) → ℕ → List (Option Bool)
row_at rows row = slice_index_or rows row []

-- the answer at the index of a row, if one is there
abbrev pub answer_in : List (Option Bool) → ℕ → Option Bool
answer_in row index = option_and_then (λ answer. answer) (slice_get row index)

-- each task has the answers to its calls in a row
pub record AreRows (session : Session) (settled : List Step) (tasks : ℕ) (items : List Item)
    (rows : List (List (Option Bool))) : Type 0 where
  pub many : length rows ≡ tasks
  pub each :
      (task : ℕ) → task < tasks
      → row_at rows task
      ≡ map (answer_before session settled task)
      (filter (λ item. begins_call task item.step) items)
