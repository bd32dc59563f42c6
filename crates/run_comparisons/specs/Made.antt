-- Steps that runs made, as data: equal ones are told in the same words.
use Rattle.std.specs.Prelude.{◌≡◌, ℕ, List, [], slice_index_or, is_some, Option, Some, None}
use Rattle.bench_types.specs.declared.header.Header.{Header}
use Rattle.bench_types.specs.declared.header.TaskArgs.{TaskArgs}
use Rattle.bench_types.specs.Header.{name_of}
use Rattle.run_comparisons.specs.declared.made.MadeStep.{MadeStep}
use Rattle.run_comparisons.specs.Printed.{Words, no_step, printed_of}

-- what is told of the step; nothing where there is none
abbrev pub printed_made : Header → Option MadeStep → Words
printed_made header None = no_step
printed_made header (Some made) = printed_of header made.step made.reply made.tasks.items

-- one step, and it led to the same
pub record AreMadeAlike (made other : MadeStep) : Type 0 where
  pub step : made.step ≡ other.step
  pub reply : made.reply ≡ other.reply
  pub tasks : made.tasks.items ≡ other.tasks.items

-- the name of the user task at the place; none past the last
abbrev pub name_at : List TaskArgs → ℕ → List ℕ
name_at tasks place =
    (slice_index_or tasks place (record { name = []; priority = 0; mask = 0 })).name

-- each task has one name in both, and as many notifications, and both say which queues there are or
-- neither does
pub record AreNamedAlike (header other : Header) : Type 0 where
  pub names : (task : ℕ) → name_of header task ≡ name_of other task
  pub notes : header.config.notes ≡ other.config.notes
  pub queues : is_some header.queues ≡ is_some other.queues
