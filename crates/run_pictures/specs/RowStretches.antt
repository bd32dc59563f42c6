-- The stretches of what the rows of tasks show.
use Rattle.std.specs.Prelude.{ℕ, ◌+◌, List, [], length, map, Bool, Option}
use Rattle.bench_types.specs.declared.header.Header.{Header}
use Rattle.bench_model.specs.SameTest.{are_same_bools}
use Rattle.list_orders.specs.Search.{numbers}
use Rattle.run_views.specs.declared.look.Look.{Look}
use Rattle.run_pictures.specs.declared.shown.Priorities.{Priorities}
use Rattle.run_pictures.specs.declared.stretch.Stretch.{Stretch}
use Rattle.run_pictures.specs.declared.stance.Stance.{Stance}
use Rattle.run_pictures.specs.declared.task_names.Terms.{Terms}
use Rattle.run_pictures.specs.Preemption.{preempt_in, preempt_stretches}
use Rattle.run_pictures.specs.Same.{are_same_priorities, are_same_stances, are_same_terms}
use Rattle.run_pictures.specs.Stances.{core_of, stance_in}
use Rattle.run_pictures.specs.StretchesOf.{extended}
use Rattle.run_pictures.specs.TaskNames.{terms_in, terms_stretches}
use Rattle.run_pictures.specs.TaskStretches.{priorities_in, priority_stretches, stance_stretches}

-- of each task the first core of which it is the current one
unfoldable pub all_runners : Look → ℕ → List (Option ℕ)
all_runners look tasks = map (λ task. core_of task look.cores) (numbers tasks)

-- what one row shows
pub record Row : Type 0 where
  pub stances : List (Stretch Stance)
  pub priorities : List (Stretch Priorities)
  pub terms : List (Stretch Terms)
  pub preempts : List (Stretch Bool)

-- no place is known
abbrev pub empty_row : Row
empty_row = record { stances = []; priorities = []; terms = []; preempts = [] }

-- the row of the task with one place more in front of it, that of the look
abbrev pub extended_row : ℕ → Look → ℕ → Row → Row
extended_row place look task row = record {
  stances = extended are_same_stances place (stance_in task look) row.stances;
  priorities = extended are_same_priorities place (priorities_in task look) row.priorities;
  terms = extended are_same_terms place (terms_in task look) row.terms;
  preempts = extended are_same_bools place (preempt_in task look) row.preempts;
}

-- the row of the task, where the first look is that of the place
abbrev pub row_of : ℕ → List Look → ℕ → Row
row_of first looks task = record {
  stances = stance_stretches first looks task;
  priorities = priority_stretches first looks task;
  terms = terms_stretches first looks task;
  preempts = preempt_stretches first looks task;
}

-- of each user task
unfoldable pub all_row_stretches : Header → ℕ → List Look → List Row
all_row_stretches header first looks =
    map (λ user. row_of first looks (header.config.cores + user)) (numbers (length header.tasks))
