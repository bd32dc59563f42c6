-- The worked runs that keep work, computed on the definitions.
use Rattle.bench_model.specs.Notifying.{awaited, interrupted, notify, state_forgotten}
use Rattle.bench_model.specs.Refusals.{would_block}
use Rattle.settled_runs.specs.Settled.{is_open, is_timely, quiet_step}
use Rattle.kept_runs.specs.Clocks.{elapsed, is_before}
use Rattle.kept_runs.specs.Items.{edited_items, settled_place}
use Rattle.kept_runs.specs.Known.{answer_of, is_other_answer, known_until, task_at_end}
use Rattle.kept_runs.specs.Rule.{after, due_calls, first_progress, has_worked, next_step, outside_step, progress_at}
use Rattle.kept_runs.specs.Works.{outside_steps, unmade_calls}
use Rattle.worked_examples.specs.KeptExamples.{WorkedKeptRuns}
use Rattle.worked_examples.proofs.Examples.{computed}
use Rattle.worked_examples.proofs.NoteExamples.{of_notes}

pub kept_runs : WorkedKeptRuns
unfolding computed of_notes notify interrupted state_forgotten awaited would_block is_open is_timely quiet_step elapsed is_before edited_items settled_place
    answer_of is_other_answer known_until task_at_end after due_calls first_progress has_worked next_step outside_step progress_at outside_steps unmade_calls
kept_runs = assumption
