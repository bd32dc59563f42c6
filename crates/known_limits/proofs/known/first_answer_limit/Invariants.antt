use Rattle.std.proofs.Common.{◌≡◌, List, fold, length, map, None}
use Rattle.bench_types.specs.declared.step.Step.{Step}
use Rattle.bench_types.specs.Session.{Session}
use Rattle.kept_edits.specs.declared.edit.KeptEdit.{KeptEdit}
use Rattle.kept_runs.specs.Items.{edited_items, edited_session}
use Rattle.kept_runs.specs.Known.{earlier}
use Rattle.list_orders.specs.Search.{numbers}
use Rattle.run_answers.specs.Answers.{answer_at}
use Rattle.known_limits.specs.Before.{AreRows}
use Rattle.known_limits.specs.Limits.{answer_limits}
use Rattle.known_limits.proofs.Counts.{AreCounts}
use Rattle.known_limits.proofs.known.first_answer_limit.Given as goal

abbrev pub invariant-loop-place : goal.invariant-loop-place
invariant-loop-place l = record {
  come : AreCounts (length l.rows) l.run l.place l.come.items;
  first :
      (session : Session) (edits : List KeptEdit) (settled : List Step)
      → AreRows session settled (length l.rows) (edited_items session edits) l.rows
      → l.answers ≡ map (answer_at (edited_session session edits).header l.run) (numbers (length l.run))
      → l.first ≡ fold earlier None (answer_limits session edits settled l.run l.place);
}
