use Rattle.std.proofs.Common.{◌≡◌, List, length, take}
use Rattle.bench_types.specs.declared.step.Step.{Step}
use Rattle.bench_types.specs.Session.{Session}
use Rattle.known_limits.specs.Before.{AreRows, IsBefore}
use Rattle.known_limits.proofs.rows.answers_in_rows.Given as goal

abbrev pub invariant-loop-item : goal.invariant-loop-item
invariant-loop-item l = record {
  many : length l.rows.items ≡ l.tasks;
  rows :
      (session : Session) (settled : List Step) → session.steps ≡ l.document → IsBefore session settled l.places l.answers
      → AreRows session settled l.tasks (take l.item-index l.items) l.rows.items;
}
