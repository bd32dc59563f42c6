use Rattle.std.proofs.Common.{◌≡◌, length}
use Rattle.bench_commands.specs.Lines.{AreLabels}
use Rattle.std.specs.Prelude.{map, string_bytes}
use Rattle.bench_commands.proofs.labels.Labels.of_tasks.Given as goal

-- so many texts, each what rows say of its task
abbrev pub invariant-loop-task : goal.invariant-loop-task
invariant-loop-task l = record {
  labels : AreLabels l.header (map string_bytes l.texts.items);
  many : length l.texts.items ≡ l.task;
}
