use Rattle.std.proofs.Common.{◌≡◌, string_bytes}
use Rattle.bench_commands.specs.Lines.{IsShownAt}
use Rattle.bench_commands.proofs.Replays.{lines_after}
use Rattle.bench_commands.proofs.output.push_replay.Given as goal

abbrev pub invariant-loop-place : goal.invariant-loop-place
invariant-loop-place l = record {
  lines : string_bytes l.text ≡ lines_after (string_bytes l.fn.text) l.store.session.header l.store.session.steps l.place;
  row : IsShownAt l.store.session l.place l.row.tasks.items (string_bytes l.row.text);
}
