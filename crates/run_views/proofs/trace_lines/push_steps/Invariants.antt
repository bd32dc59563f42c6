use Rattle.std.proofs.Common.{string_bytes}
use Rattle.run_views.proofs.Runs.{TellsSoFar}
use Rattle.run_views.proofs.trace_lines.push_steps.Given as goal

abbrev pub invariant-loop-place : goal.invariant-loop-place
invariant-loop-place l = TellsSoFar l.places l.interest l.header l.fn.watch.kernel l.steps (string_bytes l.fn.text) l.watch.kernel l.watch.look l.place
    (string_bytes l.text)
