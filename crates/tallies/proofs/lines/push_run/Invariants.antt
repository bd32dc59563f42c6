use Rattle.std.proofs.Common.{◌≡◌, ◌++◌, take, string_bytes}
use Rattle.tallies.specs.Lines.{run_text}
use Rattle.tallies.proofs.lines.push_run.Given as goal

abbrev pub invariant-loop-ticks : goal.invariant-loop-ticks
invariant-loop-ticks l = string_bytes l.text ≡ string_bytes l.fn.text ++ run_text (take l.ticks-index l.run)
