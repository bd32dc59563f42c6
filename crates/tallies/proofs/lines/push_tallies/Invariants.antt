use Rattle.std.proofs.Common.{◌≡◌, ◌++◌, drop, string_bytes}
use Rattle.tallies.specs.Lines.{tally_lines}
use Rattle.tallies.proofs.lines.push_tallies.Given as goal

abbrev pub invariant-loop-task : goal.invariant-loop-task
invariant-loop-task l = string_bytes l.text ++ tally_lines l.header l.task (drop l.task l.tallies) ≡ string_bytes l.initial.text ++ tally_lines l.header 0
    l.tallies
