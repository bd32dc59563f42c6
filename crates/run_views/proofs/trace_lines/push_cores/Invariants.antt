use Rattle.std.proofs.Common.{◌≡◌, ◌++◌, drop, string_bytes}
use Rattle.run_views.specs.Trace.{cores_part}
use Rattle.run_views.proofs.trace_lines.push_cores.Given as goal

abbrev pub invariant-loop-core : goal.invariant-loop-core
invariant-loop-core l = string_bytes l.text ++ cores_part l.header l.core (drop l.core l.cores) ≡ string_bytes l.initial.text ++ cores_part l.header 0 l.cores
