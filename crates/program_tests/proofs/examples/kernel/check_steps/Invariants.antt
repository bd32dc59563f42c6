use Rattle.std.proofs.Common.{◌≡◌}
use Rattle.bench_types.specs.Step.{settings_of}
use Rattle.program_tests.proofs.examples.kernel.check_steps.Given as goal

abbrev pub invariant-loop-step : goal.invariant-loop-step
invariant-loop-step g l = l.kernel.settings ≡ settings_of l.header
