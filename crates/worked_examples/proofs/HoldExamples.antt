-- The worked holds and delays until a tick count, computed on the definitions.
use Rattle.worked_examples.specs.HoldExamples.{WorkedHolds, WorkedUntils}
use Rattle.bench_model.specs.Holds.{hold_opened, hold_closed}
use Rattle.bench_model.specs.Notes.{notified, slot_in, state_cleared}
use Rattle.bench_model.specs.Notifying.{notify, interrupted, state_forgotten}
use Rattle.bench_model.specs.Refusals.{would_block}
use Rattle.bench_model.specs.Steps.{delayed_until}
use Rattle.bench_model.specs.Until.{is_ahead}
use Rattle.worked_examples.proofs.Examples.{computed}

pub holds : WorkedHolds
unfolding computed hold_opened hold_closed would_block delayed_until is_ahead notified slot_in state_cleared notify interrupted state_forgotten
holds = assumption

pub untils : WorkedUntils
unfolding computed would_block delayed_until is_ahead
untils = assumption
