use Rattle.step_laws.proofs.Steps.{after_sound, after_seen, equal_after}
use Rattle.step_laws.proofs.Currents.{step_seats}
use Rattle.order_laws.proofs.SoundSteps.{switch_selects}
use Rattle.step_laws.proofs.laws_of_steps.Goals as goal

pub returns-clause-step_keeps_sound : goal.returns-clause-step_keeps_sound
returns-clause-step_keeps_sound c = λ table step. after_sound step table

pub returns-clause-switch_finds_task : goal.returns-clause-switch_finds_task
returns-clause-switch_finds_task c = switch_selects

pub returns-clause-step_seats_its_core : goal.returns-clause-step_seats_its_core
returns-clause-step_seats_its_core c = step_seats

pub returns-clause-step_simulates : goal.returns-clause-step_simulates
returns-clause-step_simulates c = λ table step. after_seen step table

pub returns-clause-equal_stays_equal : goal.returns-clause-equal_stays_equal
returns-clause-equal_stays_equal c = equal_after
