use Rattle.order_laws.proofs.SeenMoves.{is_ready_seen, add_to_ready_seen, pick_seen, delay_seen}
use Rattle.order_laws.proofs.Looks.{look_seen}
use Rattle.std.proofs.Common.{arith}
use Rattle.order_laws.proofs.SeenSteps.{after_select_seen, advance_seen_lem, blocked_seen, lists_of_cores}
use Rattle.rule_laws.proofs.Ticks.{woken_seen}
use Rattle.order_laws.proofs.SoundSteps.{blocked_sound}
use Rattle.step_laws.proofs.laws_of_orders.Goals as goal

pub returns-clause-ready_simulates : goal.returns-clause-ready_simulates
returns-clause-ready_simulates c = λ control stamps task stamped. is_ready_seen control stamps task stamped.given

pub returns-clause-look_simulates : goal.returns-clause-look_simulates
returns-clause-look_simulates c = look_seen

pub returns-clause-ready_at_end_simulates : goal.returns-clause-ready_at_end_simulates
returns-clause-ready_at_end_simulates c = λ control stamps task stamped. add_to_ready_seen control stamps task stamped.given

pub returns-clause-pick_simulates : goal.returns-clause-pick_simulates
returns-clause-pick_simulates c = pick_seen

pub returns-clause-switch_simulates : goal.returns-clause-switch_simulates
returns-clause-switch_simulates c = λ table core sound low. after_select_seen core table sound.stamped
    (sound.in_place.is_task core (omega (arith, sound.sized.cores)))

pub returns-clause-delay_simulates : goal.returns-clause-delay_simulates
returns-clause-delay_simulates c = λ control stamps task ticks wait stamped. delay_seen control stamps task ticks wait stamped.given

pub returns-clause-tick_simulates : goal.returns-clause-tick_simulates
returns-clause-tick_simulates c = advance_seen_lem

pub returns-clause-woken_simulates : goal.returns-clause-woken_simulates
returns-clause-woken_simulates c = λ table tasks stamped below. woken_seen tasks table stamped.given below

pub returns-clause-block_simulates : goal.returns-clause-block_simulates
returns-clause-block_simulates c = λ table core task call ticks wait sound place. blocked_seen core task call ticks wait table sound.stamped.given place.2
    place.3

pub returns-clause-block_keeps_consistent : goal.returns-clause-block_keeps_consistent
returns-clause-block_keeps_consistent c = λ table core task call ticks wait sound place checked user fits there takes. blocked_sound core task call ticks wait
    table sound place checked (omega (arith, sound.sized.cores, user)) fits there takes

pub returns-clause-cores_are_apart : goal.returns-clause-cores_are_apart
returns-clause-cores_are_apart c = λ control acting core stamps. lists_of_cores control _ stamps
