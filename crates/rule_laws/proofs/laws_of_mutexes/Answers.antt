use Rattle.order_laws.proofs.FirstWaiters.{first_waiter_seen}
use Rattle.order_laws.proofs.Served.{first_is_served}
use Rattle.bench_model.specs.Table.{first_waiter}
use Rattle.order_laws.proofs.SeenMoves.{deadline_left_seen, forget_deadline_seen}
use Rattle.rule_laws.proofs.Mutexes.{inherited_seen, inherited_sound, take_seen, take_sound, give_seen, give_sound}
use Rattle.rule_laws.proofs.Finishes.{finished_seen, finished_sound}
use Rattle.rule_laws.proofs.Mutexes.{after_disinherit_seen, after_disinherit_sound}
use Rattle.std.proofs.Common.{cond, ap, ◌∙◌, arith}
use Rattle.std.specs.Prelude.{is_some}
use Rattle.order_laws.proofs.Revalued.{none_of}
use Rattle.rule_laws.proofs.CoresAlone.{inherited_on, after_disinherit_on}
use Rattle.rule_laws.proofs.laws_of_mutexes.Goals as goal

pub returns-clause-first_waiter_simulates : goal.returns-clause-first_waiter_simulates
returns-clause-first_waiter_simulates c = λ control mutex stamps. first_waiter_seen mutex stamps control

pub returns-clause-first_waiter_is_served_first : goal.returns-clause-first_waiter_is_served_first
unfolding first_waiter
returns-clause-first_waiter_is_served_first c = λ table mutex waiter sound plain. first_is_served table.orders mutex table.orders.waiters waiter
    (sound.mutexes.turns (none_of table.orders.values
    (sound.sized.values ∙ ap (λ queues. cond (is_some queues) table.settings.tasks 0) plain)))

pub returns-clause-deadline_simulates : goal.returns-clause-deadline_simulates
returns-clause-deadline_simulates c = λ control task stamps. deadline_left_seen control stamps task

pub returns-clause-forgetting_simulates : goal.returns-clause-forgetting_simulates
returns-clause-forgetting_simulates c = λ control task stamps. forget_deadline_seen control stamps task

pub returns-clause-inherit_simulates : goal.returns-clause-inherit_simulates
returns-clause-inherit_simulates c = inherited_seen

pub returns-clause-inherit_keeps_consistent : goal.returns-clause-inherit_keeps_consistent
returns-clause-inherit_keeps_consistent c = inherited_sound

pub returns-clause-take_simulates : goal.returns-clause-take_simulates
returns-clause-take_simulates c = take_seen

pub returns-clause-take_keeps_consistent : goal.returns-clause-take_keeps_consistent
returns-clause-take_keeps_consistent c = λ table core task mutex ticks sound place user. take_sound table core task mutex ticks sound place
    (omega (arith, sound.sized.cores, user))

pub returns-clause-finish_simulates : goal.returns-clause-finish_simulates
returns-clause-finish_simulates c = finished_seen

pub returns-clause-finish_keeps_consistent : goal.returns-clause-finish_keeps_consistent
returns-clause-finish_keeps_consistent c = λ table core task call sound place checked user. finished_sound table core task call sound place checked
    (omega (arith, sound.sized.cores, user))

pub returns-clause-give_simulates : goal.returns-clause-give_simulates
returns-clause-give_simulates c = give_seen

pub returns-clause-give_keeps_consistent : goal.returns-clause-give_keeps_consistent
returns-clause-give_keeps_consistent c = give_sound

pub returns-clause-lower_simulates : goal.returns-clause-lower_simulates
returns-clause-lower_simulates c = after_disinherit_seen

pub returns-clause-lower_keeps_consistent : goal.returns-clause-lower_keeps_consistent
returns-clause-lower_keeps_consistent c = after_disinherit_sound

pub returns-clause-inherit_on_cores : goal.returns-clause-inherit_on_cores
returns-clause-inherit_on_cores c = inherited_on

pub returns-clause-lower_on_cores : goal.returns-clause-lower_on_cores
returns-clause-lower_on_cores c = after_disinherit_on
