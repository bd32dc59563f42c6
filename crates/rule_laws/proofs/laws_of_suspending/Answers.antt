use Rattle.order_laws.proofs.Looks.{suspended_seen}
use Rattle.rule_laws.proofs.Suspending.{suspend_rule_seen, resume_rule_seen, interrupt_rule_seen, suspend_rule_sound, resume_rule_sound, suspended_is_suspended, resumed_is_ready, others_stay, notify_wakes_none, none_is_due, none_is_served}
use Rattle.rule_laws.proofs.laws_of_suspending.Goals as goal

pub returns-clause-suspension_is_seen : goal.returns-clause-suspension_is_seen
returns-clause-suspension_is_seen c = suspended_seen

pub returns-clause-suspend_simulates : goal.returns-clause-suspend_simulates
returns-clause-suspend_simulates c = suspend_rule_seen

pub returns-clause-resume_simulates : goal.returns-clause-resume_simulates
returns-clause-resume_simulates c = resume_rule_seen

pub returns-clause-interrupt_simulates : goal.returns-clause-interrupt_simulates
returns-clause-interrupt_simulates c = interrupt_rule_seen

pub returns-clause-suspend_keeps_consistent : goal.returns-clause-suspend_keeps_consistent
returns-clause-suspend_keeps_consistent c = λ table acting task sound user low. suspend_rule_sound table acting task sound low user

pub returns-clause-resume_keeps_consistent : goal.returns-clause-resume_keeps_consistent
returns-clause-resume_keeps_consistent c = resume_rule_sound

pub returns-clause-suspended_is_suspended : goal.returns-clause-suspended_is_suspended
returns-clause-suspended_is_suspended c = suspended_is_suspended

pub returns-clause-resumed_is_ready : goal.returns-clause-resumed_is_ready
returns-clause-resumed_is_ready c = resumed_is_ready

pub returns-clause-others_are_not_resumed : goal.returns-clause-others_are_not_resumed
returns-clause-others_are_not_resumed c = others_stay

pub returns-clause-notify_wakes_no_suspended : goal.returns-clause-notify_wakes_no_suspended
returns-clause-notify_wakes_no_suspended c = notify_wakes_none

pub returns-clause-no_suspended_is_due : goal.returns-clause-no_suspended_is_due
returns-clause-no_suspended_is_due c = none_is_due

pub returns-clause-no_suspended_is_served : goal.returns-clause-no_suspended_is_served
returns-clause-no_suspended_is_served c = none_is_served
