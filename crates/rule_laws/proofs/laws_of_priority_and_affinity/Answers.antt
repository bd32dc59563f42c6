use Rattle.rule_laws.proofs.PriorityAffinity.{its_core_seen, after_priority_set_seen, after_affinity_set_seen, priority_seen, affinity_seen, off_seen, on_seen}
use Rattle.rule_laws.proofs.PriorityAffinity.{its_core_sound, after_priority_set_sound, after_affinity_set_sound, priority_sound, affinity_sound, off_sound}
use Rattle.rule_laws.proofs.PriorityAffinity.{on_sound}
use Rattle.rule_laws.proofs.laws_of_priority_and_affinity.Goals as goal

pub returns-clause-ask_its_core_simulates : goal.returns-clause-ask_its_core_simulates
returns-clause-ask_its_core_simulates c = its_core_seen

pub returns-clause-yields_after_priority_set_simulates : goal.returns-clause-yields_after_priority_set_simulates
returns-clause-yields_after_priority_set_simulates c = after_priority_set_seen

pub returns-clause-yields_after_affinity_set_simulates : goal.returns-clause-yields_after_affinity_set_simulates
returns-clause-yields_after_affinity_set_simulates c = after_affinity_set_seen

pub returns-clause-priority_set_simulates : goal.returns-clause-priority_set_simulates
returns-clause-priority_set_simulates c = priority_seen

pub returns-clause-affinity_set_simulates : goal.returns-clause-affinity_set_simulates
returns-clause-affinity_set_simulates c = affinity_seen

pub returns-clause-preemption_off_simulates : goal.returns-clause-preemption_off_simulates
returns-clause-preemption_off_simulates c = off_seen

pub returns-clause-preemption_on_simulates : goal.returns-clause-preemption_on_simulates
returns-clause-preemption_on_simulates c = on_seen

pub returns-clause-ask_its_core_keeps_consistent : goal.returns-clause-ask_its_core_keeps_consistent
returns-clause-ask_its_core_keeps_consistent c = its_core_sound

pub returns-clause-yields_after_priority_set_keeps_consistent : goal.returns-clause-yields_after_priority_set_keeps_consistent
returns-clause-yields_after_priority_set_keeps_consistent c = after_priority_set_sound

pub returns-clause-yields_after_affinity_set_keeps_consistent : goal.returns-clause-yields_after_affinity_set_keeps_consistent
returns-clause-yields_after_affinity_set_keeps_consistent c = after_affinity_set_sound

pub returns-clause-priority_set_keeps_consistent : goal.returns-clause-priority_set_keeps_consistent
returns-clause-priority_set_keeps_consistent c = priority_sound

pub returns-clause-affinity_set_keeps_consistent : goal.returns-clause-affinity_set_keeps_consistent
returns-clause-affinity_set_keeps_consistent c = affinity_sound

pub returns-clause-preemption_off_keeps_consistent : goal.returns-clause-preemption_off_keeps_consistent
returns-clause-preemption_off_keeps_consistent c = off_sound

pub returns-clause-preemption_on_keeps_consistent : goal.returns-clause-preemption_on_keeps_consistent
returns-clause-preemption_on_keeps_consistent c = on_sound
