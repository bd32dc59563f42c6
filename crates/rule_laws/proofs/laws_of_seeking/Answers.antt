use Rattle.order_laws.proofs.AskedCores.{best_core}
use Rattle.rule_laws.proofs.Seeks.{seek_seen, wake_seen, after_switch_seen, sliced_seen, ask_sound, seek_sound, wake_sound, after_switch_sound, sliced_sound}
use Rattle.rule_laws.proofs.laws_of_seeking.Goals as goal

pub returns-clause-best_core_is_asked : goal.returns-clause-best_core_is_asked
returns-clause-best_core_is_asked c = best_core

pub returns-clause-seek_simulates : goal.returns-clause-seek_simulates
returns-clause-seek_simulates c = seek_seen

pub returns-clause-wake_simulates : goal.returns-clause-wake_simulates
returns-clause-wake_simulates c = λ table acting task stamped. wake_seen table acting task stamped.given

pub returns-clause-after_switch_simulates : goal.returns-clause-after_switch_simulates
returns-clause-after_switch_simulates c = after_switch_seen

pub returns-clause-slices_simulate : goal.returns-clause-slices_simulate
returns-clause-slices_simulate c = sliced_seen

pub returns-clause-ask_keeps_consistent : goal.returns-clause-ask_keeps_consistent
returns-clause-ask_keeps_consistent c = ask_sound

pub returns-clause-seek_keeps_consistent : goal.returns-clause-seek_keeps_consistent
returns-clause-seek_keeps_consistent c = seek_sound

pub returns-clause-wake_keeps_consistent : goal.returns-clause-wake_keeps_consistent
returns-clause-wake_keeps_consistent c = wake_sound

pub returns-clause-after_switch_keeps_consistent : goal.returns-clause-after_switch_keeps_consistent
returns-clause-after_switch_keeps_consistent c = after_switch_sound

pub returns-clause-slices_keep_consistent : goal.returns-clause-slices_keep_consistent
returns-clause-slices_keep_consistent c = sliced_sound
