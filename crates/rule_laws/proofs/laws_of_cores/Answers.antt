use Rattle.rule_laws.proofs.ControlFields.{change_apart, change_sound, in_use_seen, in_use_sound}
use Rattle.rule_laws.proofs.CoresAlone.{ask_on, seek_on, wake_on, wait_on, suspend_on, switch_on, slices_on, in_use_on}
use Rattle.rule_laws.proofs.laws_of_cores.Goals as goal

pub returns-clause-change_is_apart : goal.returns-clause-change_is_apart
returns-clause-change_is_apart c = change_apart

pub returns-clause-change_keeps_consistent : goal.returns-clause-change_keeps_consistent
returns-clause-change_keeps_consistent c = change_sound

pub returns-clause-in_use_simulates : goal.returns-clause-in_use_simulates
returns-clause-in_use_simulates c = in_use_seen

pub returns-clause-in_use_keeps_consistent : goal.returns-clause-in_use_keeps_consistent
returns-clause-in_use_keeps_consistent c = in_use_sound

pub returns-clause-ask_on_cores : goal.returns-clause-ask_on_cores
returns-clause-ask_on_cores c = ask_on

pub returns-clause-seek_on_cores : goal.returns-clause-seek_on_cores
returns-clause-seek_on_cores c = seek_on

pub returns-clause-wake_on_cores : goal.returns-clause-wake_on_cores
returns-clause-wake_on_cores c = wake_on

pub returns-clause-wait_on_cores : goal.returns-clause-wait_on_cores
returns-clause-wait_on_cores c = wait_on

pub returns-clause-suspend_on_cores : goal.returns-clause-suspend_on_cores
returns-clause-suspend_on_cores c = suspend_on

pub returns-clause-switch_on_cores : goal.returns-clause-switch_on_cores
returns-clause-switch_on_cores c = switch_on

pub returns-clause-slices_on_cores : goal.returns-clause-slices_on_cores
returns-clause-slices_on_cores c = slices_on

pub returns-clause-in_use_on_cores : goal.returns-clause-in_use_on_cores
returns-clause-in_use_on_cores c = in_use_on
