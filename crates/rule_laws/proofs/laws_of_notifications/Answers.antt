use Rattle.rule_laws.proofs.Notifying.{places_apart, leaves_others, wakes_only_a_waiter, notify_seen, notify_sound, notes_apart, notes_sound}
use Rattle.rule_laws.proofs.laws_of_notifications.Goals as goal

pub returns-clause-places_are_apart : goal.returns-clause-places_are_apart
returns-clause-places_are_apart c = places_apart

pub returns-clause-notify_leaves_others : goal.returns-clause-notify_leaves_others
returns-clause-notify_leaves_others c = leaves_others

pub returns-clause-notify_wakes_only_a_waiter : goal.returns-clause-notify_wakes_only_a_waiter
returns-clause-notify_wakes_only_a_waiter c = wakes_only_a_waiter

pub returns-clause-notify_simulates : goal.returns-clause-notify_simulates
returns-clause-notify_simulates c = notify_seen

pub returns-clause-notify_keeps_consistent : goal.returns-clause-notify_keeps_consistent
returns-clause-notify_keeps_consistent c = notify_sound

pub returns-clause-notes_keep_orders : goal.returns-clause-notes_keep_orders
returns-clause-notes_keep_orders c = notes_apart

pub returns-clause-notes_keep_consistent : goal.returns-clause-notes_keep_consistent
returns-clause-notes_keep_consistent c = notes_sound
