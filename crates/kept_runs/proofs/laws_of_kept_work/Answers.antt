use Rattle.kept_runs.proofs.CallLaws.{calls_are_worked_for, calls_come_at_once}
use Rattle.kept_runs.proofs.Orders.{least_core_call_comes_first, oldest_call_comes_first, outside_comes_last}
use Rattle.kept_runs.proofs.laws_of_kept_work.Goals as goal

pub returns-clause-calls_are_worked_for : goal.returns-clause-calls_are_worked_for
returns-clause-calls_are_worked_for c = calls_are_worked_for

pub returns-clause-calls_come_at_once : goal.returns-clause-calls_come_at_once
returns-clause-calls_come_at_once c = calls_come_at_once

pub returns-clause-oldest_call_comes_first : goal.returns-clause-oldest_call_comes_first
returns-clause-oldest_call_comes_first c = oldest_call_comes_first

pub returns-clause-outside_comes_last : goal.returns-clause-outside_comes_last
returns-clause-outside_comes_last c = outside_comes_last

pub returns-clause-least_core_call_comes_first : goal.returns-clause-least_core_call_comes_first
returns-clause-least_core_call_comes_first c = least_core_call_comes_first
