use Rattle.workload_runs.proofs.CallLaws.{calls_are_those_of_programs, calls_come_at_once, least_core_calls_first}
use Rattle.workload_runs.proofs.Settles.{run_is_settled}
use Rattle.workload_runs.proofs.laws_of_calls_of_programs.Goals as goal

pub returns-clause-calls_are_those_of_programs : goal.returns-clause-calls_are_those_of_programs
returns-clause-calls_are_those_of_programs c = calls_are_those_of_programs

pub returns-clause-least_core_calls_first : goal.returns-clause-least_core_calls_first
returns-clause-least_core_calls_first c = least_core_calls_first

pub returns-clause-calls_come_at_once : goal.returns-clause-calls_come_at_once
returns-clause-calls_come_at_once c = calls_come_at_once

pub returns-clause-run_is_settled : goal.returns-clause-run_is_settled
returns-clause-run_is_settled c = run_is_settled
