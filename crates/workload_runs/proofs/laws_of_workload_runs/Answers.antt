use Rattle.workload_runs.proofs.Keeps.{next_calls_are_checked, next_is_checked}
use Rattle.workload_runs.proofs.Places.{steps_are_checked}
use Rattle.workload_runs.proofs.Runs.{kernels_are_those_of_steps, run_is_one, steps_are_next, there_is_a_run, too_long_is_longer}
use Rattle.workload_runs.proofs.laws_of_workload_runs.Goals as goal

pub returns-clause-run_is_one : goal.returns-clause-run_is_one
returns-clause-run_is_one c = run_is_one

pub returns-clause-there_is_a_run : goal.returns-clause-there_is_a_run
returns-clause-there_is_a_run c = there_is_a_run

pub returns-clause-too_long_is_longer : goal.returns-clause-too_long_is_longer
returns-clause-too_long_is_longer c = too_long_is_longer

pub returns-clause-steps_are_next : goal.returns-clause-steps_are_next
returns-clause-steps_are_next c = steps_are_next

pub returns-clause-kernels_are_those_of_steps : goal.returns-clause-kernels_are_those_of_steps
returns-clause-kernels_are_those_of_steps c = kernels_are_those_of_steps

pub returns-clause-next_is_checked : goal.returns-clause-next_is_checked
returns-clause-next_is_checked c = next_is_checked

pub returns-clause-next_calls_are_checked : goal.returns-clause-next_calls_are_checked
returns-clause-next_calls_are_checked c = next_calls_are_checked

pub returns-clause-steps_are_checked : goal.returns-clause-steps_are_checked
returns-clause-steps_are_checked c = steps_are_checked
