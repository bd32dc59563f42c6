use Rattle.settled_runs.proofs.Endings.{there_is_a_settled_run}
use Rattle.settled_runs.proofs.Leavings.{few_are_left}
use Rattle.settled_runs.proofs.Rests.{settled_run_is_at_rest, settled_run_is_session}
use Rattle.settled_runs.proofs.Settlings.{refusals_are_answers, settled_run_is_one, settling_is_settled, settling_keeps_calls, settling_keeps_events}
use Rattle.settled_runs.proofs.laws_of_settled_runs.Goals as goal

pub returns-clause-there_is_a_settled_run : goal.returns-clause-there_is_a_settled_run
returns-clause-there_is_a_settled_run c = there_is_a_settled_run

pub returns-clause-settled_run_is_one : goal.returns-clause-settled_run_is_one
returns-clause-settled_run_is_one c = settled_run_is_one

pub returns-clause-settled_run_is_session : goal.returns-clause-settled_run_is_session
returns-clause-settled_run_is_session c = λ session run left is settled. settled_run_is_session session is run left settled

pub returns-clause-settling_keeps_calls : goal.returns-clause-settling_keeps_calls
returns-clause-settling_keeps_calls c = settling_keeps_calls

pub returns-clause-settling_keeps_events : goal.returns-clause-settling_keeps_events
returns-clause-settling_keeps_events c = settling_keeps_events

pub returns-clause-few_are_left : goal.returns-clause-few_are_left
returns-clause-few_are_left c = few_are_left

pub returns-clause-refusals_are_answers : goal.returns-clause-refusals_are_answers
returns-clause-refusals_are_answers c = refusals_are_answers

pub returns-clause-settled_run_is_at_rest : goal.returns-clause-settled_run_is_at_rest
returns-clause-settled_run_is_at_rest c = settled_run_is_at_rest

pub returns-clause-settling_is_settled : goal.returns-clause-settling_is_settled
returns-clause-settling_is_settled c = settling_is_settled
