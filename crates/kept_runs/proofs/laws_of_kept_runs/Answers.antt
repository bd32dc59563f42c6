use Rattle.kept_runs.proofs.Endings.{beginnings_are_shorter, there_is_a_kept_run}
use Rattle.kept_runs.proofs.Keeping.{kept_run_is_session}
use Rattle.kept_runs.proofs.Limits.{known_until_comes_first}
use Rattle.kept_runs.proofs.Listed.{kept_run_keeps_calls}
use Rattle.kept_runs.proofs.Outsides.{kept_run_keeps_outside}
use Rattle.kept_runs.proofs.Runs.{kept_run_is_one}
use Rattle.kept_runs.proofs.Settles.{kept_refusals_are_answers, kept_run_is_settled}
use Rattle.kept_runs.proofs.Unedited.{unedited_run_is_known, unedited_run_is_settled}
use Rattle.kept_runs.proofs.laws_of_kept_runs.Goals as goal

pub returns-clause-kept_run_is_one : goal.returns-clause-kept_run_is_one
returns-clause-kept_run_is_one c = kept_run_is_one

pub returns-clause-kept_run_keeps_calls : goal.returns-clause-kept_run_keeps_calls
returns-clause-kept_run_keeps_calls c = kept_run_keeps_calls

pub returns-clause-kept_run_keeps_outside : goal.returns-clause-kept_run_keeps_outside
returns-clause-kept_run_keeps_outside c = kept_run_keeps_outside

pub returns-clause-kept_run_is_settled : goal.returns-clause-kept_run_is_settled
returns-clause-kept_run_is_settled c = kept_run_is_settled

pub returns-clause-unedited_run_is_settled : goal.returns-clause-unedited_run_is_settled
returns-clause-unedited_run_is_settled c = unedited_run_is_settled

pub returns-clause-there_is_a_kept_run : goal.returns-clause-there_is_a_kept_run
returns-clause-there_is_a_kept_run c = there_is_a_kept_run

pub returns-clause-beginnings_are_shorter : goal.returns-clause-beginnings_are_shorter
returns-clause-beginnings_are_shorter c = beginnings_are_shorter

pub returns-clause-kept_run_is_session : goal.returns-clause-kept_run_is_session
returns-clause-kept_run_is_session c = kept_run_is_session

pub returns-clause-kept_refusals_are_answers : goal.returns-clause-kept_refusals_are_answers
returns-clause-kept_refusals_are_answers c = kept_refusals_are_answers

pub returns-clause-unedited_run_is_known : goal.returns-clause-unedited_run_is_known
returns-clause-unedited_run_is_known c = unedited_run_is_known

pub returns-clause-known_until_comes_first : goal.returns-clause-known_until_comes_first
returns-clause-known_until_comes_first c = known_until_comes_first
