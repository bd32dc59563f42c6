use Rattle.run_sources.proofs.SourceRuns.{faults_are_true, source_run_is_one, source_run_is_session, source_too_long_is_longer, there_is_a_run_of_source}
use Rattle.run_sources.proofs.laws.laws_of_sources.Goals as goal

pub returns-clause-run_is_one : goal.returns-clause-run_is_one
returns-clause-run_is_one c = source_run_is_one

pub returns-clause-there_is_a_run : goal.returns-clause-there_is_a_run
returns-clause-there_is_a_run c = there_is_a_run_of_source

pub returns-clause-too_long_is_longer : goal.returns-clause-too_long_is_longer
returns-clause-too_long_is_longer c = source_too_long_is_longer

pub returns-clause-run_is_session : goal.returns-clause-run_is_session
returns-clause-run_is_session c = source_run_is_session

pub returns-clause-faults_are_true : goal.returns-clause-faults_are_true
returns-clause-faults_are_true c = faults_are_true
