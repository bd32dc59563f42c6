use Rattle.meeting_laws.proofs.Going.{go_on_alike, sound_at, stand_alike, state_later}
use Rattle.meeting_laws.proofs.Meets.{meetings_pass, meetings_decided, met_run_alike}
use Rattle.meeting_laws.proofs.Runs.{run_alike, segments_add_up, results_follow}
use Rattle.meeting_laws.proofs.laws_of_runs.Goals as goal

pub returns-clause-equal_run_alike : goal.returns-clause-equal_run_alike
returns-clause-equal_run_alike c = run_alike

pub returns-clause-met_run_alike : goal.returns-clause-met_run_alike
returns-clause-met_run_alike c = met_run_alike

pub returns-clause-meetings_are_tested : goal.returns-clause-meetings_are_tested
returns-clause-meetings_are_tested c = meetings_decided

pub returns-clause-meetings_pass : goal.returns-clause-meetings_pass
returns-clause-meetings_pass c = meetings_pass

pub returns-clause-met_go_on_alike : goal.returns-clause-met_go_on_alike
returns-clause-met_go_on_alike c = go_on_alike

pub returns-clause-states_are_sound : goal.returns-clause-states_are_sound
returns-clause-states_are_sound c = sound_at

pub returns-clause-states_go_on : goal.returns-clause-states_go_on
returns-clause-states_go_on c = state_later

pub returns-clause-equal_stand_alike : goal.returns-clause-equal_stand_alike
returns-clause-equal_stand_alike c = stand_alike

pub returns-clause-results_follow : goal.returns-clause-results_follow
returns-clause-results_follow c = results_follow

pub returns-clause-segments_add_up : goal.returns-clause-segments_add_up
returns-clause-segments_add_up c = segments_add_up
