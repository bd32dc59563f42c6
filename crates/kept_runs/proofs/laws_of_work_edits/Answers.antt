use Rattle.kept_runs.proofs.Changing.{plain_edits_change_no_work, work_edits_change_one_call}
use Rattle.kept_runs.proofs.laws_of_work_edits.Goals as goal

pub returns-clause-plain_edits_change_no_work : goal.returns-clause-plain_edits_change_no_work
returns-clause-plain_edits_change_no_work c = plain_edits_change_no_work

pub returns-clause-work_edits_change_one_call : goal.returns-clause-work_edits_change_one_call
returns-clause-work_edits_change_one_call c = work_edits_change_one_call
