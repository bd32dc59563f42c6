use Rattle.task_jobs.proofs.Crowded.{count_keeps_time, crowd_begins, crowd_goes_on}
use Rattle.task_jobs.proofs.crowd.law_of_crowds.Goals as goal

pub returns-clause-begins : goal.returns-clause-begins
returns-clause-begins c = crowd_begins

pub returns-clause-next : goal.returns-clause-next
returns-clause-next c = crowd_goes_on

pub returns-clause-time : goal.returns-clause-time
returns-clause-time c = count_keeps_time
