use Rattle.settled_runs.proofs.Endings.{quiet_work_ends, quiet_work_lessens}
use Rattle.settled_runs.proofs.Ordered.{switches_come_first, finishes_come_next, calls_come_last}
use Rattle.settled_runs.proofs.laws_of_quiet_work.Goals as goal

pub returns-clause-quiet_work_lessens : goal.returns-clause-quiet_work_lessens
returns-clause-quiet_work_lessens c = quiet_work_lessens

pub returns-clause-quiet_work_ends : goal.returns-clause-quiet_work_ends
returns-clause-quiet_work_ends c = quiet_work_ends

pub returns-clause-switches_come_first : goal.returns-clause-switches_come_first
returns-clause-switches_come_first c = switches_come_first

pub returns-clause-finishes_come_next : goal.returns-clause-finishes_come_next
returns-clause-finishes_come_next c = finishes_come_next

pub returns-clause-calls_come_last : goal.returns-clause-calls_come_last
returns-clause-calls_come_last c = calls_come_last
