use Rattle.task_programs.proofs.Sound.{calls_are_checked, none_has_a_flaw, wakes_go_on}
use Rattle.task_programs.proofs.Walks.{walks_come}
use Rattle.task_programs.proofs.laws.laws_of_programs.Goals as goal

pub returns-clause-instructions : goal.returns-clause-instructions
returns-clause-instructions c = none_has_a_flaw

pub returns-clause-calls : goal.returns-clause-calls
returns-clause-calls c = calls_are_checked

pub returns-clause-wakes : goal.returns-clause-wakes
returns-clause-wakes c = wakes_go_on

pub returns-clause-walks : goal.returns-clause-walks
returns-clause-walks c = walks_come
