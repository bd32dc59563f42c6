use Rattle.mutex_inherit.proofs.Waits.{tasks_seen}
use Rattle.mutex_inherit.proofs.mutexes.Mutexes.lists.Goals as goal

pub returns-clause-tasks : goal.returns-clause-tasks
returns-clause-tasks c = λ m low. tasks_seen _ _ _ _ _ c.self.inside.lists _ c.self.view_is m
