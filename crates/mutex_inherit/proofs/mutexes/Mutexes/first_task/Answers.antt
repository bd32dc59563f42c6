use Rattle.std.proofs.Common.{◌∙◌}
use Rattle.mutex_inherit.proofs.Waits.{first_task_seen}
use Rattle.mutex_inherit.proofs.mutexes.Mutexes.first_task.Goals as goal

pub returns-clause-first : goal.returns-clause-first
returns-clause-first c = c.first.ensures.first ∙ first_task_seen _ _ _ _ _ c.self.inside.lists _ c.self.view_is c.args.list
