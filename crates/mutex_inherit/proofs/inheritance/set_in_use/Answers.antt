use Rattle.mutex_inherit.proofs.Raises.{in_use_ready, in_use_tasks}
use Rattle.mutex_inherit.proofs.inheritance.set_in_use.Goals as goal

pub returns-clause-ready : goal.returns-clause-ready
returns-clause-ready c = rw c.set_in_use.ensures (in_use_ready c.args.task c.args.priority c.args.cores.now)

pub returns-clause-tasks : goal.returns-clause-tasks
returns-clause-tasks c = rw c.set_in_use.ensures (in_use_tasks c.args.task c.args.priority c.args.cores.now)
