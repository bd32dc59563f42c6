use Rattle.mutex_inherit.proofs.Waits.{free_later}
use Rattle.mutex_inherit.proofs.mutexes.Mutexes.wait_on.Goals as goal

pub enter-requires-clause-free : goal.enter-requires-clause-free
enter-requires-clause-free c = rw c.inherit.ensures.part (free_later c.args.task _ _ c.args.cores.now.control c.args.self.now c.requires.free)
