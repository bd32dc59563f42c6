use Rattle.std.proofs.Common.{◌∙◌}
use Rattle.mutex_inherit.proofs.Waits.{list_seen}
use Rattle.mutex_inherit.proofs.mutexes.Mutexes.waits_in.Goals as goal

pub returns : goal.returns
returns c = c.list_of.ensures.list ∙ list_seen _ _ _ _ _ c.self.inside.lists _ c.self.view_is c.args.task
