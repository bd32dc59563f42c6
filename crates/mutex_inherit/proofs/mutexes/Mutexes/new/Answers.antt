use Rattle.mutex_inherit.proofs.Waits.{free_shape, seen_free_mutexes}
use Rattle.mutex_inherit.proofs.mutexes.Mutexes.new.Goals as goal

pub invariant_of-result : goal.invariant_of-result
invariant_of-result c = rw (c.in_ok-free_holders.ensures, c.in_ok-new.ensures) (free_shape c.args.tasks c.args.priorities c.args.mutexes c.args.lists c.args.values.items c.ranges.lists.fits c.requires.mutexes c.requires.values)

pub returns : goal.returns
returns c = rw (c.in_ok-free_holders.ensures, c.in_ok-new.ensures) (seen_free_mutexes c.args.tasks c.args.priorities c.args.mutexes c.args.lists c.args.values.items)
