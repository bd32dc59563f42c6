use Rattle.std.proofs.Common.{rules}
use Rattle.port_locks.proofs.Seats.{opens_as}
use Rattle.port_locks.proofs.pair.LockPair.new.Goals as goal

pub new-requires : goal.new-requires
new-requires g c =
    opens_as _ _ _ c.args.value _ (search rules) (search rules) c.requires.empty c.requires.cores.0
