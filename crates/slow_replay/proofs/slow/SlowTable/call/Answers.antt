use Rattle.std.proofs.Common.{arith}
use Rattle.step_laws.proofs.Holds.{depth_most}
use Rattle.slow_replay.proofs.slow.SlowTable.call.Goals as goal

pub open_hold-requires : goal.open_hold-requires
open_hold-requires c = omega (arith, depth_most c.args.self.now c.requires.sound)
