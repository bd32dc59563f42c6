use Rattle.std.proofs.Common.{arith}
use Rattle.bench_model.specs.Tallied.{added}
use Rattle.tallies.proofs.Rooms.{sum_room, wider_room}
use Rattle.bench_tests.proofs.reports.add_part.Goals as goal

pub add-requires-clause-sums : goal.add-requires-clause-sums
add-requires-clause-sums c =
    wider_room (added c.args.tallies.now c.args.more.now) (omega arith) (sum_room c.args.tallies.now c.args.more.now 999 999 c.requires.shapes c.requires.room
    c.requires.more)
