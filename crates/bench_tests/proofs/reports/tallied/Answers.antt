use Rattle.std.proofs.Common.{suc, refl, ◌∙◌, arith}
use Rattle.tallies.proofs.Rooms.{wider_room}
use Rattle.bench_tests.proofs.reports.tallied.Goals as goal

pub loop-step-init : goal.loop-step-init
loop-step-init c = record { settings = refl; shape = c.in_ok-tallies.ensures.shape; room = c.in_ok-tallies.ensures.room; tops = c.in_ok-tallies.ensures.tops }

pub loop-step-preserved : goal.loop-step-preserved
loop-step-preserved c = record {
  settings = c.make_next.ensures.shape ∙ c.loop-step.invariant.settings;
  shape = c.make_next.ensures.kept ∙ c.loop-step.invariant.shape;
  room = wider_room c.make_next.new.self (omega arith) (c.make_next.ensures.grown (suc c.loop-step.step-index) c.loop-step.invariant.room);
  tops = c.make_next.ensures.tops;
}

pub make_next-requires-clause-room : goal.make_next-requires-clause-room
make_next-requires-clause-room c = wider_room c.loop-step.tallies (omega arith) c.loop-step.invariant.room

pub returns-clause-room : goal.returns-clause-room
returns-clause-room c = wider_room c.loop-step.tallies (omega arith) c.loop-step.invariant.room
