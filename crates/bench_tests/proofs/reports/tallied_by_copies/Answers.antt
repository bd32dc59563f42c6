use Rattle.std.proofs.Common.{suc, refl, ◌∙◌, arith}
use Rattle.tallies.proofs.Rooms.{wider_room}
use Rattle.bench_tests.proofs.reports.tallied_by_copies.Goals as goal

pub loop-step-init : goal.loop-step-init
loop-step-init c = record { settings = refl; shape = c.in_ok-tallies.ensures.shape; room = c.in_ok-tallies.ensures.room }

pub loop-step-preserved : goal.loop-step-preserved
loop-step-preserved c = record {
  settings = c.step-reply.ensures.shape ∙ c.loop-step.invariant.settings;
  shape = c.step.ensures.kept ∙ c.loop-step.invariant.shape;
  room = wider_room c.step.new.self (omega arith) (c.step.ensures.grown (suc c.loop-step.step-index) c.loop-step.invariant.room);
}

pub step-requires-clause-room : goal.step-requires-clause-room
step-requires-clause-room c = wider_room c.loop-step.tallies (omega arith) c.loop-step.invariant.room
