use Rattle.std.proofs.Common.{sym, ◌∙◌, arith}
use Rattle.slow_replay.proofs.SlowTicks.{waking_starts, waking_goes, waking_ends, waking_room}
use Rattle.slow_replay.proofs.slow.SlowTable.advance.Goals as goal

pub loop-task-init : goal.loop-task-init
loop-task-init c = waking_starts c.args.self.now c.count_tick.new.self c.requires.sound c.count_tick.ensures

pub wake-requires-clause-room : goal.wake-requires-clause-room
wake-requires-clause-room c = omega (
  arith,
  c.requires.room,
  waking_room c.args.self.now c.loop-task.self c.in-Some.task c.loop-task.invariant
      c.in-Some.ensures.task (sym c.in-Some.ensures.first),
)

pub loop-task-smaller : goal.loop-task-smaller
loop-task-smaller c = (waking_goes c.args.self.now c.loop-task.self c.wake.new.self c.in-Some.task c.loop-task.invariant c.in-Some.ensures.task
    (sym c.in-Some.ensures.first) c.wake.ensures.woken).1

pub loop-task-preserved : goal.loop-task-preserved
loop-task-preserved c = (waking_goes c.args.self.now c.loop-task.self c.wake.new.self c.in-Some.task c.loop-task.invariant c.in-Some.ensures.task
    (sym c.in-Some.ensures.first) c.wake.ensures.woken).0

pub returns : goal.returns
returns c = c.slice.ensures ∙ waking_ends c.args.self.now c.loop-task.self c.loop-task.invariant (sym c.in_default.ensures.first)
