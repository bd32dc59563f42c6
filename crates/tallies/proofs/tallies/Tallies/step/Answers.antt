use Rattle.std.proofs.Common.{suc, All, List, length, ap, sym, subst, ◌∙◌}
use Rattle.bench_model.specs.Lists.{list_queues}
use Rattle.bench_model.specs.Tally.{TaskTally}
use Rattle.bench_model.specs.Tallied.{shape, AllCountsBelow}
use Rattle.session_laws.proofs.Shapes.{tallied_shape}
use Rattle.tallies.specs.Counting.{HasEventRoom}
use Rattle.tallies.proofs.Parts.{counted_whole, length_found, room_after_found}
use Rattle.tallies.proofs.Rooms.{step_room}
use Rattle.tallies.proofs.TickLoop.{shape_length}
use Rattle.tallies.proofs.tallies.Tallies.step.Goals as goal

pub leave-requires-clause-tasks : goal.leave-requires-clause-tasks
leave-requires-clause-tasks c =
    let before = c.args.before.now in
    let old = c.args.self.now in
    ap (λ (ts : List TaskTally). length ts) c.find.ensures ∙ length_found before c.args.step.now old ∙ shape_length old before.settings c.requires.shape ∙ sym
    c.requires.tasks

pub leave-requires-clause-room : goal.leave-requires-clause-room
leave-requires-clause-room c = subst (λ ts. All HasEventRoom ts) (sym c.find.ensures)
    (room_after_found c.args.before.now c.args.step.now c.args.self.now c.requires.room)

pub returns-clause-counted : goal.returns-clause-counted
returns-clause-counted c =
    counted_whole c.args.before.now c.args.after.now c.args.step.now c.args.reply c.args.self.now c.find.new.self c.leave.new.self c.left_by-left.result
    c.event_of.result
    c.left_by-left.ensures.sound c.leave.ensures.sound c.requires.cores c.left_by-left.ensures.left c.find.ensures c.event_of.ensures c.leave.ensures.left

pub returns-clause-kept : goal.returns-clause-kept
returns-clause-kept c =
    ap shape (returns-clause-counted c) ∙ tallied_shape list_queues (record
    { before = c.args.before.now; step = c.args.step.now; reply = c.args.reply; after = c.args.after.now }) c.args.self.now

pub returns-clause-grown : goal.returns-clause-grown
returns-clause-grown c bound room =
    subst (AllCountsBelow (suc bound)) (sym (returns-clause-counted c))
    (step_room list_queues (record { before = c.args.before.now; step = c.args.step.now; reply = c.args.reply; after = c.args.after.now }) c.args.self.now bound
    room)
