use Rattle.std.proofs.Common.{◌<◌, suc, All, List, length, ap, sym, subst, ◌∙◌}
use Rattle.std.specs.Prelude.{IfSome}
use Rattle.bench_types.specs.declared.kernel_data.Settings.{Settings}
use Rattle.bench_model.specs.Lists.{View, list_queues}
use Rattle.bench_model.specs.Session.{step_of}
use Rattle.bench_model.specs.Tally.{TaskTally}
use Rattle.bench_model.specs.Tallied.{shape, AllCountsBelow}
use Rattle.session_laws.proofs.Shapes.{tallied_shape}
use Rattle.smp_kernel.specs.Raised.{KeepsOthers}
use Rattle.tallies.specs.Counting.{with_event, HasEventRoom}
use Rattle.tallies.specs.Tops.{HasTops, HasOtherTops}
use Rattle.tallies.proofs.Parts.{counted_whole, length_found, room_after_found}
use Rattle.tallies.proofs.Rooms.{step_room}
use Rattle.tallies.proofs.TickLoop.{shape_length}
use Rattle.tallies.proofs.Tops.{found_tops, step_tops, topped_tops}
use Rattle.tallies.proofs.tallies.Tallies.make_next.Goals as goal

pub leave_next-requires-clause-tasks : goal.leave_next-requires-clause-tasks
leave_next-requires-clause-tasks c =
    let before = c.args.kernel.now in
    let old = c.args.self.now in
    ap (λ (ts : List TaskTally). length ts) c.find.ensures ∙ length_found before c.args.step.now old ∙ shape_length old before.settings c.requires.shape ∙ ap
    (λ (s : Settings). s.tasks) (sym c.step-reply.ensures.shape)

pub leave_next-requires-clause-room : goal.leave_next-requires-clause-room
leave_next-requires-clause-room c = subst (λ ts. All HasEventRoom ts) (sym c.find.ensures)
    (room_after_found c.args.kernel.now c.args.step.now c.args.self.now c.requires.room)

pub leave_next-requires-clause-raised : goal.leave_next-requires-clause-raised
leave_next-requires-clause-raised c =
    subst (λ (s : Settings). IfSome c.raised_by-raised.result (λ task. task < s.tasks)) (sym c.step-reply.ensures.shape) c.raised_by-raised.ensures.task

pub leave_next-requires-clause-tops : goal.leave_next-requires-clause-tops
leave_next-requires-clause-tops c =
    let before = c.args.kernel.now in
    let after = c.step-reply.new.self in
    let step = c.args.step.now in
    let some = c.left_by-left.ensures.sound in
    let later = c.step-reply.ensures.state some.0 some.1 in
    let raised = c.raised_by-raised.result in
    let kept : KeepsOthers raised before.control after.control =
    subst (λ control. KeepsOthers raised before.control control) (ap (λ (v : View). v.control) later.shows)
    (subst (λ control. KeepsOthers raised control (step_of step some.0).1.control) (ap (λ (v : View). v.control) some.1.shows)
    (c.raised_by-raised.ensures.others some.0 some.1)) in
    subst (HasOtherTops raised after.control) (sym c.find.ensures)
    (step_tops raised before.control after.control _ (found_tops before.control before step c.args.self.now c.requires.tops) kept)

pub returns-clause-counted : goal.returns-clause-counted
returns-clause-counted c =
    let some = c.left_by-left.ensures.sound in
    counted_whole c.args.kernel.now c.step-reply.new.self c.args.step.now c.step-reply.result c.args.self.now c.find.new.self c.leave_next.new.self
    c.left_by-left.result c.event_of.result
    some ((step_of c.args.step.now some.0).1, c.step-reply.ensures.state some.0 some.1) (ap (λ (s : Settings). s.cores) c.step-reply.ensures.shape)
    c.left_by-left.ensures.left c.find.ensures c.event_of.ensures c.leave_next.ensures

pub returns-clause-kept : goal.returns-clause-kept
returns-clause-kept c =
    ap shape (returns-clause-counted c) ∙ tallied_shape list_queues (record
    { before = c.args.kernel.now; step = c.args.step.now; reply = c.step-reply.result; after = c.step-reply.new.self }) c.args.self.now

pub returns-clause-grown : goal.returns-clause-grown
returns-clause-grown c bound room =
    subst (AllCountsBelow (suc bound)) (sym (returns-clause-counted c))
    (step_room list_queues (record { before = c.args.kernel.now; step = c.args.step.now; reply = c.step-reply.result; after = c.step-reply.new.self })
    c.args.self.now bound room)

pub returns-clause-tops : goal.returns-clause-tops
returns-clause-tops c =
    subst (HasTops c.step-reply.new.self.control) (sym c.leave_next.ensures)
    (topped_tops c.step-reply.new.self.control (with_event c.event_of.result c.find.new.self))
