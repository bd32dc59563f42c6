use Rattle.std.proofs.Common.{◌∙◌, ap, arith, length}
use Rattle.std.specs.Prelude.{slice_index, slice_set}
use Rattle.settling.specs.declared.queues.Queues.{Queues}
use Rattle.settling.specs.declared.run.Settling.{Settling}
use Rattle.settling.proofs.Progress.{at_call, at_idle, head_low, piece_passes, piece_too_long, task_low}
use Rattle.settling.proofs.run.Settling.piece.Goals as goal

pub make-requires : goal.make-requires
make-requires c = let here = c.requires.here in piece_passes c.args.session.now c.args.self.now here c.args.step (c.requires.next here)

pub returns-in_err-make-clause-long : goal.returns-in_err-make-clause-long
returns-in_err-make-clause-long c known =
    let given = rw known at c.from_residual.ensures.1 in
    let here = c.requires.here in
    piece_too_long c.args.session.now c.args.self.now here c.args.step (c.requires.next here) (c.in_err-make.ensures.full (cc (given)))

pub advance-requires-clause-task : goal.advance-requires-clause-task
advance-requires-clause-task c =
    let here = c.requires.here in
    let same = ap (λ (settling : Settling). length settling.queues.heads.items) c.in_ok-make.ensures.made in
    let low = task_low c.args.session.now c.args.self.now here c.args.step (c.requires.next here) c.in-Some.task c.in-Some.ensures in
    omega (arith, same, low, here.queues.head_each)

pub advance-requires-clause-call : goal.advance-requires-clause-call
advance-requires-clause-call c =
    let here = c.requires.here in
    let heads = ap (λ (settling : Settling). slice_index settling.queues.heads.items c.in-Some.task) c.in_ok-make.ensures.made in
    let links = ap (λ (settling : Settling). length settling.queues.next.items) c.in_ok-make.ensures.made in
    let low = head_low c.args.session.now c.args.self.now here c.args.step (c.requires.next here) c.in-Some.task c.in-Some.ensures in
    omega (arith, heads, links, low, here.queues.reached, here.queues.next_each)

pub returns-in-Some-clause-made : goal.returns-in-Some-clause-made
returns-in-Some-clause-made c =
    let here = c.requires.here in
    let task = c.in-Some.task in
    let made = c.in_ok-make.ensures.made in
    let queues = ap (λ (settling : Settling). settling.queues) made in
    let heads = c.advance.ensures.heads
    ∙ ap (λ (queues : Queues). slice_set queues.heads.items task (slice_index queues.next.items (slice_index queues.heads.items task))) queues in
    let links = c.advance.ensures.next ∙ ap (λ (queues : Queues). queues.next.items) queues in
    at_call c.args.session.now c.args.self.now here c.args.step (c.requires.next here) task c.in-Some.ensures _
    (ap (λ (settling : Settling). settling.run) made) (ap (λ (settling : Settling). settling.come) made) heads links c.in_ok-make.ensures.room

pub returns-in_default-clause-made : goal.returns-in_default-clause-made
returns-in_default-clause-made c =
    let here = c.requires.here in
    at_idle c.args.session.now c.args.self.now here c.args.step (c.requires.next here) c.make.new.self c.in_default.ensures c.in_ok-make.ensures.made
    c.in_ok-make.ensures.room
