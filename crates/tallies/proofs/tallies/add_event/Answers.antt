use Rattle.std.proofs.Common.{◌<◌, length, refl, ap, sym, ◌∙◌, arith}
use Rattle.bench_model.specs.Tallied.{tally_at}
use Rattle.tallies.specs.Counting.{task_of, with_event}
use Rattle.tallies.proofs.Parts.{event_none, event_past, event_set}
use Rattle.tallies.proofs.tallies.add_event.Goals as goal

pub returns-then-task-len : goal.returns-then-task-len
returns-then-task-len c =
    let event = c.in-Some.event in
    let tasks = c.args.tasks.now in
    let low : task_of event < length tasks = omega (arith, c.task.ensures, c.len.ensures, c.if-task-len.true) in
    c.add_event.ensures ∙ sym (event_set event tasks (tally_at tasks (task_of event)) low refl) ∙ ap (λ e. with_event e tasks) (sym c.in-Some.is)

pub returns-else-task-len : goal.returns-else-task-len
returns-else-task-len c =
    let tasks = c.args.tasks.now in
    sym (event_past c.in-Some.event tasks (omega (arith, c.task.ensures, c.len.ensures, c.if-task-len.false))) ∙ ap (λ e. with_event e tasks) (sym c.in-Some.is)

pub returns-in_default : goal.returns-in_default
returns-in_default c =
    let tasks = c.args.tasks.now in
    sym (event_none tasks) ∙ ap (λ e. with_event e tasks) (sym c.in_default.is)
