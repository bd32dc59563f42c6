use Rattle.std.proofs.Common.{arith, ap}
use Rattle.run_views.proofs.Shown.{none_shown, more_shown}
use Rattle.run_views.proofs.look.notes_of.Goals as goal

pub loop-task-init : goal.loop-task-init
loop-task-init c = none_shown _ _ _ c.in_ok-notes.ensures.items

pub loop-task-preserved : goal.loop-task-preserved
loop-task-preserved c = more_shown c.note_of.result c.loop-task.invariant c.in_ok-push.ensures.items c.note_of.ensures

pub returns-clause-count : goal.returns-clause-count
returns-clause-count c =
    let settings = c.settings-count.ensures.settings in
    omega (arith, c.loop-task.invariant.many, ap (λ settings. settings.tasks) settings)
