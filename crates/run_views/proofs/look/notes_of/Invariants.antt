use Rattle.bench_model.specs.Looks.{note_look}
use Rattle.run_views.proofs.Shown.{AreShown}
use Rattle.run_views.proofs.look.notes_of.Given as goal

abbrev pub invariant-loop-task : goal.invariant-loop-task
invariant-loop-task l = AreShown l.kernel (λ table task. note_look table task l.index) l.notes.items l.task
