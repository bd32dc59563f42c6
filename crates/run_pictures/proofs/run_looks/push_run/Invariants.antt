use Rattle.run_pictures.proofs.Filming.{LooksSoFar}
use Rattle.run_pictures.proofs.run_looks.push_run.Given as goal

abbrev pub invariant-loop-place : goal.invariant-loop-place
invariant-loop-place l = LooksSoFar l.places l.header l.fn.kernel l.steps l.fn.looks.items l.looks.items l.fn.made.items l.made.items l.kernel l.place
