use Rattle.bench_types.specs.Step.{settings_of}
use Rattle.run_answers.proofs.Answering.{AreAnswered}
use Rattle.run_answers.proofs.run.answer_all.Given as goal

abbrev pub invariant-loop-place : goal.invariant-loop-place
invariant-loop-place l = AreAnswered l.run.header l.run.steps (settings_of l.run.header).tasks l.place l.answers l.next

abbrev pub decreases-loop-place : goal.decreases-loop-place
decreases-loop-place l = l.place
