use Rattle.worked_examples.proofs.SetExamples.{priorities, masks, preemption}
use Rattle.worked_examples.proofs.examples_of_priority_and_affinity.Goals as goal

pub returns-clause-worked_priorities : goal.returns-clause-worked_priorities
returns-clause-worked_priorities c = priorities

pub returns-clause-worked_masks : goal.returns-clause-worked_masks
returns-clause-worked_masks c = masks

pub returns-clause-worked_preemption : goal.returns-clause-worked_preemption
returns-clause-worked_preemption c = preemption
