-- The worked calls that set priorities, masks and preemption, computed on the definitions.
use Rattle.std.proofs.Common.{ℕ}
use Rattle.bench_model.specs.ControlFields.{in_use_set, in_use_and_value_set}
use Rattle.bench_model.specs.Control.{runs_on, ask_its_core}
use Rattle.bench_model.specs.PriorityAffinity.{yields_after_priority_set, yields_after_affinity_set, priority_set, affinity_set, preemption_off, preemption_on}
use Rattle.worked_examples.specs.SetExamples.{WorkedPriorities, WorkedMasks, WorkedPreemption}
use Rattle.worked_examples.proofs.Examples.{computed}

-- whoever names this computes with these calls too
unfoldable set : ℕ
unfolding computed in_use_set in_use_and_value_set runs_on ask_its_core yields_after_priority_set yields_after_affinity_set priority_set affinity_set preemption_off preemption_on
set = 0

pub priorities : WorkedPriorities
unfolding set
priorities = assumption

pub masks : WorkedMasks
unfolding set
masks = assumption

pub preemption : WorkedPreemption
unfolding set
preemption = assumption
