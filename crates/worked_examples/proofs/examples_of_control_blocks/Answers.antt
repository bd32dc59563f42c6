use Rattle.std.proofs.Common.{refl}
use Rattle.bench_model.specs.ControlFields.{in_use_set}
use Rattle.worked_examples.proofs.Examples.{computed}
use Rattle.worked_examples.proofs.examples_of_control_blocks.Goals as goal

pub returns : goal.returns
unfolding computed in_use_set
returns c = record {
  before = refl;
  same_priority = refl;
  raised = refl;
  lowered = refl;
  lowest = refl;
  blocked_stays = refl;
  cut_mask = refl;
  base_alone = refl;
}
