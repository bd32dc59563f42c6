use Rattle.task_programs.proofs.Sound.{checked_is_sound}
use Rattle.task_programs.proofs.laws.laws_of_workloads.Goals as goal

pub returns : goal.returns
returns c = checked_is_sound
