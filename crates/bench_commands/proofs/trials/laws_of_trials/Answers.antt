use Rattle.bench_commands.proofs.TrialLines.{index_is_printed, parts_are_whole}
use Rattle.bench_commands.proofs.trials.laws_of_trials.Goals as goal

pub returns-clause-parts : goal.returns-clause-parts
returns-clause-parts c = parts_are_whole

pub returns-clause-index : goal.returns-clause-index
returns-clause-index c = index_is_printed
