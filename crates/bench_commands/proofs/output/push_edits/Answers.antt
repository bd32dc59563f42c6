use Rattle.std.proofs.Common.{refl}
use Rattle.bench_commands.proofs.output.push_edits.Goals as goal

pub loop-index-init : goal.loop-index-init
loop-index-init c = record { lines = refl; session = refl }
