use Rattle.std.proofs.Common.{append_assoc}
use Rattle.shown_runs.proofs.pages.push_counts.Goals as goal

pub returns : goal.returns
returns c = simp append_assoc c.write.ensures.bytes
