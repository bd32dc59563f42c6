use Rattle.std.proofs.Common.{append_assoc}
use Rattle.program_io.proofs.hint.push_none_of.Goals as goal

pub returns : goal.returns
returns c = simp append_assoc (rw c.saturating_sub-last.ensures at c.write.ensures.bytes)
