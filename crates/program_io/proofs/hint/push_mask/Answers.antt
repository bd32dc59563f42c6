use Rattle.std.proofs.Common.{append_assoc}
use Rattle.program_io.proofs.hint.push_mask.Goals as goal

pub returns : goal.returns
returns c = simp append_assoc c.write.ensures.bytes
