use Rattle.session_write.proofs.Rereading.{written_reads_back}
use Rattle.session_write.proofs.laws.written_reads_back.Goals as goal

pub returns : goal.returns
returns c = written_reads_back
