use Rattle.run_pictures.proofs.QueueRows.{queue_rows_so}
use Rattle.run_pictures.proofs.laws.law_of_queues.Goals as goal

pub returns : goal.returns
returns c = queue_rows_so
