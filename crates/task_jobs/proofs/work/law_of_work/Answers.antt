use Rattle.task_jobs.proofs.Worked.{work_begins, work_goes_on, work_is_counted, work_is_told, work_stays}
use Rattle.task_jobs.proofs.Tiles.{jobs_tile}
use Rattle.task_jobs.proofs.work.law_of_work.Goals as goal

pub returns-clause-first : goal.returns-clause-first
returns-clause-first c = work_begins

pub returns-clause-next : goal.returns-clause-next
returns-clause-next c = work_goes_on

pub returns-clause-quiet : goal.returns-clause-quiet
returns-clause-quiet c = work_stays

pub returns-clause-told : goal.returns-clause-told
returns-clause-told c = work_is_told

pub returns-clause-few : goal.returns-clause-few
returns-clause-few c = work_is_counted

pub returns-clause-tiles : goal.returns-clause-tiles
returns-clause-tiles c = jobs_tile
