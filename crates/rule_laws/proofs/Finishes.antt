-- Finishing an unfinished call: as lists, and that a table stays sound.
use Rattle.std.proofs.Common.{◌≡◌, ℕ, ◌<◌, ◌≤◌, length, ap, ◌∙◌, arith}
use Rattle.bench_types.specs.declared.step.Unfinished.{Unfinished}
use Rattle.bench_types.specs.declared.step.Unfinished.TheVariants.{Made, Take, Transfer}
use Rattle.bench_types.specs.Step.{IsCheckedUnfinished}
use Rattle.bench_model.specs.Lists.{list_queues, seen_of, view_of}
use Rattle.bench_model.specs.Notifying.{completed}
use Rattle.bench_model.specs.Sound.{IsCaller, IsConsistent}
use Rattle.bench_model.specs.State.{after_return}
use Rattle.bench_model.specs.Steps.{after_finish}
use Rattle.bench_model.specs.Table.{Table, stamp_queues}
use Rattle.rule_laws.proofs.Awaiting.{completed_seen, completed_sound}
use Rattle.rule_laws.proofs.Mutexes.{ended_seen, finish_seen, finish_sound, forgotten_sound}
use Rattle.rule_laws.proofs.Queues as queues

pub finished_seen : (table : Table) (core task : ℕ) (call : Unfinished) → IsConsistent table → IsCaller table core task → seen_of
    (after_finish stamp_queues core task call table) ≡ after_finish list_queues core task call (view_of table)
unfolding after_finish
finished_seen table core task (Made call) sound place = completed_seen (after_return stamp_queues task table) task call ∙ ap (completed task call)
    (ended_seen table task)
finished_seen table core task (Take mutex mark) sound place = finish_seen table core task mutex mark sound place
finished_seen table core task (Transfer queue direction) sound place = queues.finished_seen table core task direction queue sound place

pub finished_sound : (table : Table) (core task : ℕ) (call : Unfinished) → IsConsistent table → IsCaller table core task → IsCheckedUnfinished table.settings
    call → length table.control.cores ≤ task → IsConsistent (after_finish stamp_queues core task call table).1
unfolding after_finish
finished_sound table core task (Made call) sound place checked user =
    let low : task < table.settings.tasks = omega (arith, sound.sized.rows, place.2) in
    completed_sound (after_return stamp_queues task table) task call (forgotten_sound table task sound low place.3)
finished_sound table core task (Take mutex mark) sound place checked user = finish_sound table core task mutex mark sound place user checked
finished_sound table core task (Transfer queue direction) sound place checked user = queues.finished_sound table core task direction queue sound place user
    checked
