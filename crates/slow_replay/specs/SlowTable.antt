-- What the slow table keeps of its sizes.
use Rattle.std.specs.Prelude.{◌≡◌, ℕ, ◌*◌, ◌<◌, ◌≤◌, ◌^◌, length, false, Some, None, slice_index_or}
use Rattle.std.specs.List.{AllByRecursion}
use Rattle.bench_types.specs.Limits.{max_cores}
use Rattle.bench_types.specs.Step.{queue_total}
use Rattle.bench_model.specs.Waiters.{event_lists}
use Rattle.slow_replay.specs.declared.slow.SlowTable.TheInside.{Inside}

pub record IsFit (table : Inside) : Type 0 where
  pub few_cores : table.settings.cores ≤ max_cores
  pub cores : length table.cores.items ≡ table.settings.cores
  pub controls : length table.tasks.items ≡ table.settings.tasks
  pub calls : length table.calls.items ≡ table.settings.tasks
  pub notes : length table.notes.items ≡ table.settings.tasks * table.settings.notes
  pub few_notes : table.settings.tasks * table.settings.notes < 2 ^ 32
  pub holders : length table.holders.items ≡ table.settings.mutexes
  pub queues : length table.queues.items ≡ queue_total table.settings
  pub few_lists : event_lists table.settings < 2 ^ 32
  pub rows : length table.rows.items ≡ table.settings.tasks
  pub deadlines : length table.deadlines.items ≡ table.settings.tasks
  pub waiting_tasks :
      AllByRecursion (λ waiter. waiter.task < table.settings.tasks) table.waiters.items
  pub held_by_tasks :
      (mutex task : ℕ) → slice_index_or table.holders.items mutex None ≡ Some task
      → task < table.settings.tasks
  pub runs_tasks :
      (core : ℕ) → core < table.settings.cores
      → (slice_index_or table.cores.items core
      (record { current = 0; pend = false; asked = false })).current < table.settings.tasks
