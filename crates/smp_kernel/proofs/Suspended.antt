-- A task that is suspended, and its notifications for which nobody waits any more.
use Rattle.std.proofs.Common.{◌≡◌, ℕ, refl, ap}
use Rattle.bench_model.specs.Lists.{suspend, without_delay}
use Rattle.bench_model.specs.Suspending.{without_waits}
use Rattle.bench_model.specs.Waiters.{without_waiter}
use Rattle.list_orders.specs.Search.{without}
use Rattle.smp_kernel.specs.Kernel.{Parts, kernel_view, IsKernelShape, delayed_task, waiting_task}
use Rattle.smp_kernel.proofs.Apart.{apart_left, apart_unready}
use Rattle.smp_kernel.proofs.Sizes.{reshaped}

-- a kernel whose task is in no list
abbrev pub away_parts : ℕ → Parts → Parts
away_parts task parts = record parts {
  cores = record parts.cores { ready = without task parts.cores.ready };
  mutexes = record parts.mutexes { waiters = without_waiter task parts.mutexes.waiters };
  delays = record parts.delays { delayed = without_delay task parts.delays.delayed };
}

-- and one whose task waits for no notification
abbrev pub quiet_parts : ℕ → Parts → Parts
quiet_parts task parts = record parts {
  notes = record parts.notes { notes = without_waits parts.notes.entries task parts.notes.notes };
}

module _ (parts : Parts) (shape : IsKernelShape parts) (task : ℕ) where
  pub away_seen : kernel_view (away_parts task parts) ≡ record (kernel_view parts) { orders = suspend task (kernel_view parts).orders }
  unfolding suspend
  away_seen = refl

  pub away_shape : IsKernelShape (away_parts task parts)
  away_shape =
      reshaped parts _ refl refl
      (apart_left delayed_task task _ _ (apart_unready delayed_task task _ _ shape.undelayed))
      (apart_left waiting_task task _ _ (apart_unready waiting_task task _ _ shape.unqueued)) shape

  pub quiet_seen : kernel_view (quiet_parts task parts) ≡ record (kernel_view parts)
      { notes = without_waits (kernel_view parts).settings.notes task (kernel_view parts).notes }
  quiet_seen =
      ap (λ entries. record (kernel_view parts) { notes = without_waits entries task parts.notes.notes }) shape.note_entries

  pub quiet_shape : IsKernelShape (quiet_parts task parts)
  quiet_shape = reshaped parts _ refl refl shape.undelayed shape.unqueued shape
