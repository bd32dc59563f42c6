-- A task that begins to wait.
use Rattle.std.proofs.Common.{◌≡◌, ℕ, true, cond, eqb, List, length, Option, Some, None, refl, ap, ◌∙◌}
use Rattle.std.specs.Prelude.{is_some, option_map, slice_set, unwrap_or}
use Rattle.std.specs.Option.{option_map_or}
use Rattle.std.proofs.lemmas.List.{length-set}
use Rattle.bench_types.specs.declared.kernel_data.Delayed.{Delayed}
use Rattle.bench_types.specs.declared.kernel_data.EventWait.{EventWait}
use Rattle.bench_types.specs.declared.kernel_data.Waiter.{Waiter}
use Rattle.bench_types.specs.declared.step.Direction.{Direction}
use Rattle.bench_types.specs.declared.step.Unfinished.{Unfinished}
use Rattle.bench_types.specs.declared.step.Unfinished.TheVariants.{Take, Transfer}
use Rattle.list_orders.specs.Search.{inserted, placed, without, has}
use Rattle.bench_model.specs.Control.{task_at, ask}
use Rattle.bench_model.specs.State.{blocked}
use Rattle.bench_model.specs.Lists.{list_queues, wakes_first, delay}
use Rattle.bench_model.specs.Waiters.{list_value_of, waits_first}
use Rattle.bench_model.specs.Cores.{cores_rule}
use Rattle.bench_model.specs.Mutexes.{is_marked, inherited, waited_at}
use Rattle.bench_model.specs.Queues.{queue_waited}
use Rattle.bench_model.specs.Waiters.{event_list, wait_of}
use Rattle.mutex_inherit.specs.Parts.{inherited_part}
use Rattle.smp_kernel.specs.Kernel.{IsDisjoint, Parts, kernel_view, IsKernelShape, delayed_task, waiting_task}
use Rattle.smp_kernel.proofs.Sizes.{reshaped}
use Rattle.smp_kernel.proofs.CoreMoves.{heir_parts, inherit_seen, inherit_shape, with_both}
use Rattle.smp_kernel.proofs.Apart.{none_found, apart_inserted, apart_unready, apart_waiting}

abbrev delayed_more : ℕ → Option ℕ → List Delayed → List Delayed
delayed_more task ticks delayed = option_map_or (λ left. placed wakes_first (record { task = task; left = left }) delayed) ticks delayed

abbrev waiters_more : ℕ → Option EventWait → List Waiter → List Waiter
waiters_more task wait waiters = option_map_or (λ wait. inserted waits_first (record { task = task; wait = wait }) waiters) wait waiters

-- a ready task waits at no mutex
pub not_waiting : (parts : Parts) → IsKernelShape parts → (task : ℕ) → has task parts.cores.ready ≡ true → wait_of task parts.mutexes.waiters ≡ None
not_waiting parts shape task ready = ap (option_map (λ (waiter : Waiter). waiter.wait))
    (none_found (λ (waiter : Waiter). eqb waiter.task task) parts.mutexes.waiters (shape.unqueued task ready))

-- a kernel whose task begins to wait
abbrev pub blocked_parts : ℕ → ℕ → Unfinished → Option ℕ → Option EventWait → Parts → Parts
blocked_parts core task call ticks wait parts = record parts {
  cores = record parts.cores { control = ask core core parts.cores.control; ready = without task parts.cores.ready };
  calls = slice_set parts.calls task (Some call);
  mutexes = record parts.mutexes { waiters = waiters_more task wait parts.mutexes.waiters };
  delays = record parts.delays { delayed = delayed_more task ticks parts.delays.delayed };
  deadlines = slice_set parts.deadlines task (cond (is_some wait) ticks None);
}

apart_delayed : (task : ℕ) (ticks : Option ℕ) (ready : List ℕ) (delayed : List Delayed) → IsDisjoint delayed_task ready delayed → IsDisjoint delayed_task
    (without task ready) (delayed_more task ticks delayed)
apart_delayed task None ready delayed apart = apart_unready delayed_task task ready delayed apart
apart_delayed task (Some left) ready delayed apart = apart_waiting delayed_task wakes_first (record { task = task; left = left }) ready delayed apart

apart_queued : (task : ℕ) (wait : Option EventWait) (ready : List ℕ) (waiters : List Waiter) → IsDisjoint waiting_task ready waiters → IsDisjoint waiting_task
    (without task ready) (waiters_more task wait waiters)
apart_queued task None ready waiters apart = apart_unready waiting_task task ready waiters apart
apart_queued task (Some wait) ready waiters apart = apart_inserted waiting_task waits_first (record { task = task; wait = wait }) ready waiters apart

module _ (parts : Parts) (shape : IsKernelShape parts) where
  pub block_seen : (core task : ℕ) (call : Unfinished) (ticks : Option ℕ) (wait : Option EventWait) → kernel_view
      (blocked_parts core task call ticks wait parts) ≡ blocked list_queues core task call ticks wait (kernel_view parts)
  unfolding blocked delay
  block_seen core task call ticks wait = refl

  pub block_shape : (core task : ℕ) (call : Unfinished) (ticks : Option ℕ) (wait : Option EventWait) → IsKernelShape
      (blocked_parts core task call ticks wait parts)
  block_shape core task call ticks wait = reshaped parts _ refl (cc
      (length-set parts.cores.control.cores core _, length-set parts.calls task _, length-set parts.deadlines task _))
      (apart_delayed task ticks _ _ shape.undelayed) (apart_queued task wait _ _ shape.unqueued) shape

-- what a task waits for that begins to wait for a mutex
abbrev pub wait_for : Parts → ℕ → ℕ → EventWait
wait_for parts task mutex =
    record { list = mutex; priority = unwrap_or (list_value_of task parts.mutexes.values) (task_at parts.cores.control task).in_use }

-- a kernel whose task begins to wait until a message can go some way
module _ (parts : Parts) (shape : IsKernelShape parts) (core task list : ℕ) (direction : Direction) (queue : ℕ) (ticks : Option ℕ) where
  abbrev pub passing_parts : Parts
  passing_parts = blocked_parts core task (Transfer queue direction) ticks (Some (wait_for parts task list)) parts

  pub pass_wait_seen : list ≡ event_list parts.settings direction queue → kernel_view passing_parts ≡ queue_waited list_queues core task direction queue ticks
      (kernel_view parts)
  unfolding queue_waited
  pass_wait_seen is =
      block_seen parts shape core task (Transfer queue direction) ticks (Some (wait_for parts task list))
      ∙ ap (λ list. blocked list_queues core task (Transfer queue direction) ticks (Some (wait_for parts task list)) (kernel_view parts)) is

  pub pass_wait_shape : IsKernelShape passing_parts
  pass_wait_shape = block_shape parts shape core task (Transfer queue direction) ticks (Some (wait_for parts task list))

-- a kernel whose task begins to wait for a mutex, when the holder has inherited
abbrev pub waited_parts : ℕ → ℕ → ℕ → ℕ → Option ℕ → Parts → Parts
waited_parts core task mutex holder ticks parts =
    let priority = (task_at parts.cores.control task).in_use in
    blocked_parts core task (Take mutex (is_marked parts.cores.control task holder)) ticks (Some (wait_for parts task mutex))
    (with_both parts (cores_rule (inherited list_queues core holder priority) parts.cores)
    (inherited_part parts.cores.control holder priority parts.mutexes))

module _ (parts : Parts) (shape : IsKernelShape parts) (core task mutex holder : ℕ) (ticks : Option ℕ) where
  abbrev priority : ℕ
  priority = (task_at parts.cores.control task).in_use

  abbrev call : Unfinished
  call = Take mutex (is_marked parts.cores.control task holder)

  abbrev wait : Option EventWait
  wait = Some (wait_for parts task mutex)

  abbrev raised : Parts
  raised = heir_parts parts shape core holder priority

  pub wait_seen : kernel_view (waited_parts core task mutex holder ticks parts) ≡ waited_at list_queues core task mutex holder ticks (kernel_view parts)
  unfolding waited_at
  wait_seen =
      block_seen raised (inherit_shape parts shape core holder priority) core task call ticks wait
      ∙ ap (blocked list_queues core task call ticks wait) (inherit_seen parts shape core holder priority)

  pub wait_shape : IsKernelShape (waited_parts core task mutex holder ticks parts)
  wait_shape = block_shape raised (inherit_shape parts shape core holder priority) core task call ticks wait

  -- there are as many cores when the holder has inherited
  pub raised_tasks : length raised.cores.control.tasks ≡ parts.settings.tasks
  raised_tasks = (inherit_shape parts shape core holder priority).controls

  pub raised_cores : length raised.cores.control.cores ≡ parts.settings.cores
  raised_cores = (inherit_shape parts shape core holder priority).cores
