-- A holder that gives up what it inherited, and a mutex that is given.
use Rattle.std.proofs.Common.{◌≡◌, ℕ, Bool, true, false, cond, not, eqb, ◌&&◌, Option, Some, None, refl, ap, ◌∙◌}
use Rattle.std.specs.Prelude.{option_map, slice_set}
use Rattle.std.specs.Option.{option_map_or}
use Rattle.std.proofs.lemmas.List.{length-set}
use Rattle.bench_types.specs.declared.kernel_data.Waiter.{Waiter}
use Rattle.bench_types.specs.declared.step.Direction.{Direction}
use Rattle.bench_types.specs.declared.reply.Reply.{Reply}
use Rattle.bench_types.specs.declared.reply.Reply.TheVariants.{Flag}
use Rattle.bench_model.specs.Control.{Control, task_at}
use Rattle.bench_model.specs.State.{holder_at}
use Rattle.bench_model.specs.Seek.{wake}
use Rattle.bench_model.specs.Cores.{CoresView, cores_rule}
use Rattle.bench_model.specs.Lists.{View, list_queues, first_waiter}
use Rattle.bench_model.specs.Queues.{other_way, passed, with_passed}
use Rattle.bench_model.specs.Waiters.{event_list, first_of}
use Rattle.bench_model.specs.Mutexes.{held_by, disinherit_priority, after_disinherit, timed_out, disinherited, first_woken, mutex_give}
use Rattle.smp_kernel.specs.Kernel.{Parts, kernel_view, IsKernelShape}
use Rattle.smp_kernel.proofs.Sizes.{reshaped, sizes_of}
use Rattle.mutex_inherit.specs.Parts.{MutexPart, disinherited_part}
use Rattle.smp_kernel.proofs.CoreMoves.{with_both, lower_seen, lower_shape}

-- the cores of a holder that may give up what it inherited
abbrev pub after_disinherit_where : Bool → ℕ → ℕ → ℕ → CoresView → CoresView
after_disinherit_where gives acting task priority cores = cond gives (cores_rule (after_disinherit list_queues acting task priority) cores) cores

-- and the mutexes
abbrev pub disinherited_where : Bool → Control → ℕ → ℕ → MutexPart → MutexPart
disinherited_where gives control task priority part = cond gives (disinherited_part control task priority part) part

abbrev pub lowered_where : Bool → ℕ → ℕ → ℕ → Parts → Parts
lowered_where gives acting task priority parts = with_both parts (after_disinherit_where gives acting task priority parts.cores)
    (disinherited_where gives parts.cores.control task priority parts.mutexes)

module _ (parts : Parts) (shape : IsKernelShape parts) where
  pub lower_where_seen : (gives : Bool) (acting task priority : ℕ) → kernel_view (lowered_where gives acting task priority parts) ≡ cond gives
      (after_disinherit list_queues acting task priority (kernel_view parts)) (kernel_view parts)
  lower_where_seen true acting task priority = lower_seen parts shape acting task priority
  lower_where_seen false acting task priority = refl

  pub lower_where_shape : (gives : Bool) (acting task priority : ℕ) → IsKernelShape (lowered_where gives acting task priority parts)
  lower_where_shape true acting task priority = lower_shape parts shape acting task priority
  lower_where_shape false acting task priority = shape

  -- a wait with a mark ends without the mutex
  pub timed_out_seen : (core task mutex holder : ℕ) → kernel_view
      (lowered_where (not (eqb holder task) && eqb (held_by parts.mutexes.holders holder) 1) core holder
      (disinherit_priority (first_of mutex parts.mutexes.waiters) (task_at parts.cores.control holder).base) parts) ≡ timed_out list_queues core task
      mutex true holder (kernel_view parts)
  unfolding timed_out first_waiter
  timed_out_seen core task mutex holder =
      lower_where_seen (not (eqb holder task) && eqb (held_by parts.mutexes.holders holder) 1) core holder
      (disinherit_priority (first_of mutex parts.mutexes.waiters) (task_at parts.cores.control holder).base)

module _ (parts : Parts) (shape : IsKernelShape parts) where
  -- no task holds the mutex
  abbrev freed : ℕ → Parts
  freed mutex = record parts { mutexes = record parts.mutexes { holders = slice_set parts.mutexes.holders mutex None } }

  freed_shape : (mutex : ℕ) → IsKernelShape (freed mutex)
  freed_shape mutex = reshaped parts _ refl (ap (λ a. record (sizes_of parts) { holders = a }) (length-set parts.mutexes.holders mutex None)) shape.undelayed
      shape.unqueued shape

  abbrev holds_none : ℕ → ℕ → Bool
  holds_none task mutex = eqb (held_by (slice_set parts.mutexes.holders mutex None) task) 0

  abbrev pub given_parts : ℕ → ℕ → ℕ → Parts
  given_parts core task mutex = lowered_where (holds_none task mutex) core task (task_at parts.cores.control task).base (freed mutex)

  pub give_seen : (core task mutex : ℕ) → kernel_view (given_parts core task mutex) ≡ disinherited list_queues core task
      (record (kernel_view parts) { holders = slice_set parts.mutexes.holders mutex None })
  unfolding disinherited
  give_seen core task mutex = lower_where_seen (freed mutex) (freed_shape mutex) (holds_none task mutex) core task (task_at parts.cores.control task).base

  pub give_shape : (core task mutex : ℕ) → IsKernelShape (given_parts core task mutex)
  give_shape core task mutex = lower_where_shape (freed mutex) (freed_shape mutex) (holds_none task mutex) core task (task_at parts.cores.control task).base

-- the first waiter is woken
abbrev known : Reply → View → Reply × View
known reply view = (reply, view)

woken_first : (core mutex : ℕ) (view : View) (waiter : ℕ) → Some waiter ≡ option_map (λ (waiter : Waiter). waiter.task) (first_of mutex view.orders.waiters) →
    wake list_queues core waiter view ≡ first_woken list_queues core mutex view
unfolding first_woken first_waiter
woken_first core mutex view waiter is = at (first_of mutex view.orders.waiters) is
  where
    at : (first : Option Waiter) → Some waiter ≡ option_map (λ (waiter : Waiter). waiter.task) first → wake list_queues core waiter view ≡ option_map_or
        (λ (waiter : Waiter). wake list_queues core waiter.task view) first view
    at None is = absurd (cc (is))
    at (Some first) is = let same : waiter ≡ first.task = cc (is) in ap (λ task. wake list_queues core task view) same

woken_none : (core mutex : ℕ) (view : View) → None ≡ option_map (λ (waiter : Waiter). waiter.task) (first_of mutex view.orders.waiters) → view ≡ first_woken
    list_queues core mutex view
unfolding first_woken first_waiter
woken_none core mutex view is = at (first_of mutex view.orders.waiters) is
  where
    at : (first : Option Waiter) → None ≡ option_map (λ (waiter : Waiter). waiter.task) first → view ≡ option_map_or
        (λ (waiter : Waiter). wake list_queues core waiter.task view) first view
    at None is = refl
    at (Some first) is = absurd (cc (is))

-- a message went, and the first task that waits for one to go the other way is woken
module _ (acting : ℕ) (direction way : Direction) (queue : ℕ) (view later : View) (gone : later ≡ with_passed direction queue view)
    (other : way ≡ other_way direction) where
  woken_there : first_woken list_queues acting (event_list later.settings way queue) later ≡ passed list_queues acting direction queue view
  unfolding passed
  woken_there =
      ap (λ (view : View). first_woken list_queues acting (event_list view.settings way queue) view) gone
      ∙ ap (λ way. first_woken list_queues acting (event_list view.settings way queue) (with_passed direction queue view)) other

  pub passed_to : (waiter : ℕ) → Some waiter ≡ option_map (λ (waiter : Waiter). waiter.task)
      (first_of (event_list later.settings way queue) later.orders.waiters) → wake list_queues acting waiter later ≡ passed list_queues acting direction
      queue view
  passed_to waiter is = woken_first acting (event_list later.settings way queue) later waiter is ∙ woken_there

  pub passed_to_none : None ≡ option_map (λ (waiter : Waiter). waiter.task) (first_of (event_list later.settings way queue) later.orders.waiters) →
      later ≡ passed list_queues acting direction queue view
  passed_to_none is = woken_none acting (event_list later.settings way queue) later is ∙ woken_there

given : (core task mutex : ℕ) (view : View) (holder : ℕ) → holder_at view.holders mutex ≡ Some holder → known (Flag true)
    (first_woken list_queues core mutex (disinherited list_queues core task (record view { holders = slice_set view.holders mutex None }))) ≡ mutex_give
    list_queues core task mutex view
unfolding mutex_give
given core task mutex view holder held = rw held refl

module _ (core task mutex : ℕ) (view later : View) (holder : ℕ) (held : holder_at view.holders mutex ≡ Some holder)
    (gave : later ≡ disinherited list_queues core task (record view { holders = slice_set view.holders mutex None })) where
  pub gave_to : (waiter : ℕ) → Some waiter ≡ option_map (λ (waiter : Waiter). waiter.task) (first_of mutex later.orders.waiters) → known (Flag true)
      (wake list_queues core waiter later) ≡ mutex_give list_queues core task mutex view
  gave_to waiter is = ap (known (Flag true)) (woken_first core mutex later waiter is ∙ ap (first_woken list_queues core mutex) gave) ∙ given core task mutex
      view holder held

  pub gave_to_none : None ≡ option_map (λ (waiter : Waiter). waiter.task) (first_of mutex later.orders.waiters) → known (Flag true) later ≡ mutex_give
      list_queues core task mutex view
  gave_to_none is = ap (known (Flag true)) (woken_none core mutex later is ∙ ap (first_woken list_queues core mutex) gave) ∙ given core task mutex view holder
      held
