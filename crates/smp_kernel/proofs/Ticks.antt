-- The tasks that are due are woken one after another, and then time slices end.
use Rattle.std.proofs.Common.{◌≡◌, ℕ, ◌<◌, not, eqb, List, [], ◌∷◌, length, map, refl, sym, ap, ◌∙◌, arith}
use Rattle.std.proofs.lemmas.List.{length-map}
use Rattle.bench_types.specs.declared.kernel_data.Delayed.{Delayed}
use Rattle.bench_model.specs.Steps.{ticked, woken}
use Rattle.bench_model.specs.Seek.{wake, sliced}
use Rattle.bench_model.specs.Lists.{View, list_queues, advance, add_to_ready_list, without_delay, due_tasks}
use Rattle.list_orders.proofs.Filters.{filter_all, All-filter_passes}
use Rattle.tick_delay.specs.Parts.{advanced}
use Rattle.smp_kernel.specs.Deadlines.{one_less}
use Rattle.smp_kernel.specs.Kernel.{Parts, kernel_view, IsKernelShape, delayed_task}
use Rattle.smp_kernel.proofs.Sizes.{reshaped, sizes_of}
use Rattle.smp_kernel.proofs.Apart.{apart_left, apart_advanced}

-- a kernel one tick later, before a task is woken
abbrev pub advanced_parts : Parts → Parts
advanced_parts parts = record parts { delays = advanced parts.delays; deadlines = map one_less parts.deadlines }

pub advance_seen : (parts : Parts) → IsKernelShape parts → kernel_view (advanced_parts parts) ≡ record (kernel_view parts)
    { orders = advance (kernel_view parts).orders }
unfolding advance advanced
advance_seen parts shape = refl

pub advance_shape : (parts : Parts) → IsKernelShape parts → IsKernelShape (advanced_parts parts)
unfolding advanced
advance_shape parts shape = reshaped parts _ refl (ap (λ a. record (sizes_of parts) { deadlines = a }) (length-map parts.deadlines one_less))
    (apart_advanced parts.cores.ready parts.delays shape.undelayed) shape.unqueued shape

-- a kernel whose first due task has left the delays, before it is woken
abbrev pub popped_parts : ℕ → Parts → Parts
popped_parts task parts = record parts { delays = record parts.delays { delayed = without_delay task parts.delays.delayed } }

pub popped_shape : (parts : Parts) → IsKernelShape parts → (task : ℕ) → IsKernelShape (popped_parts task parts)
popped_shape parts shape task = reshaped parts _ refl refl (apart_left delayed_task task parts.cores.ready parts.delays.delayed shape.undelayed) shape.unqueued
    shape

cancelled_twice : (task : ℕ) (delayed : List Delayed) → without_delay task (without_delay task delayed) ≡ without_delay task delayed
cancelled_twice task delayed = filter_all (λ entry. not (eqb entry.task task)) (without_delay task delayed)
    (All-filter_passes (λ entry. not (eqb entry.task task)) delayed)

abbrev pub popped : ℕ → View → View
popped task view = record view { orders = record view.orders { delayed = without_delay task view.orders.delayed } }

-- it is woken as if it stood there still
woken_popped : (view : View) (task : ℕ) → wake list_queues 0 task (popped task view) ≡ wake list_queues 0 task view
unfolding wake add_to_ready_list
woken_popped view task = rw (cancelled_twice task view.orders.delayed) refl

pub popped_wake : (shown view later : View) (task : ℕ) → shown ≡ view → later ≡ wake list_queues 0 task (popped task shown) → later ≡ wake list_queues 0 task
    view
popped_wake shown view later task shows is = is ∙ woken_popped shown task ∙ ap (wake list_queues 0 task) shows

-- the kernel when all tasks that are due were woken, and time slices have ended
abbrev pub settled_from : View → View
settled_from view = sliced list_queues (woken list_queues (due_tasks view.orders.delayed) view)

pub ticked_first : (view later : View) → later ≡ record view { orders = advance view.orders } → settled_from later ≡ ticked list_queues view
unfolding ticked
ticked_first view later is = ap settled_from is

pub ticked_more : (view : View) (task : ℕ) → due_tasks view.orders.delayed ≡ task ∷ due_tasks (without_delay task view.orders.delayed) → settled_from
    (wake list_queues 0 task view) ≡ settled_from view
unfolding wake add_to_ready_list
ticked_more view task first = ap (λ tasks. sliced list_queues (woken list_queues tasks view)) (sym first)

pub due_fewer : (view later : View) (task : ℕ) → due_tasks view.orders.delayed ≡ task ∷ due_tasks (without_delay task view.orders.delayed) → later ≡ wake
    list_queues 0 task view → length (due_tasks later.orders.delayed) < length (due_tasks view.orders.delayed)
unfolding wake add_to_ready_list
due_fewer view later task first is = omega (arith, ap length first, ap (λ (v : View). length (due_tasks v.orders.delayed)) is)

pub ticked_last : (view : View) → due_tasks view.orders.delayed ≡ [] → settled_from view ≡ sliced list_queues view
ticked_last view none = ap (λ tasks. sliced list_queues (woken list_queues tasks view)) none
