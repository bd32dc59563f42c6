-- What the rules do to the cores and ready lists of a kernel, where no ready task waits: they read these alone.
use Rattle.std.proofs.Common.{◌≡◌, ℕ, Bool, true, false, cond, not, eqb, ltb, ◌&&◌, List, [], ◌∷◌, length, map, refl, sym, ap, ap₂, ◌∙◌}
use Rattle.std.specs.Prelude.{unwrap_or, slice_set, Option, Some, None}
use Rattle.std.specs.Option.{option_map_or}
use Rattle.std.specs.List.{find}
use Rattle.std.proofs.lemmas.List.{length-set}
use Rattle.bench_types.specs.declared.note.Note.{Note}
use Rattle.list_orders.specs.Search.{placed, without, has}
use Rattle.bench_model.specs.Control.{Control, task_at, current, may_select, in_mask, run_on, ask, ask_each, runs_on, ask_its_core}
use Rattle.bench_model.specs.State.{after_select}
use Rattle.bench_model.specs.Seek.{seek, may_move, wake, after_eviction, after_switch, shares_its_time, sliced}
use Rattle.bench_model.specs.Notes.{note_at, is_waiting, notified, slot_of}
use Rattle.bench_model.specs.Notifying.{notify}
use Rattle.bench_model.specs.Mutexes.{inherited, after_disinherit}
use Rattle.bench_model.specs.Steps.{woken}
use Rattle.bench_types.specs.declared.kernel_data.Waiter.{Waiter}
use Rattle.bench_model.specs.ControlFields.{with_in_use, in_use_set, value_set, in_use_and_value_set}
use Rattle.bench_model.specs.Cores.{CoresView, cores_of, bare_view, cores_rule}
use Rattle.bench_model.specs.Lists.{Lists, View, list_queues, outranks, pick, add_to_ready_list, set_list_value, without_delay}
use Rattle.bench_model.specs.Waiters.{revalued, with_value, without_waiter}
use Rattle.mutex_inherit.specs.Parts.{MutexPart, disinherited_part, inherited_part, valued}
use Rattle.order_laws.proofs.SoundSteps.{IsAskedMore}
use Rattle.rule_laws.proofs.Seeks.{seek_more, each_more}
use Rattle.smp_kernel.specs.Kernel.{IsDisjoint, Parts, kernel_view, IsKernelShape, delayed_task, waiting_task}
use Rattle.smp_kernel.proofs.Sizes.{reshaped, sizes_of}
use Rattle.smp_kernel.proofs.Apart.{left_free, apart_mapped, apart_ready, apart_queued}

-- no ready task waits
pub record NoneWaits (lists : Lists) : Type 0 where
  pub undelayed : IsDisjoint delayed_task lists.ready lists.delayed
  pub unqueued : IsDisjoint waiting_task lists.ready lists.waiters

abbrev none_waits : (parts : Parts) → IsKernelShape parts → NoneWaits (kernel_view parts).orders
none_waits parts shape = record { undelayed = shape.undelayed; unqueued = shape.unqueued }

none_waits_alone : (cores : CoresView) → NoneWaits (bare_view cores).orders
none_waits_alone cores = record { undelayed = λ task ready. refl; unqueued = λ task ready. refl }

-- a view with other cores and ready lists
abbrev with_part : View → Control → List ℕ → View
with_part view control ready = record view { control = control; orders = record view.orders { ready = ready } }

-- the ready lists where a task that is ready goes to the end of its list
abbrev pub queue_of : ℕ → Control → List ℕ → List ℕ
queue_of task control ready = cond (has task ready) (placed (outranks control) task (without task ready)) ready

-- nothing else changes then
requeued : (control : Control) (task : ℕ) (lists : Lists) → NoneWaits lists → cond (has task lists.ready) (add_to_ready_list control task lists) lists ≡
    record lists { ready = queue_of task control lists.ready }
unfolding add_to_ready_list
requeued control task lists apart = at (has task lists.ready) refl
  where
    moved : List ℕ
    moved = placed (outranks control) task (without task lists.ready)

    at : (b : Bool) → has task lists.ready ≡ b → cond b (record lists
        { ready = moved; delayed = without_delay task lists.delayed; waiters = without_waiter task lists.waiters }) lists ≡ record lists
        { ready = cond b moved lists.ready }
    at true here =
        ap (λ delayed. record lists { ready = moved; delayed = delayed; waiters = without_waiter task lists.waiters })
        (left_free delayed_task task lists.delayed (apart.undelayed task here))
        ∙ ap (λ waiters. record lists { ready = moved; waiters = waiters }) (left_free waiting_task task lists.waiters (apart.unqueued task here))
    at false gone = refl

-- the cores when it has selected
abbrev selected_by : ℕ → Control → List ℕ → Control
selected_by core control ready = run_on core (unwrap_or (find (may_select control core) (queue_of (current control core) control ready)) (current control core))
    control

-- the cores after the seek for the task that it had
abbrev settled_by : ℕ → ℕ → Control → List ℕ → Control
settled_by core loser control ready = cond (not (eqb (current control core) loser) && has loser ready)
    (seek core loser (may_move control loser (current control core) core) control) control

switch_part : (core : ℕ) (view : View) → NoneWaits view.orders → after_select list_queues core view ≡ with_part view
    (selected_by core view.control view.orders.ready) (queue_of (current view.control core) view.control view.orders.ready)
unfolding after_select pick
switch_part core view apart =
    let left = current view.control core in
    ap (λ (orders : Lists). record view {
      control = run_on core (unwrap_or (find (may_select view.control core) orders.ready) left) view.control;
      orders =
          orders;
    }) (requeued view.control left view.orders apart)

resettle_part : (core loser : ℕ) (view : View) → after_eviction list_queues core loser view ≡ with_part view
    (settled_by core loser view.control view.orders.ready) view.orders.ready
unfolding after_eviction
resettle_part core loser view = at (not (eqb (current view.control core) loser) && has loser view.orders.ready)
  where
    sought : Control
    sought = seek core loser (may_move view.control loser (current view.control core) core) view.control

    at : (b : Bool) → cond b (record view { control = sought }) view ≡ with_part view (cond b sought view.control) view.orders.ready
    at true = refl
    at false = refl

-- the cores after a switch
abbrev turned_by : ℕ → Control → List ℕ → Control
turned_by core control ready = settled_by core (current control core) (selected_by core control ready) (queue_of (current control core) control ready)

turn_part : (core : ℕ) (view : View) → NoneWaits view.orders → after_switch list_queues core view ≡ with_part view
    (turned_by core view.control view.orders.ready) (queue_of (current view.control core) view.control view.orders.ready)
unfolding after_switch
turn_part core view apart =
    ap (after_eviction list_queues core (current view.control core)) (switch_part core view apart)
    ∙ resettle_part core (current view.control core) (with_part view (selected_by core view.control view.orders.ready)
    (queue_of (current view.control core) view.control view.orders.ready))

turned_cores : (core : ℕ) (cores : CoresView) → cores_rule (after_switch list_queues core) cores ≡ record cores
    { control = turned_by core cores.control cores.ready; ready = queue_of (current cores.control core) cores.control cores.ready }
turned_cores core cores = ap cores_of (turn_part core (bare_view cores) (none_waits_alone cores))

-- a rule asks cores, and changes no number of cores and tasks and no setting of them
record IsKept (before after : CoresView) : Type 0 where
  pub priorities : after.priorities ≡ before.priorities
  pub slicing : after.slicing ≡ before.slicing
  pub cores : length after.control.cores ≡ length before.control.cores
  pub controls : length after.control.tasks ≡ length before.control.tasks

-- a kernel with other cores, where no ready task waits
abbrev pub with_cores : Parts → CoresView → Parts
with_cores parts cores = record parts { cores = cores }

cores_shape : (parts : Parts) (cores : CoresView) → IsKernelShape parts → IsKept parts.cores cores → NoneWaits (kernel_view (with_cores parts cores)).orders →
    IsKernelShape (with_cores parts cores)
cores_shape parts cores shape kept apart =
    reshaped parts _ refl (cc (kept.priorities, kept.slicing, kept.cores, kept.controls)) apart.undelayed apart.unqueued shape

queued_apart : (parts : Parts) (task : ℕ) (control : Control) → IsKernelShape parts → NoneWaits
    (record (kernel_view parts).orders { ready = queue_of task control parts.cores.ready })
queued_apart parts task control shape = record {
  undelayed = apart_queued delayed_task task control _ _ shape.undelayed;
  unqueued = apart_queued waiting_task task control _ _ shape.unqueued;
}

settled_more : (core loser : ℕ) (control : Control) (ready : List ℕ) → IsAskedMore control (settled_by core loser control ready)
settled_more core loser control ready = at (not (eqb (current control core) loser) && has loser ready)
  where
    among : ℕ → Bool
    among = may_move control loser (current control core) core

    at : (b : Bool) → IsAskedMore control (cond b (seek core loser among control) control)
    at true = seek_more core loser among control
    at false = record { cores = refl; tasks = refl; currents = λ c. refl; due = λ c is. is }

module _ (parts : Parts) (shape : IsKernelShape parts) where
  -- a switch of the core part is the switch of the kernel
  pub turn_seen : (core : ℕ) → kernel_view (with_cores parts (cores_rule (after_switch list_queues core) parts.cores)) ≡ after_switch list_queues core
      (kernel_view parts)
  turn_seen core = ap (λ cores. kernel_view (with_cores parts cores)) (turned_cores core parts.cores) ∙ sym
      (turn_part core (kernel_view parts) (none_waits parts shape))

  pub turn_shape : (core : ℕ) → IsKernelShape (with_cores parts (cores_rule (after_switch list_queues core) parts.cores))
  turn_shape core =
      let control = parts.cores.control in
      let ready = parts.cores.ready in
      let more = settled_more core (current control core) (selected_by core control ready) (queue_of (current control core) control ready) in
      let kept : IsKept parts.cores (record parts.cores { control = turned_by core control ready; ready = queue_of (current control core) control ready }) =
      record {
        priorities = refl;
        slicing = refl;
        cores = more.cores ∙ length-set control.cores core _;
        controls = ap length more.tasks;
      } in
      rw (turned_cores core parts.cores) (cores_shape parts _ shape kept (queued_apart parts (current control core) control shape))

-- a core is sought
pub seek_shape : (parts : Parts) → IsKernelShape parts → (acting task : ℕ) (among : ℕ → Bool) → IsKernelShape
    (with_cores parts (record parts.cores { control = seek acting task among parts.cores.control }))
seek_shape parts shape acting task among =
    let more = seek_more acting task among parts.cores.control in
    let kept : IsKept parts.cores (record parts.cores { control = seek acting task among parts.cores.control }) = record {
      priorities = refl;
      slicing = refl;
      cores = more.cores;
      controls = ap length more.tasks;
    } in
    cores_shape parts _ shape kept (none_waits parts shape)

-- waking a task, which then waits no more
abbrev pub woken_parts : ℕ → Parts → CoresView → Parts
woken_parts task parts cores = record parts {
  cores = cores;
  mutexes = record parts.mutexes { waiters = without_waiter task parts.mutexes.waiters };
  delays = record parts.delays { delayed = without_delay task parts.delays.delayed };
}

module _ (parts : Parts) (shape : IsKernelShape parts) (acting task : ℕ) where
  pub wake_seen : kernel_view (woken_parts task parts (cores_rule (wake list_queues acting task) parts.cores)) ≡ wake list_queues acting task
      (kernel_view parts)
  unfolding wake add_to_ready_list
  wake_seen = refl

  pub wake_shape : IsKernelShape (woken_parts task parts (cores_rule (wake list_queues acting task) parts.cores))
  unfolding wake add_to_ready_list
  wake_shape =
      let control = parts.cores.control in
      let more = seek_more acting task (in_mask control task) control in
      reshaped parts _ refl (ap₂ (λ a b. record (sizes_of parts) { cores = a; controls = b }) more.cores (ap length more.tasks))
      (apart_ready delayed_task control task _ _ shape.undelayed) (apart_ready waiting_task control task _ _ shape.unqueued) shape

-- setting a priority in use
in_use_part : (task priority : ℕ) (view : View) → NoneWaits view.orders → in_use_set list_queues task priority view ≡ with_part view
    (with_in_use task priority view.control) (queue_of task (with_in_use task priority view.control) view.orders.ready)
unfolding in_use_set
in_use_part task priority view apart =
    let later = with_in_use task priority view.control in
    ap (λ orders. record view { control = later; orders = orders }) (requeued later task view.orders apart)

pub in_use_cores : (task priority : ℕ) (cores : CoresView) → cores_rule (in_use_set list_queues task priority) cores ≡ record cores
    { control = with_in_use task priority cores.control; ready = queue_of task (with_in_use task priority cores.control) cores.ready }
in_use_cores task priority cores = ap cores_of (in_use_part task priority (bare_view cores) (none_waits_alone cores))

module _ (parts : Parts) (shape : IsKernelShape parts) where
  pub in_use_seen : (task priority : ℕ) → kernel_view (with_cores parts (cores_rule (in_use_set list_queues task priority) parts.cores)) ≡ in_use_set
      list_queues task priority (kernel_view parts)
  in_use_seen task priority =
      ap (λ cores. kernel_view (with_cores parts cores)) (in_use_cores task priority parts.cores) ∙ sym
      (in_use_part task priority (kernel_view parts) (none_waits parts shape))

  pub in_use_shape : (task priority : ℕ) → IsKernelShape (with_cores parts (cores_rule (in_use_set list_queues task priority) parts.cores))
  in_use_shape task priority =
      let later = with_in_use task priority parts.cores.control in
      let kept : IsKept parts.cores (record parts.cores { control = later; ready = queue_of task later parts.cores.ready }) = record {
        priorities = refl;
        slicing = refl;
        cores = refl;
        controls = length-set parts.cores.control.tasks task _;
      } in
      rw (in_use_cores task priority parts.cores) (cores_shape parts _ shape kept (queued_apart parts task later shape))

-- who is asked for a holder that inherited
abbrev sought_by : ℕ → ℕ → List ℕ → Control → Control
sought_by acting holder ready control = cond (has holder ready) (seek acting holder (in_mask control holder) control) control

-- the cores and ready lists after a change of a priority in use, where there is one, and after who is asked then
abbrev changed_part : Bool → ℕ → Control → Control → CoresView → CoresView
changed_part changes task later asked cores = record cores {
  control = cond changes asked cores.control;
  ready = cond changes (queue_of task later cores.ready)
      cores.ready;
}

abbrev raised_cores : ℕ → ℕ → ℕ → CoresView → CoresView
raised_cores acting holder priority cores =
    let later = with_in_use holder priority cores.control in
    changed_part (ltb (task_at cores.control holder).in_use priority) holder later (sought_by acting holder cores.ready later) cores

abbrev after_disinherit_cores : ℕ → ℕ → ℕ → CoresView → CoresView
after_disinherit_cores acting task priority cores =
    let later = with_in_use task priority cores.control in
    changed_part (not (eqb (task_at cores.control task).in_use priority)) task later (ask_its_core acting task later) cores

-- the waiters after another list value of a task, where it changes
abbrev waiters_when : Bool → ℕ → ℕ → Lists → List Waiter
waiters_when changes task value lists = cond changes (revalued lists.values task value lists.waiters) lists.waiters

abbrev values_when : Bool → ℕ → ℕ → Lists → List ℕ
values_when changes task value lists = cond changes (slice_set lists.values task value) lists.values

-- a view with other cores and ready lists, and another list value of a task, where it changes
abbrev with_value_part : Bool → ℕ → ℕ → View → Control → List ℕ → View
with_value_part changes task value view control ready = record view {
  control = control;
  orders = record view.orders {
    ready = ready;
    waiters = waiters_when changes task value view.orders;
    values = values_when changes task value view.orders;
  };
}

inherited_whole : (acting holder priority : ℕ) (view : View) → NoneWaits view.orders → inherited list_queues acting holder priority view ≡ with_value_part
    (ltb (task_at view.control holder).in_use priority) holder priority view (raised_cores acting holder priority (cores_of view)).control
    (raised_cores acting holder priority (cores_of view)).ready
unfolding inherited in_use_and_value_set set_list_value
inherited_whole acting holder priority view apart =
    ap (λ later. cond raises (cond (has holder view.orders.ready) (sought (valued_view later)) (valued_view later)) view)
    (in_use_part holder priority view apart) ∙ at raises (has holder view.orders.ready)
  where
    raises : Bool
    raises = ltb (task_at view.control holder).in_use priority

    later : Control
    later = with_in_use holder priority view.control

    valued_view : View → View
    valued_view of = value_set list_queues holder priority of

    raised : View
    raised = valued_view (with_part view later (queue_of holder later view.orders.ready))

    sought : View → View
    sought of = record of { control = seek acting holder (in_mask of.control holder) of.control }

    at : (b d : Bool) → cond b (cond d (sought raised) raised) view ≡ with_value_part b holder priority view
        (cond b (cond d (seek acting holder (in_mask later holder) later) later) view.control)
        (cond b (queue_of holder later view.orders.ready) view.orders.ready)
    at true true = refl
    at true false = refl
    at false d = refl

after_disinherit_whole : (acting task priority : ℕ) (view : View) → NoneWaits view.orders → after_disinherit list_queues acting task priority view ≡
    with_value_part (not (eqb (task_at view.control task).in_use priority)) task priority view
    (after_disinherit_cores acting task priority (cores_of view)).control (after_disinherit_cores acting task priority (cores_of view)).ready
unfolding after_disinherit in_use_and_value_set set_list_value
after_disinherit_whole acting task priority view apart =
    ap (λ (later : View). cond stays view (record (valued_view later) { control = ask_its_core acting task later.control })) (in_use_part task priority view apart)
    ∙ at stays
  where
    stays : Bool
    stays = eqb (task_at view.control task).in_use priority

    later : Control
    later = with_in_use task priority view.control

    queue : List ℕ
    queue = queue_of task later view.orders.ready

    valued_view : View → View
    valued_view of = value_set list_queues task priority of

    at : (b : Bool) → cond b view (valued_view (with_part view (ask_its_core acting task later) queue)) ≡ with_value_part (not b) task priority view
        (cond (not b) (ask_its_core acting task later) view.control) (cond (not b) queue view.orders.ready)
    at true = refl
    at false = refl

inherited_cores : (acting holder priority : ℕ) (cores : CoresView) → cores_rule (inherited list_queues acting holder priority) cores ≡ raised_cores acting
    holder priority cores
inherited_cores acting holder priority cores = ap cores_of (inherited_whole acting holder priority (bare_view cores) (none_waits_alone cores))

given_back_cores : (acting task priority : ℕ) (cores : CoresView) → cores_rule (after_disinherit list_queues acting task priority) cores ≡
    after_disinherit_cores acting task priority cores
given_back_cores acting task priority cores = ap cores_of (after_disinherit_whole acting task priority (bare_view cores) (none_waits_alone cores))

-- the core of a task is asked, and no number of cores and tasks changes
record HasSameSizes (control other : Control) : Type 0 where
  pub cores : length other.cores ≡ length control.cores
  pub tasks : length other.tasks ≡ length control.tasks

its_core_sizes : (acting task : ℕ) (control : Control) → HasSameSizes control (ask_its_core acting task control)
unfolding ask_its_core
its_core_sizes acting task control = at (runs_on control task)
  where
    at : (o : Option ℕ) → HasSameSizes control (option_map_or (λ core. ask acting core control) o control)
    at None = record { cores = refl; tasks = refl }
    at (Some core) = record { cores = length-set control.cores core _; tasks = refl }

pub ask_its_core_shape : (parts : Parts) → IsKernelShape parts → (acting task : ℕ) → IsKernelShape
    (with_cores parts (record parts.cores { control = ask_its_core acting task parts.cores.control }))
ask_its_core_shape parts shape acting task =
    let sizes = its_core_sizes acting task parts.cores.control in
    let kept : IsKept parts.cores (record parts.cores { control = ask_its_core acting task parts.cores.control }) = record {
      priorities = refl;
      slicing = refl;
      cores = sizes.cores;
      controls = sizes.tasks;
    } in
    cores_shape parts _ shape kept (none_waits parts shape)

sought_sizes : (acting holder : ℕ) (ready : List ℕ) (control : Control) → HasSameSizes control (sought_by acting holder ready control)
sought_sizes acting holder ready control = at (has holder ready)
  where
    at : (b : Bool) → HasSameSizes control (cond b (seek acting holder (in_mask control holder) control) control)
    at true = let more = seek_more acting holder (in_mask control holder) control in record { cores = more.cores; tasks = ap length more.tasks }
    at false = record { cores = refl; tasks = refl }

changed_shape : (parts : Parts) (changes : Bool) (task priority : ℕ) (asked : Control) → IsKernelShape parts → HasSameSizes
    (with_in_use task priority parts.cores.control) asked → IsKernelShape
    (with_cores parts (changed_part changes task (with_in_use task priority parts.cores.control) asked parts.cores))
changed_shape parts true task priority asked shape same =
    let later = with_in_use task priority parts.cores.control in
    let kept : IsKept parts.cores (changed_part true task later asked parts.cores) = record {
      priorities = refl;
      slicing = refl;
      cores = same.cores;
      controls = same.tasks ∙ length-set parts.cores.control.tasks task _;
    } in
    cores_shape parts _ shape kept (queued_apart parts task later shape)
changed_shape parts false task priority asked shape same = shape

-- a kernel with other cores and mutexes
abbrev pub with_both : Parts → CoresView → MutexPart → Parts
with_both parts cores mutexes = record parts { cores = cores; mutexes = mutexes }

-- the mutexes after another list value of a task, where it changes
abbrev pub valued_when : Bool → ℕ → ℕ → MutexPart → MutexPart
valued_when changes task value part = cond changes (valued task value part) part

valued_view_when : (parts : Parts) (cores : CoresView) (changes : Bool) (task value : ℕ) → kernel_view
    (with_both parts cores (valued_when changes task value parts.mutexes)) ≡ with_value_part changes task value (kernel_view parts) cores.control cores.ready
valued_view_when parts cores true task value = refl
valued_view_when parts cores false task value = refl

value_keeps_task : (task value : ℕ) (w : Waiter) → (with_value task value w).task ≡ w.task
value_keeps_task task value w = at (eqb w.task task)
  where
    at : (b : Bool) → (cond b (record w { wait = record w.wait { priority = value } }) w).task ≡ w.task
    at true = refl
    at false = refl

-- another list value of a task leaves who waits
revalued_apart : (values : List ℕ) (task value : ℕ) (ready : List ℕ) (waiters : List Waiter) → IsDisjoint waiting_task ready waiters → IsDisjoint waiting_task
    ready (revalued values task value waiters)
revalued_apart values task value ready waiters apart = at (ltb task (length values))
  where
    at : (b : Bool) → IsDisjoint waiting_task ready (cond b (map (with_value task value) waiters) waiters)
    at true = apart_mapped waiting_task (with_value task value) (value_keeps_task task value) ready waiters apart
    at false = apart

pub valued_shape : (parts : Parts) → IsKernelShape parts → (changes : Bool) (task value : ℕ) → IsKernelShape
    (record parts { mutexes = valued_when changes task value parts.mutexes })
valued_shape parts shape true task value = reshaped parts _ refl
    (ap (λ a. record (sizes_of parts) { values = a }) (length-set parts.mutexes.values task value)) shape.undelayed
    (revalued_apart parts.mutexes.values task value parts.cores.ready parts.mutexes.waiters shape.unqueued) shape
valued_shape parts shape false task value = shape

module _ (parts : Parts) (shape : IsKernelShape parts) where
  abbrev pub heir_parts : ℕ → ℕ → ℕ → Parts
  heir_parts acting holder priority = with_both parts (cores_rule (inherited list_queues acting holder priority) parts.cores)
      (inherited_part parts.cores.control holder priority parts.mutexes)

  pub inherit_seen : (acting holder priority : ℕ) → kernel_view (heir_parts acting holder priority) ≡ inherited list_queues acting holder priority
      (kernel_view parts)
  inherit_seen acting holder priority =
      ap (λ cores. kernel_view (with_both parts cores (inherited_part parts.cores.control holder priority parts.mutexes)))
      (inherited_cores acting holder priority parts.cores)
      ∙ valued_view_when parts (raised_cores acting holder priority parts.cores) (ltb (task_at parts.cores.control holder).in_use priority) holder priority
      ∙ sym (inherited_whole acting holder priority (kernel_view parts) (none_waits parts shape))

  pub inherit_shape : (acting holder priority : ℕ) → IsKernelShape (heir_parts acting holder priority)
  inherit_shape acting holder priority =
      let cores : IsKernelShape (with_cores parts (cores_rule (inherited list_queues acting holder priority) parts.cores)) =
      rw (inherited_cores acting holder priority parts.cores) (changed_shape parts _ holder priority _ shape
      (sought_sizes acting holder parts.cores.ready (with_in_use holder priority parts.cores.control))) in
      valued_shape (with_cores parts (cores_rule (inherited list_queues acting holder priority) parts.cores)) cores
      (ltb (task_at parts.cores.control holder).in_use priority) holder priority

  abbrev pub lowered_parts : ℕ → ℕ → ℕ → Parts
  lowered_parts acting task priority = with_both parts (cores_rule (after_disinherit list_queues acting task priority) parts.cores)
      (disinherited_part parts.cores.control task priority parts.mutexes)

  -- the list value changes where the priority in use does
  either_valued : (stays : Bool) (task priority : ℕ) → cond stays parts.mutexes (valued task priority parts.mutexes) ≡ valued_when (not stays) task priority
      parts.mutexes
  either_valued true task priority = refl
  either_valued false task priority = refl

  pub lower_seen : (acting task priority : ℕ) → kernel_view (lowered_parts acting task priority) ≡ after_disinherit list_queues acting task priority
      (kernel_view parts)
  lower_seen acting task priority =
      let stays = eqb (task_at parts.cores.control task).in_use priority in
      ap₂ (λ cores mutexes. kernel_view (with_both parts cores mutexes)) (given_back_cores acting task priority parts.cores) (either_valued stays task priority)
      ∙ valued_view_when parts (after_disinherit_cores acting task priority parts.cores) (not stays) task priority
      ∙ sym (after_disinherit_whole acting task priority (kernel_view parts) (none_waits parts shape))

  pub lower_shape : (acting task priority : ℕ) → IsKernelShape (lowered_parts acting task priority)
  lower_shape acting task priority =
      let stays = eqb (task_at parts.cores.control task).in_use priority in
      let cores : IsKernelShape (with_cores parts (cores_rule (after_disinherit list_queues acting task priority) parts.cores)) =
      rw (given_back_cores acting task priority parts.cores) (changed_shape parts _ task priority _ shape
      (its_core_sizes acting task (with_in_use task priority parts.cores.control))) in
      rw (either_valued stays task priority)
      (valued_shape (with_cores parts (cores_rule (after_disinherit list_queues acting task priority) parts.cores)) cores (not stays) task priority)

-- the end of time slices
slice_kept : (cores : CoresView) → IsKept cores (cores_rule (sliced list_queues) cores)
unfolding sliced
slice_kept cores = at cores.slicing
  where
    more : IsAskedMore cores.control (ask_each 0 (shares_its_time list_queues (bare_view cores)) cores.control)
    more = each_more 0 (shares_its_time list_queues (bare_view cores)) cores.control

    at : (b : Bool) → IsKept cores (cores_of (cond b
        (record (bare_view cores) { control = ask_each 0 (shares_its_time list_queues (bare_view cores)) cores.control }) (bare_view cores)))
    at true = record { priorities = refl; slicing = refl; cores = more.cores; controls = ap length more.tasks }
    at false = record { priorities = refl; slicing = refl; cores = refl; controls = refl }

slice_ready : (cores : CoresView) → (cores_rule (sliced list_queues) cores).ready ≡ cores.ready
unfolding sliced
slice_ready cores = elim cores.slicing as (λ b.
    (cores_of (cond b (record (bare_view cores) { control = ask_each 0 (shares_its_time list_queues (bare_view cores)) cores.control })
    (bare_view cores))).ready ≡ cores.ready) [ true ↦ refl | false ↦ refl ]

module _ (parts : Parts) (shape : IsKernelShape parts) where
  pub slice_seen : kernel_view (with_cores parts (cores_rule (sliced list_queues) parts.cores)) ≡ sliced list_queues (kernel_view parts)
  unfolding sliced
  slice_seen = at parts.cores.slicing parts.settings.slicing shape.slicing
    where
      whole : View
      whole = kernel_view parts

      alone_cores : View
      alone_cores = bare_view parts.cores

      at : (b d : Bool) → b ≡ d → kernel_view (with_cores parts
          (cores_of (cond b (record alone_cores { control = ask_each 0 (shares_its_time list_queues alone_cores) parts.cores.control }) alone_cores))) ≡ cond d
          (record whole { control = ask_each 0 (shares_its_time list_queues whole) parts.cores.control }) whole
      at true true is = refl
      at false false is = refl
      at true false is = absurd (cc (is))
      at false true is = absurd (cc (is))

  pub slice_shape : IsKernelShape (with_cores parts (cores_rule (sliced list_queues) parts.cores))
  slice_shape =
      let sliced_cores = cores_rule (sliced list_queues) parts.cores in
      let apart : NoneWaits (kernel_view (with_cores parts sliced_cores)).orders = rw (slice_ready parts.cores) (none_waits parts shape) in
      cores_shape parts sliced_cores shape (slice_kept parts.cores) apart

-- no rule changes the settings
pub turned_settings : (core : ℕ) (view : View) → (after_switch list_queues core view).settings ≡ view.settings
unfolding after_switch after_select
turned_settings core view = ap (λ (v : View). v.settings) (resettle_part core (current view.control core) (after_select list_queues core view))

pub notify_settings : (acting : ℕ) (note : Note) (view : View) → (notify list_queues acting note view).settings ≡ view.settings
unfolding notify wake
notify_settings acting note view =
    let slot = slot_of view.settings note.task note.index in
    let known = record view { notes = slice_set view.notes slot (notified note.action (note_at view.notes slot)) } in
    elim (is_waiting (note_at view.notes slot).state) as (λ b. (cond b (wake list_queues acting note.task known) known).settings ≡ view.settings)
    [ true ↦ refl | false ↦ refl ]

pub woken_settings : (tasks : List ℕ) (view : View) → (woken list_queues tasks view).settings ≡ view.settings
unfolding wake
woken_settings [] view = refl
woken_settings (task ∷ tasks) view = woken_settings tasks (wake list_queues 0 task view)

pub sliced_settings : (view : View) → (sliced list_queues view).settings ≡ view.settings
unfolding sliced
sliced_settings view = elim view.settings.slicing as (λ b.
    (cond b (record view { control = ask_each 0 (shares_its_time list_queues view) view.control }) view).settings ≡ view.settings)
    [ true ↦ refl | false ↦ refl ]
