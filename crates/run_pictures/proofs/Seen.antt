-- What is seen in the look of a state is what the state has.
use Rattle.std.proofs.Common.{◌≡◌, ℕ, suc, ◌<◌, List, length, map, take, Bool, true, false, Option, refl, subst, sym, ap, ◌∙◌, zero-add, arith, nat_lt, ◌||◌}
use Rattle.std.specs.Prelude.{All, if◌then◌else◌}
use Rattle.std.proofs.lemmas.List.FromFn.{get_or-map-range_with_len}
use Rattle.std.proofs.lemmas.List.Elements.{All-take}
use Rattle.bench_types.specs.declared.cause.Cause.{Cause}
use Rattle.bench_types.specs.declared.header.Header.{Header}
use Rattle.bench_types.specs.declared.step.Step.{Step}
use Rattle.bench_types.specs.Header.{IsCheckedHeader}
use Rattle.bench_types.specs.Step.{queue_total, settings_of, IsCheckedStep}
use Rattle.list_orders.specs.Search.{numbers}
use Rattle.bench_model.specs.Control.{core_at, current, task_at}
use Rattle.bench_model.specs.Looks.{task_look}
use Rattle.bench_model.specs.Queues.{queue_at}
use Rattle.bench_model.specs.Seek.{effective}
use Rattle.bench_model.specs.Session.{state_at}
use Rattle.bench_model.specs.Sound.{IsSound}
use Rattle.bench_model.specs.Start.{start}
use Rattle.bench_model.specs.State.{holder_at}
use Rattle.bench_model.specs.Table.{stamp_queues, Table, is_ready, tick_count}
use Rattle.bench_model.specs.Suspending.{is_suspended}
use Rattle.session_laws.proofs.Tallies.{length_each, numbers_so}
use Rattle.step_laws.proofs.Along.{settings_along, sound_along, start_settings}
use Rattle.step_laws.proofs.Starts.{start_sound}
use Rattle.run_views.specs.declared.look.Standing.TheVariants as standing
use Rattle.run_views.specs.declared.look.TaskStatus.{TaskStatus}
use Rattle.run_views.specs.Looks.{look_of, status_of}
use Rattle.run_pictures.specs.declared.stance.Stance.TheVariants.{Blocked, Suspended}
use Rattle.run_pictures.specs.Hindrances.{effective_in, has_core, hindrance_in, hindrance_of, obstacle_at, rival_in, rival_of, site_in, site_of, where_ready}
use Rattle.run_pictures.specs.Poses.{pose_in, pose_of}
use Rattle.run_pictures.specs.Preemption.{preempt_in}
use Rattle.run_pictures.specs.TaskStretches.{core_in, holder_in, messages_in, priorities_in, tick_in}
use Rattle.run_pictures.specs.Stances.{core_of, stance_in, stance_of, stance_on, stance_with, status_in}
use Rattle.run_pictures.specs.TaskNames.{terms_in}
use Rattle.run_pictures.specs.Theorem.{priorities_at, terms_at}

-- the steps are checked under the settings of the start
pub checked_at_start : (header : Header) (steps : List Step) → All (IsCheckedStep (settings_of header)) steps → All (IsCheckedStep (start header).settings) steps
checked_at_start header steps checked = subst (λ settings. All (IsCheckedStep settings) steps) (sym (start_settings header)) checked

-- a session keeps the settings of its header
pub kept_settings : (header : Header) (steps : List Step) (place : ℕ) → IsCheckedHeader header → All (IsCheckedStep (settings_of header)) steps →
    (state_at header steps place).settings ≡ settings_of header
unfolding state_at
kept_settings header steps place is checked =
    settings_along (take place steps) (start header) (start_sound header is.passes)
    (All-take (IsCheckedStep (start header).settings) place steps (checked_at_start header steps checked))
    ∙ start_settings header

-- its states are sound
pub sound_state : (header : Header) (steps : List Step) (place : ℕ) → IsCheckedHeader header → All (IsCheckedStep (settings_of header)) steps → IsSound
    (state_at header steps place)
unfolding state_at
sound_state header steps place is checked =
    sound_along (take place steps) (start header) (start_sound header is.passes)
    (All-take (IsCheckedStep (start header).settings) place steps (checked_at_start header steps checked))

-- ---- a core of a look, a task, a mutex, a queue

pub core_seen : (table : Table) (core : ℕ) → core < table.settings.cores → core_in core (look_of table) ≡ core_at table.control core
unfolding look_of
core_seen table core few = get_or-map-range_with_len (core_at table.control) 0 table.settings.cores core core _ few (zero-add core)

pub status_seen : (table : Table) (task : ℕ) → task < table.settings.tasks → status_in task (look_of table) ≡ status_of table task
unfolding look_of
status_seen table task few = get_or-map-range_with_len (status_of table) 0 table.settings.tasks task task _ few (zero-add task)

pub holder_seen : (table : Table) (mutex : ℕ) → mutex < table.settings.mutexes → holder_in mutex (look_of table) ≡ holder_at table.holders mutex
unfolding look_of
holder_seen table mutex few = get_or-map-range_with_len (holder_at table.holders) 0 table.settings.mutexes mutex mutex _ few (zero-add mutex)

pub messages_seen : (table : Table) (queue : ℕ) → queue < queue_total table.settings → messages_in queue (look_of table) ≡ (queue_at table.queues queue).messages
unfolding look_of
messages_seen table queue few = get_or-map-range_with_len (λ q. (queue_at table.queues q).messages) 0 (queue_total table.settings) queue queue _ few
    (zero-add queue)

pub tick_seen : (table : Table) → tick_in (look_of table) ≡ tick_count table.orders
unfolding look_of
tick_seen table = refl

pub hold_seen : (table : Table) → (look_of table).hold ≡ table.hold
unfolding look_of
hold_seen table = refl

pub preempt_seen : (table : Table) (task : ℕ) → task < table.settings.tasks → preempt_in task (look_of table) ≡ (task_at table.control task).preempt
unfolding task_look
preempt_seen table task few = ap (λ (status : TaskStatus). status.preempt) (status_seen table task few)

pub priorities_seen : (table : Table) (task : ℕ) → task < table.settings.tasks → priorities_in task (look_of table) ≡ priorities_at table task
unfolding task_look
priorities_seen table task few = λ i. record { in_use = (status_seen table task few i).in_use; base = (status_seen table task few i).base }

pub terms_seen : (table : Table) (task : ℕ) → task < table.settings.tasks → terms_in task (look_of table) ≡ terms_at table task
unfolding task_look
terms_seen table task few = λ i. record { base = (status_seen table task few i).base; mask = (status_seen table task few i).mask }

stood : (b d : Bool) (wake : Option ℕ) (cause : Option Cause) (core : Option ℕ)
    → stance_with (if b then standing.Ready else (if d then standing.Suspended else standing.Blocked wake)) cause core ≡
    (if b then stance_on core else (if d then Suspended else Blocked wake cause))
stood true d wake cause core = refl
stood false true wake cause core = refl
stood false false wake cause core = refl

pub stance_seen : (table : Table) (task : ℕ) → task < table.settings.tasks → stance_in task (look_of table) ≡ stance_of table task
unfolding look_of task_look
stance_seen table task few =
    ap (λ (status : TaskStatus). stance_with status.standing status.cause (core_of task (map (core_at table.control) (numbers table.settings.cores))))
    (status_seen table task few)
    ∙ stood (is_ready task table.orders) (is_suspended stamp_queues task table) _ _ _

-- ---- what is in the way of a task

pub cores_seen : (table : Table) → length (look_of table).cores ≡ table.settings.cores
unfolding look_of
cores_seen table = length_each (core_at table.control) table.settings.cores

-- of a sound state
module _ (table : Table) (sound : IsSound table) where
  cores_all : length (look_of table).cores ≡ length table.control.cores
  cores_all = cores_seen table ∙ sym sound.consistent.sized.cores

  effective_seen : (task : ℕ) → task < table.settings.tasks → effective_in task (look_of table) ≡ effective table.control task
  unfolding task_look
  effective_seen task few = λ i. if nat_lt task (cores_all i) then 0 else suc (status_seen table task few i).in_use

  rival_seen : (task : ℕ) → task < table.settings.tasks → rival_in task (look_of table) ≡ rival_of table task
  unfolding task_look
  rival_seen task few = λ i. record {
    task = task;
    priority = (status_seen table task few i).in_use;
    effective = effective_seen task few i;
    preempt = (status_seen table task few i).preempt;
  }

  -- the task that the core runs
  rival_at : (core : ℕ) → core < table.settings.cores → rival_in (core_in core (look_of table)).current (look_of table) ≡ rival_of table
      (current table.control core)
  rival_at core few =
      let sized = sound.consistent.sized in
      let task = sound.consistent.in_place.is_task core (omega (arith, few, sized.cores)) in
      ap (λ look. rival_in look.current (look_of table)) (core_seen table core few)
      ∙ rival_seen (current table.control core) (omega (arith, task, sized.rows))

  site_seen : (task core : ℕ) → task < table.settings.tasks → core < table.settings.cores → site_in task (look_of table) core ≡ site_of table task core
  unfolding task_look
  site_seen task core few within =
      λ i. record {
        allowed = nat_lt task (cores_all i) || has_core (status_seen table task few i).mask core;
        due = (core_seen table core within i).pend || (core_seen table core within i).asked;
        rival = rival_at core within i;
      }

  hindrance_seen : (task core : ℕ) → task < table.settings.tasks → core < table.settings.cores → hindrance_in task (look_of table) core ≡ hindrance_of table
      task core
  unfolding task_look
  hindrance_seen task core few within =
      λ i. record { core = core; by = obstacle_at (effective_seen task few i) (hold_seen table i) (site_seen task core few within i) }

  pub pose_seen : (task : ℕ) → task < table.settings.tasks → pose_in task (look_of table) ≡ pose_of table task
  pose_seen task few =
      let each : map (hindrance_in task (look_of table)) (numbers (length (look_of table).cores)) ≡ map (hindrance_of table task) (numbers table.settings.cores)
      =
      numbers_so _ _ _ _ (cores_seen table) (λ core within. hindrance_seen task core few within) in
      λ i. record { stance = stance_seen table task few i; hindrances = where_ready (stance_seen table task few i) (each i) }
