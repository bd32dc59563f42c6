-- What a picture shows is what the replay has.
use Rattle.std.proofs.Common.{◌≡◌, ℕ, zero, suc, ◌+◌, ◌<◌, List, [], ◌∷◌, ◌++◌, filter, length, map, Bool, refl, subst, sym, ap, ◌∙◌, add-one, arith}
use Rattle.std.specs.Prelude.{All, Decides, is_some, nat_eq, slice_index_or, if◌then◌else◌}
use Rattle.std.specs.List.{list_any}
use Rattle.bench_types.specs.declared.header.Header.{Header}
use Rattle.bench_types.specs.declared.kernel_data.CoreLook.{CoreLook}
use Rattle.bench_types.specs.declared.kernel_data.Settings.{Settings}
use Rattle.bench_types.specs.declared.step.Step.{Step}
use Rattle.bench_types.specs.Header.{IsCheckedHeader}
use Rattle.bench_types.specs.Session.{Session, IsCheckedSession}
use Rattle.bench_types.specs.Step.{queue_total, settings_of, IsCheckedStep}
use Rattle.list_orders.specs.Search.{numbers}
use Rattle.list_orders.proofs.Filters.{list_any-map}
use Rattle.list_orders.proofs.Stamped.{numbers_more}
use Rattle.bench_model.specs.Control.{current, task_at}
use Rattle.bench_model.specs.Queues.{queue_at}
use Rattle.bench_model.specs.SameTest.{are_same_bools, are_same_holds, are_same_options}
use Rattle.bench_model.specs.Session.{state_at}
use Rattle.bench_model.specs.State.{holder_at}
use Rattle.bench_model.specs.Table.{Table, tick_count}
use Rattle.run_views.specs.declared.look.Look.{Look}
use Rattle.run_views.specs.declared.places.Places.{Places}
use Rattle.run_views.specs.Changes.{are_same_numbers}
use Rattle.run_views.specs.Looks.{look_of}
use Rattle.run_pictures.specs.RunLooks.{looks_of, shown_places}
use Rattle.run_pictures.specs.MutexLines.{taken_mutexes}
use Rattle.run_pictures.specs.declared.pose.Detail.TheVariants.{FirstPlace}
use Rattle.run_pictures.specs.declared.pose.Pose.{Pose}
use Rattle.run_pictures.specs.declared.stance.Stance.{Stance}
use Rattle.run_pictures.specs.declared.stretch.Stretch.{Stretch}
use Rattle.run_pictures.specs.Hindrances.{hindrances_in, hindrances_of}
use Rattle.run_pictures.specs.Poses.{detailed_stretches, openings, pose_in, pose_of, pose_stretches}
use Rattle.run_pictures.specs.Preemption.{preempt_in, preempt_stretches}
use Rattle.run_pictures.specs.QueueLines.{changed_queues, do_differ, queues_of}
use Rattle.run_pictures.specs.Same.{are_same_dues, are_same_poses, are_same_priorities, are_same_stances, are_same_terms}
use Rattle.run_pictures.specs.StretchValues.{dues_decided, flags_decided, holders_decided, holds_decided, numbers_decided, poses_decided, priorities_decided}
use Rattle.run_pictures.specs.StretchValues.{stances_decided, terms_decided}
use Rattle.run_pictures.specs.TaskStretches.{current_in, current_stretches, due_in, due_stretches, hold_in, hold_stretches, holder_in, holder_stretches}
use Rattle.run_pictures.specs.TaskStretches.{message_stretches, messages_in, own_hold, priorities_in, priority_stretches, stance_stretches, tick_in, tick_stretches}
use Rattle.run_pictures.specs.Stances.{stance_in, stance_of}
use Rattle.run_pictures.specs.StretchesOf.{stretches_of, Tiles}
use Rattle.run_pictures.specs.TaskNames.{terms_in, terms_stretches}
use Rattle.run_pictures.specs.Theorem.{currents_of, due_at, dues_of, holders_of, holds_of, poses_of, preempts_of, priorities_at, priorities_of, stances_of}
use Rattle.run_pictures.specs.Theorem.{changed_of, messages_of, taken_of, terms_at, terms_of, ticks_of, AreOpened, IsTiled}
use Rattle.run_views.proofs.States.{filter_more}
use Rattle.run_pictures.proofs.Seen.{core_seen, hold_seen, holder_seen, kept_settings, pose_seen, preempt_seen, priorities_seen, sound_state, stance_seen}
use Rattle.run_pictures.proofs.Seen.{messages_seen, terms_seen, tick_seen}
use Rattle.run_pictures.proofs.Opened.{all_told, look_there, stances_opened}
use Rattle.run_pictures.proofs.Tiling.{tiled}

-- what is seen in each look, and what is so in each state
seen_in : {X : Type 0} (in_look : Look → X) (of_table : Table → X) (states : ℕ → Table) →
    ((place : ℕ) → in_look (look_of (states place)) ≡ of_table (states place)) → (ns : List ℕ) → map in_look (map (λ place. look_of (states place)) ns) ≡ map
    (λ place. of_table (states place)) ns
seen_in in_look of_table states at [] = refl
seen_in in_look of_table states at (n ∷ ns) = λ i. at n i ∷ seen_in in_look of_table states at ns i

filter_last : (p : ℕ → Bool) (n : ℕ) → filter p (numbers (suc n)) ≡ filter p (numbers n) ++ (if p n then n ∷ [] else [])
filter_last p n = ap (λ k. filter p (numbers k)) (sym (add-one n)) ∙ ap (filter p) (numbers_more n) ∙ filter_more p (numbers n) n

-- two tests that agree at the first numbers keep the same of them
filter_so : (p q : ℕ → Bool) (n : ℕ) → ((k : ℕ) → k < n → p k ≡ q k) → filter p (numbers n) ≡ filter q (numbers n)
filter_so p q zero each = refl
filter_so p q (suc n) each =
    filter_last p n
    ∙ (λ i. filter_so p q n (λ k below. each k (omega (arith, below))) i ++ (if each n (omega arith) i then n ∷ [] else []))
    ∙ sym (filter_last q n)

module _ (places : Places) (header : Header) (steps : List Step) (is : IsCheckedHeader header) (checked : All (IsCheckedStep (settings_of header)) steps) where
  core_within : (place core : ℕ) → core < header.config.cores → core < (state_at header steps place).settings.cores
  core_within place core few = subst (λ (settings : Settings). core < settings.cores) (sym (kept_settings header steps place is checked)) few

  task_within : (place task : ℕ) → task < header.config.cores + length header.tasks → task < (state_at header steps place).settings.tasks
  task_within place task few = subst (λ (settings : Settings). task < settings.tasks) (sym (kept_settings header steps place is checked)) few

  mutex_within : (place mutex : ℕ) → mutex < header.config.mutexes → mutex < (state_at header steps place).settings.mutexes
  mutex_within place mutex few = subst (λ (settings : Settings). mutex < settings.mutexes) (sym (kept_settings header steps place is checked)) few

  queue_within : (place queue : ℕ) → queue < queues_of header → queue < queue_total (state_at header steps place).settings
  queue_within place queue few = subst (λ (settings : Settings). queue < queue_total settings) (sym (kept_settings header steps place is checked)) few

  -- the stretches of what is seen at the places tile what is so there
  module _ {X : Type 0} (same : X → X → Bool) (tells : (a b : X) → Decides (same a b) (a ≡ b)) (in_look : Look → X) (of_table : Table → X) where
    seen_tiled : ((place : ℕ) → in_look (look_of (state_at header steps place)) ≡ of_table (state_at header steps place))
        → Tiles places.from (map (λ place. of_table (state_at header steps place)) (shown_places places steps))
        (stretches_of same places.from (map in_look (looks_of places header steps)))
    unfolding looks_of
    seen_tiled at =
        subst (λ values. Tiles places.from values (stretches_of same places.from (map in_look (looks_of places header steps))))
        (seen_in in_look of_table (state_at header steps) at (shown_places places steps))
        (tiled same tells places.from (map in_look (looks_of places header steps)))

  -- the stretches of a core
  core_tiled : (core : ℕ) → core < header.config.cores → Tiles places.from (currents_of places header steps core)
      (current_stretches places.from (looks_of places header steps) core)
  unfolding current_stretches
  core_tiled core few =
      seen_tiled nat_eq numbers_decided (current_in core) (λ table. current table.control core)
      (λ place. ap (λ look. look.current) (core_seen (state_at header steps place) core (core_within place core few)))

  due_tiled : (core : ℕ) → core < header.config.cores → Tiles places.from (dues_of places header steps core)
      (due_stretches places.from (looks_of places header steps) core)
  unfolding due_stretches
  due_tiled core few =
      seen_tiled are_same_dues dues_decided (due_in core) (λ table. due_at table core)
      (λ place. ap (λ (look : CoreLook). record { pend = look.pend; asked = look.asked })
      (core_seen (state_at header steps place) core (core_within place core few)))

  hold_tiled : (core : ℕ) → core < header.config.cores → Tiles places.from (holds_of places header steps core)
      (hold_stretches places.from (looks_of places header steps) core)
  unfolding hold_stretches
  hold_tiled core few =
      seen_tiled (are_same_options are_same_holds) holds_decided (hold_in core) (λ table. own_hold core table.hold)
      (λ place. ap (own_hold core) (hold_seen (state_at header steps place)))

  -- those of a task
  task_tiled : (task : ℕ) → task < header.config.cores + length header.tasks → Tiles places.from (stances_of places header steps task)
      (stance_stretches places.from (looks_of places header steps) task)
  unfolding stance_stretches
  task_tiled task few =
      seen_tiled are_same_stances stances_decided (stance_in task) (λ table. stance_of table task)
      (λ place. stance_seen (state_at header steps place) task (task_within place task few))

  pose_tiled : (task : ℕ) → task < header.config.cores + length header.tasks → Tiles places.from (poses_of places header steps task)
      (pose_stretches places.from (looks_of places header steps) task)
  unfolding pose_stretches
  pose_tiled task few =
      seen_tiled are_same_poses poses_decided (pose_in task) (λ table. pose_of table task)
      (λ place. pose_seen (state_at header steps place) (sound_state header steps place is checked) task (task_within place task few))

  -- the stretches that are told of their first place alone
  opened_so : (task : ℕ) → task < header.config.cores + length header.tasks → AreOpened places header steps task
      (detailed_stretches FirstPlace places.from (looks_of places header steps) task)
  unfolding stance_stretches
  opened_so task few =
      let looks = looks_of places header steps in
      let there : ℕ → Look = λ place. look_of (state_at header steps place) in
      let stretches = openings places.from looks task (stretches_of are_same_stances places.from (map (stance_in task) looks)) in
      let same : (place : ℕ) → hindrances_in task (there place) ≡ hindrances_of (state_at header steps place) task =
      λ place. ap (λ (pose : Pose). pose.hindrances) (pose_seen (state_at header steps place) (sound_state header steps place is checked) task
      (task_within place task few)) in
      record {
        stances = subst (λ (drawn : List (Stretch Stance)). Tiles places.from (stances_of places header steps task) drawn)
            (sym (stances_opened places.from looks task (stretches_of are_same_stances places.from (map (stance_in task) looks))))
            (task_tiled task few);
        first = λ k d within. all_told places.from looks task there (look_there places header steps) are_same_stances (stance_in task) k d within
            ∙ same (slice_index_or stretches k d).first;
      }

  priorities_tiled : (task : ℕ) → task < header.config.cores + length header.tasks → Tiles places.from (priorities_of places header steps task)
      (priority_stretches places.from (looks_of places header steps) task)
  unfolding priority_stretches
  priorities_tiled task few =
      seen_tiled are_same_priorities priorities_decided (priorities_in task) (λ table. priorities_at table task)
      (λ place. priorities_seen (state_at header steps place) task (task_within place task few))

  terms_tiled : (task : ℕ) → task < header.config.cores + length header.tasks → Tiles places.from (terms_of places header steps task)
      (terms_stretches places.from (looks_of places header steps) task)
  unfolding terms_stretches
  terms_tiled task few =
      seen_tiled are_same_terms terms_decided (terms_in task) (λ table. terms_at table task)
      (λ place. terms_seen (state_at header steps place) task (task_within place task few))

  preempts_tiled : (task : ℕ) → task < header.config.cores + length header.tasks → Tiles places.from (preempts_of places header steps task)
      (preempt_stretches places.from (looks_of places header steps) task)
  unfolding preempt_stretches
  preempts_tiled task few =
      seen_tiled are_same_bools flags_decided (preempt_in task) (λ table. (task_at table.control task).preempt)
      (λ place. preempt_seen (state_at header steps place) task (task_within place task few))

  holder_tiled : (mutex : ℕ) → mutex < header.config.mutexes → Tiles places.from (holders_of places header steps mutex)
      (holder_stretches places.from (looks_of places header steps) mutex)
  unfolding holder_stretches
  holder_tiled mutex few =
      seen_tiled are_same_numbers holders_decided (holder_in mutex) (λ table. holder_at table.holders mutex)
      (λ place. holder_seen (state_at header steps place) mutex (mutex_within place mutex few))

  -- a mutex is held in the looks where it is held in the replay
  taken_decided : taken_mutexes header (looks_of places header steps) ≡ taken_of places header steps
  unfolding looks_of
  taken_decided =
      filter_so _ _ header.config.mutexes
      (λ mutex few. sym (list_any-map is_some (holder_in mutex) (looks_of places header steps))
      ∙ ap (list_any is_some) (seen_in (holder_in mutex) (λ table. holder_at table.holders mutex) (state_at header steps)
      (λ place. holder_seen (state_at header steps place) mutex (mutex_within place mutex few)) (shown_places places steps)))

  messages_tiled : (queue : ℕ) → queue < queues_of header → Tiles places.from (messages_of places header steps queue)
      (message_stretches places.from (looks_of places header steps) queue)
  unfolding message_stretches
  messages_tiled queue few =
      seen_tiled nat_eq numbers_decided (messages_in queue) (λ table. (queue_at table.queues queue).messages)
      (λ place. messages_seen (state_at header steps place) queue (queue_within place queue few))

  -- the messages of a queue change in the looks where they change in the replay
  changed_decided : changed_queues header (looks_of places header steps) ≡ changed_of places header steps
  unfolding looks_of
  changed_decided =
      filter_so _ _ (queues_of header)
      (λ queue few. ap do_differ (seen_in (messages_in queue) (λ table. (queue_at table.queues queue).messages) (state_at header steps)
      (λ place. messages_seen (state_at header steps place) queue (queue_within place queue few)) (shown_places places steps)))

  ticks_tiled : Tiles places.from (ticks_of places header steps) (tick_stretches places.from (looks_of places header steps))
  unfolding tick_stretches
  ticks_tiled = seen_tiled nat_eq numbers_decided tick_in (λ table. tick_count table.orders) (λ place. tick_seen (state_at header steps place))

  pub all_tiled : IsTiled places header steps
  all_tiled = record {
    cores = core_tiled;
    tasks = task_tiled;
    poses = pose_tiled;
    opened = opened_so;
    priorities = priorities_tiled;
    terms = terms_tiled;
    preempts = preempts_tiled;
    dues = due_tiled;
    holds = hold_tiled;
    holders = holder_tiled;
    taken = taken_decided;
    messages = messages_tiled;
    changed = changed_decided;
    ticks = ticks_tiled;
  }

-- of a checked session
pub session_tiled : (places : Places) (session : Session) → IsCheckedSession session → IsTiled places session.header session.steps
session_tiled places session is = all_tiled places session.header session.steps is.checked.header is.checked.steps
