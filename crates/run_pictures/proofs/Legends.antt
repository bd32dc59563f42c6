-- A sign stands in the legend just where a bar of such an ink, or such a mark, is drawn, and that of what is not known where a place is not.
use Rattle.std.proofs.Common.{◌≡◌, ◌<◌, ◌≤◌, max, ℕ, ◌+◌, ◌-◌, List, [], ◌∷◌, ◌++◌, flat_map, length, map, get_or, nat_lt, Bool, true, false, Option, Some, None, inl, inr, refl, sym, ap}
use Rattle.std.proofs.Common.{subst, ◌∙◌, cond, true≢false, arith}
use Rattle.std.specs.Prelude.{◌||◌, ◌==◌, ◌%◌, Contains, Decides, is_some, nat_eq, not, slice_index_or, if◌then◌else◌}
use Rattle.std.specs.List.{list_any, position_or_len}
use Rattle.std.specs.Option.{option_and_then}
use Rattle.std.proofs.lemmas.Bool.Decides.{nat_tests}
use Rattle.std.proofs.lemmas.List.{get_or_default}
use Rattle.std.proofs.lemmas.List.Elements.{Contains-append_cases, Contains-append_left, Contains-append_right, Contains-get_or}
use Rattle.std.proofs.lemmas.List.Sums.{passes_at_first}
use Rattle.bench_types.specs.declared.cause.Cause.{Cause}
use Rattle.bench_types.specs.declared.kernel_data.CoreLook.{CoreLook}
use Rattle.bench_types.specs.declared.kernel_data.Hold.{Hold}
use Rattle.list_orders.specs.Search.{numbers}
use Rattle.bench_model.specs.SameTest.{are_same_bools, are_same_holds, are_same_options}
use Rattle.run_views.specs.declared.look.Look.{Look}
use Rattle.run_views.specs.declared.look.Standing.{Standing}
use Rattle.run_views.specs.declared.look.Standing.TheVariants as standing
use Rattle.run_views.specs.Changes.{are_same_numbers}
use Rattle.run_pictures.specs.declared.bar.Bar.{Bar}
use Rattle.run_pictures.specs.declared.ink.Ink.{Ink}
use Rattle.run_pictures.specs.declared.ink.Ink.TheVariants as ink
use Rattle.run_pictures.specs.declared.marks.Mark.{Mark}
use Rattle.run_pictures.specs.declared.marks.Mark.TheVariants as mark
use Rattle.run_pictures.specs.declared.pose.Detail.{Detail}
use Rattle.run_pictures.specs.declared.pose.Detail.TheVariants.{EachPlace, FirstPlace}
use Rattle.run_pictures.specs.declared.pose.Pose.{Pose}
use Rattle.run_pictures.specs.declared.shown.Due.{Due}
use Rattle.run_pictures.specs.declared.shown.Priorities.{Priorities}
use Rattle.run_pictures.specs.declared.signs.Sign.{Sign}
use Rattle.run_pictures.specs.declared.signs.Sign.TheVariants as sign
use Rattle.run_pictures.specs.declared.stance.Stance.{Stance}
use Rattle.run_pictures.specs.declared.stance.Stance.TheVariants.{Runs, Ready, Blocked, Suspended}
use Rattle.run_pictures.specs.declared.stretch.Stretch.{Stretch}
use Rattle.run_pictures.specs.Bars.{all_bars, bar_over, changed_bars, core_bars, core_top, current_bars, current_shape, due_bars, due_shape, held_over, held_shape, hold_bars, hold_shape}
use Rattle.run_pictures.specs.Bars.{inherited_bars, inherited_shape, messages_shape, mutex_bars, mutex_top, off_bars, off_shape, pose_bars, pose_shape, queue_bars}
use Rattle.run_pictures.specs.Bars.{queue_top, step_bars, step_shape, taken_bars, task_bars, task_top, tick_bars, tick_shape, where_drawn}
use Rattle.run_pictures.specs.Ink.{task_ink, tick_ink}
use Rattle.run_pictures.specs.LegendLaws.{sign_of, sign_of_mark, HasUnknown, IsDrawn}
use Rattle.run_pictures.specs.Marks.{mark_at}
use Rattle.run_pictures.specs.MutexLines.{is_taken, taken_mutexes}
use Rattle.run_pictures.specs.Poses.{detail_for, detailed_stretches, opening, pose_in, pose_stretches, stands_ready}
use Rattle.run_pictures.specs.Preemption.{preempt_in, preempt_stretches}
use Rattle.run_pictures.specs.QueueLines.{changed_queues, do_differ, is_changed, queues_of}
use Rattle.run_pictures.specs.Same.{are_same_dues, are_same_poses, are_same_priorities, are_same_stances}
use Rattle.run_pictures.specs.Shown.{Shown}
use Rattle.run_pictures.specs.Signs.{has_blocked, has_suspended, is_away, has_due, has_idle, has_inherited, has_ready, has_unpreempted, has_user, is_blocked, is_held, is_interrupt}
use Rattle.run_pictures.specs.Signs.{is_refusal, is_used}
use Rattle.run_pictures.specs.Stances.{core_of, stance_in, stance_with, status_in}
use Rattle.run_pictures.specs.StretchesOf.{stretches_of}
use Rattle.run_pictures.specs.StretchValues.{dues_decided, flags_decided, holders_decided, holds_decided, numbers_decided, poses_decided, priorities_decided}
use Rattle.run_pictures.specs.StretchValues.{stances_decided}
use Rattle.run_pictures.specs.TaskBands.{stance_ink, stance_shape, stance_stretch}
use Rattle.run_pictures.specs.TaskStretches.{core_in, current_in, current_stretches, due_in, due_stretches, hold_in, hold_stretches, holder_in, holder_stretches}
use Rattle.run_pictures.specs.TaskStretches.{message_stretches, messages_in, own_hold, priorities_in, priority_stretches, stance_stretches, tick_in, tick_stretches}
use Rattle.run_pictures.specs.Unknown.{is_pale}
use Rattle.run_pictures.proofs.Members.{any_from, any_to, filter_from, filter_to, flat_from, flat_to, here, here_or, map_from, map_to, none, number_from}
use Rattle.run_pictures.proofs.Members.{number_to, value_from, value_to, HasValue}
use Rattle.run_pictures.proofs.Placed.{flat_mapped}

-- ---- one bar, or none

pub drawn_one : (b : Bool) (bar : Bar) → b ≡ true → Contains (where_drawn b bar) bar
drawn_one true bar is = here bar []
drawn_one false bar is = absurd (true≢false (sym is))

pub one_drawn : (b : Bool) (bar other : Bar) → Contains (where_drawn b bar) other → (b ≡ true) × (bar ≡ other)
one_drawn true bar other has = elim (here_or bar other [] has) [
  | inl same ↦ (refl, same)
  | inr rest ↦ absurd (none other rest)
]
one_drawn false bar other has = absurd (none other has)

single : (bar other : Bar) → Contains (bar ∷ []) other → bar ≡ other
single bar other has = elim (here_or bar other [] has) [
  | inl same ↦ same
  | inr rest ↦ absurd (none other rest)
]

not_true : (b : Bool) → not b ≡ true → b ≡ false
not_true true is = absurd (true≢false (sym is))
not_true false is = refl

-- ---- what is found of a task on a core

ran : (stands : Standing) (cause : Option Cause) (core : Option ℕ) (k : ℕ) → stance_with stands cause core ≡ Runs k → core ≡ Some k
ran standing.Ready cause None k is = absurd (cc is)
ran standing.Ready cause (Some core) k is = cc is
ran (standing.Blocked wake) cause core k is = absurd (cc is)
ran standing.Suspended cause core k is = absurd (cc is)

abbrev runs_task : ℕ → CoreLook → Bool
runs_task task core = core.current == task

abbrev no_core : CoreLook
no_core = record { current = 0; pend = false; asked = false }

found_any : (task : ℕ) (cores : List CoreLook) (k : ℕ) → core_of task cores ≡ Some k → (core : CoreLook) × Contains cores core × (core.current ≡ task)
found_any task cores k is = by (nat_lt (position_or_len (runs_task task) cores) (length cores)) refl is
  where
    by : (b : Bool) → nat_lt (position_or_len (runs_task task) cores) (length cores) ≡ b → cond b (Some (position_or_len (runs_task task) cores)) None ≡ Some k
        → (core : CoreLook) × Contains cores core × (core.current ≡ task)
    by true early is =
        let at : ℕ = position_or_len (runs_task task) cores in
        let within : at < length cores = grind (arith, nat_tests, early) in
        let core : CoreLook = get_or cores at no_core in
        let passes : (core.current == task) ≡ true = passes_at_first (runs_task task) cores no_core within in
        let same : core.current ≡ task = grind (arith, nat_tests, passes) in
        (core, Contains-get_or cores at no_core within, same)
    by false late is = absurd (cc is)

-- ---- of a run that is drawn

module _ (shown : Shown) (top : ℕ)
    (wide : (look : Look) → Contains shown.run_looks.looks look → length look.cores ≡ shown.header.config.cores)
    (held : (look : Look) (hold : Hold) → Contains shown.run_looks.looks look → look.hold ≡ Some hold → hold.core < shown.header.config.cores) where
  abbrev cores : ℕ
  cores = shown.header.config.cores

  abbrev users : ℕ
  users = length shown.header.tasks

  abbrev looks : List Look
  looks = shown.run_looks.looks

  abbrev first : ℕ
  first = shown.frame.first

  abbrev detail : Detail
  detail = detail_for shown.header first looks

  abbrev IsUsed : Sign → Type 0
  IsUsed wanted = is_used shown wanted ≡ true

  -- a bar of that ink is drawn
  abbrev HasInk : Ink → Type 0
  HasInk tint = (bar : Bar) × Contains (all_bars shown top) bar × (bar.ink ≡ tint)

  -- ---- the bars of a row are among all

  abbrev ticks : List Bar
  ticks = tick_bars shown top

  abbrev of_cores : List Bar
  of_cores = core_bars shown top

  abbrev of_tasks : List Bar
  of_tasks = task_bars shown top

  abbrev of_mutexes : List Bar
  of_mutexes = mutex_bars shown top

  abbrev of_queues : List Bar
  of_queues = queue_bars shown top

  abbrev of_steps : List Bar
  of_steps = step_bars shown top

  abbrev core_parts : ℕ → List Bar
  core_parts core = current_bars shown top core ++ due_bars shown top core ++ hold_bars shown top core

  abbrev task_parts : ℕ → List Bar
  task_parts user = pose_bars shown top user ++ inherited_bars shown top user ++ off_bars shown top user

  in_core : (bar : Bar) (core : ℕ) → core < cores → Contains (core_parts core) bar → Contains (all_bars shown top) bar
  in_core bar core few has =
      Contains-append_left (ticks ++ of_cores ++ of_tasks ++ of_mutexes ++ of_queues) of_steps bar
      (Contains-append_left (ticks ++ of_cores ++ of_tasks ++ of_mutexes) of_queues bar
      (Contains-append_left (ticks ++ of_cores ++ of_tasks) of_mutexes bar
      (Contains-append_left (ticks ++ of_cores) of_tasks bar
      (Contains-append_right ticks of_cores bar (flat_to core_parts (numbers cores) core bar (number_to cores core few) has)))))

  in_task : (bar : Bar) (user : ℕ) → user < users → Contains (task_parts user) bar → Contains (all_bars shown top) bar
  in_task bar user few has =
      Contains-append_left (ticks ++ of_cores ++ of_tasks ++ of_mutexes ++ of_queues) of_steps bar
      (Contains-append_left (ticks ++ of_cores ++ of_tasks ++ of_mutexes) of_queues bar
      (Contains-append_left (ticks ++ of_cores ++ of_tasks) of_mutexes bar
      (Contains-append_right (ticks ++ of_cores) of_tasks bar (flat_to task_parts (numbers users) user bar (number_to users user few) has))))

  in_mutex : (bar : Bar) (k : ℕ) → k < length (taken_mutexes shown.header looks) → Contains (taken_bars shown top k) bar → Contains (all_bars shown top) bar
  in_mutex bar k few has =
      Contains-append_left (ticks ++ of_cores ++ of_tasks ++ of_mutexes ++ of_queues) of_steps bar
      (Contains-append_left (ticks ++ of_cores ++ of_tasks ++ of_mutexes) of_queues bar
      (Contains-append_right (ticks ++ of_cores ++ of_tasks) of_mutexes bar
      (flat_to (taken_bars shown top) (numbers (length (taken_mutexes shown.header looks))) k bar
      (number_to (length (taken_mutexes shown.header looks)) k few) has)))

  in_queue : (bar : Bar) (k : ℕ) → k < length (changed_queues shown.header looks) → Contains (changed_bars shown top k) bar → Contains (all_bars shown top) bar
  in_queue bar k few has =
      Contains-append_left (ticks ++ of_cores ++ of_tasks ++ of_mutexes ++ of_queues) of_steps bar
      (Contains-append_right (ticks ++ of_cores ++ of_tasks ++ of_mutexes) of_queues bar
      (flat_to (changed_bars shown top) (numbers (length (changed_queues shown.header looks))) k bar
      (number_to (length (changed_queues shown.header looks)) k few) has))

  -- ---- what is seen is drawn

  module _ {X : Type 0} (same : X → X → Bool) (tells : (a b : X) → Decides (same a b) (a ≡ b)) (in_look : Look → X) where
    abbrev spans : List (Stretch X)
    spans = stretches_of same first (map in_look looks)

    value_seen : (look : Look) → Contains looks look → HasValue spans (in_look look)
    value_seen look has = value_to same tells first (map in_look looks) (in_look look) (map_to in_look looks look has)

    -- a bar is that of a look
    look_seen : (shape : Stretch X → List Bar) (bar : Bar) → Contains (flat_map shape spans) bar
        → (look : Look) × (stretch : Stretch X) × Contains looks look × (stretch.value ≡ in_look look) × Contains (shape stretch) bar
    look_seen shape bar has =
        let found = flat_from shape spans bar has in
        let value = value_from same tells first (map in_look looks) found.0.value (found.0, found.1, refl) in
        let seen = map_from in_look looks found.0.value value in
        (seen.0, found.0, seen.1, sym seen.2, found.2)

  current_drawn : (core : ℕ) (look : Look) → core < cores → Contains looks look → HasInk (task_ink cores (current_in core look))
  unfolding current_stretches
  current_drawn core look few has =
      let found = value_seen nat_eq numbers_decided (current_in core) look has in
      let bar : Bar = bar_over (task_ink cores found.0.value) (core_top top core + 10) 24 found.0 in (
        bar,
        in_core bar core few (Contains-append_left (current_bars shown top core ++ due_bars shown top core) (hold_bars shown top core) bar
            (Contains-append_left (current_bars shown top core) (due_bars shown top core) bar
            (flat_to (current_shape cores (core_top top core)) (spans nat_eq numbers_decided (current_in core)) found.0 bar found.1 (here bar [])))),
        ap (task_ink cores) found.2,
      )

  due_drawn : (core : ℕ) (look : Look) → core < cores → Contains looks look → ((core_in core look).pend || (core_in core look).asked) ≡ true → HasInk ink.Due
  unfolding due_stretches
  due_drawn core look few has is =
      let found = value_seen are_same_dues dues_decided (due_in core) look has in
      let bar : Bar = bar_over ink.Due (core_top top core + 10) 4 found.0 in
      let due : (found.0.value.pend || found.0.value.asked) ≡ true = ap (λ (due : Due). due.pend || due.asked) found.2 ∙ is in (
        bar,
        in_core bar core few (Contains-append_left (current_bars shown top core ++ due_bars shown top core) (hold_bars shown top core) bar
            (Contains-append_right (current_bars shown top core) (due_bars shown top core) bar
            (flat_to (due_shape (core_top top core)) (spans are_same_dues dues_decided (due_in core)) found.0 bar found.1
            (drawn_one (found.0.value.pend || found.0.value.asked) bar due)))),
        refl,
      )

  hold_drawn : (core : ℕ) (look : Look) → core < cores → Contains looks look → is_some (hold_in core look) ≡ true → HasInk ink.Held
  unfolding hold_stretches
  hold_drawn core look few has is =
      let found = value_seen (are_same_options are_same_holds) holds_decided (hold_in core) look has in
      let bar : Bar = bar_over ink.Held (core_top top core + 30) 4 found.0 in
      let due : is_some found.0.value ≡ true = ap (λ (hold : Option Hold). is_some hold) found.2 ∙ is in (
        bar,
        in_core bar core few (Contains-append_right (current_bars shown top core ++ due_bars shown top core) (hold_bars shown top core) bar
            (flat_to (hold_shape (core_top top core)) (spans (are_same_options are_same_holds) holds_decided (hold_in core)) found.0 bar found.1
            (drawn_one (is_some found.0.value) bar due))),
        refl,
      )

  inherited_drawn : (user : ℕ) (look : Look) → user < users → Contains looks look
      → not ((status_in (cores + user) look).in_use == (status_in (cores + user) look).base) ≡ true → HasInk ink.Inherited
  unfolding priority_stretches
  inherited_drawn user look few has is =
      let found = value_seen are_same_priorities priorities_decided (priorities_in (cores + user)) look has in
      let bar : Bar = bar_over ink.Inherited (task_top shown top user + 20) 3 found.0 in
      let differ : not (found.0.value.in_use == found.0.value.base) ≡ true = ap (λ (p : Priorities). not (p.in_use == p.base)) found.2 ∙ is in (
        bar,
        in_task bar user few (Contains-append_left (pose_bars shown top user ++ inherited_bars shown top user) (off_bars shown top user) bar
            (Contains-append_right (pose_bars shown top user) (inherited_bars shown top user) bar
            (flat_to (inherited_shape (task_top shown top user)) (spans are_same_priorities priorities_decided (priorities_in (cores + user))) found.0 bar
            found.1 (drawn_one (not (found.0.value.in_use == found.0.value.base)) bar differ)))),
        refl,
      )

  off_drawn : (user : ℕ) (look : Look) → user < users → Contains looks look → not (preempt_in (cores + user) look) ≡ true → HasInk ink.Off
  unfolding preempt_stretches
  off_drawn user look few has is =
      let found = value_seen are_same_bools flags_decided (preempt_in (cores + user)) look has in
      let bar : Bar = bar_over ink.Off (task_top shown top user) 3 found.0 in
      let off : not found.0.value ≡ true = ap not found.2 ∙ is in (
        bar,
        in_task bar user few (Contains-append_right (pose_bars shown top user ++ inherited_bars shown top user) (off_bars shown top user) bar
            (flat_to (off_shape (task_top shown top user)) (spans are_same_bools flags_decided (preempt_in (cores + user))) found.0 bar found.1
            (drawn_one (not found.0.value) bar off))),
        refl,
      )

  pose_drawn_by : (given : Detail) (user y : ℕ) (look : Look) → Contains looks look
      → (bar : Bar) × Contains (flat_map (pose_shape user y) (detailed_stretches given first looks (cores + user))) bar
      × (bar.ink ≡ stance_ink user (stance_in (cores + user) look))
  unfolding pose_stretches stance_stretches
  pose_drawn_by EachPlace user y look has =
      let found = value_seen are_same_poses poses_decided (pose_in (cores + user)) look has in
      let bar : Bar = stance_shape user y (stance_stretch found.0) in (
        bar,
        flat_to (pose_shape user y) (spans are_same_poses poses_decided (pose_in (cores + user))) found.0 bar found.1 (here bar []),
        ap (λ (pose : Pose). stance_ink user pose.stance) found.2,
      )
  pose_drawn_by FirstPlace user y look has =
      let found = value_seen are_same_stances stances_decided (stance_in (cores + user)) look has in
      let bar : Bar = stance_shape user y found.0 in
      let all = spans are_same_stances stances_decided (stance_in (cores + user)) in (
        bar,
        subst (λ bars. Contains bars bar) (flat_mapped (pose_shape user y) (opening first looks (cores + user)) all)
            (flat_to (λ stretch. pose_shape user y (opening first looks (cores + user) stretch)) all found.0 bar found.1 (here bar [])),
        ap (stance_ink user) found.2,
      )

  pose_drawn : (user : ℕ) (look : Look) → user < users → Contains looks look → HasInk (stance_ink user (stance_in (cores + user) look))
  pose_drawn user look few has =
      let found = pose_drawn_by detail user (task_top shown top user) look has in (
        found.0,
        in_task found.0 user few (Contains-append_left (pose_bars shown top user ++ inherited_bars shown top user) (off_bars shown top user) found.0
            (Contains-append_left (pose_bars shown top user) (inherited_bars shown top user) found.0 found.1)),
        found.2,
      )

  held_one : (y task : ℕ) (stretch : Stretch (Option ℕ)) (holder : Option ℕ) → holder ≡ Some task → Contains (held_over cores y stretch holder)
      (bar_over (ink.Taken (task - cores)) y 14 stretch)
  held_one y task stretch holder is = subst (λ o. Contains (held_over cores y stretch o) (bar_over (ink.Taken (task - cores)) y 14 stretch)) (sym is)
      (here (bar_over (ink.Taken (task - cores)) y 14 stretch) [])

  some_of : {X : Type 0} (o : Option X) → is_some o ≡ true → (x : X) × (o ≡ Some x)
  some_of None is = absurd (true≢false (sym is))
  some_of (Some x) is = (x, refl)

  taken_drawn : (mutex : ℕ) → mutex < shown.header.config.mutexes → is_taken looks mutex ≡ true → (bar : Bar) × Contains (all_bars shown top) bar
      × (sign_of bar.ink ≡ Some sign.Taken)
  unfolding holder_stretches
  taken_drawn mutex few is =
      let seen = any_from (λ look. is_some (holder_in mutex look)) looks is in
      let task = some_of (holder_in mutex seen.0) seen.2 in
      let found = value_seen are_same_numbers holders_decided (holder_in mutex) seen.0 seen.1 in
      let row = filter_to (is_taken looks) (numbers shown.header.config.mutexes) mutex (number_to shown.header.config.mutexes mutex few) is in
      let here_is : slice_index_or (taken_mutexes shown.header looks) row.0 0 ≡ mutex =
      get_or_default (taken_mutexes shown.header looks) row.0 0 mutex row.1 ∙ row.2 in
      let y = mutex_top shown top row.0 in
      let bar : Bar = bar_over (ink.Taken (task.0 - cores)) y 14 found.0 in (
        bar,
        in_mutex bar row.0 row.1 (subst (λ m. Contains (flat_map (held_shape cores y) (holder_stretches first looks m)) bar) (sym here_is)
            (flat_to (held_shape cores y) (spans are_same_numbers holders_decided (holder_in mutex)) found.0 bar found.1
            (held_one y task.0 found.0 found.0.value (found.2 ∙ task.1)))),
        refl,
      )

  -- a number that is not 0 is among those that differ
  some_above : (values : List ℕ) → do_differ values ≡ true → (value : ℕ) × Contains values value × (not (value == 0) ≡ true)
  some_above [] is = absurd (true≢false (sym is))
  some_above (one ∷ others) is =
      let other = any_from (λ o. not (o == one)) (one ∷ others) is in
      at (one == 0) refl other.0 other.1 other.2
    where
      at : (b : Bool) → (one == 0) ≡ b → (other : ℕ) → Contains (one ∷ others) other → not (other == one) ≡ true
          → (value : ℕ) × Contains (one ∷ others) value × (not (value == 0) ≡ true)
      at true zero_one other has differs =
          let none_first : one ≡ 0 = grind (arith, nat_tests, zero_one) in
          (other, has, subst (λ n. not (other == n) ≡ true) none_first differs)
      at false some other has differs = (one, here one others, ap not some)

  changed_drawn : (queue : ℕ) → queue < queues_of shown.header → is_changed looks queue ≡ true → (bar : Bar) × Contains (all_bars shown top) bar
      × (sign_of bar.ink ≡ Some sign.Messages)
  unfolding message_stretches
  changed_drawn queue few is =
      let above = some_above (map (messages_in queue) looks) is in
      let seen = map_from (messages_in queue) looks above.0 above.1 in
      let found = value_seen nat_eq numbers_decided (messages_in queue) seen.0 seen.1 in
      let row = filter_to (is_changed looks) (numbers (queues_of shown.header)) queue (number_to (queues_of shown.header) queue few) is in
      let here_is : slice_index_or (changed_queues shown.header looks) row.0 0 ≡ queue =
      get_or_default (changed_queues shown.header looks) row.0 0 queue row.1 ∙ row.2 in
      let y = queue_top shown top row.0 in
      let bar : Bar = bar_over (ink.Messages found.0.value) y 14 found.0 in
      let some : not (found.0.value == 0) ≡ true = ap (λ n. not (n == 0)) (found.2 ∙ seen.2) ∙ above.2 in (
        bar,
        in_queue bar row.0 row.1 (subst (λ q. Contains (flat_map (messages_shape y) (message_stretches first looks q)) bar) (sym here_is)
            (flat_to (messages_shape y) (spans nat_eq numbers_decided (messages_in queue)) found.0 bar found.1
            (drawn_one (not (found.0.value == 0)) bar some))),
        refl,
      )

  -- ---- what is drawn is seen

  -- a test of a core that is the current one of none
  core_there : (core : ℕ) (look : Look) → core < cores → Contains looks look → Contains look.cores (core_in core look)
  core_there core look few has =
      Contains-get_or look.cores core no_core (omega (arith, few, wide look has))

  -- the sign is that of the ink, and used
  used_so : (given wanted : Sign) (tint other : Ink) → sign_of other ≡ Some given → tint ≡ other → sign_of tint ≡ Some wanted → IsUsed given → IsUsed wanted
  used_so given wanted tint other of_other same is used =
      let one : Some given ≡ Some wanted = sym of_other ∙ sym (ap sign_of same) ∙ is in
      let equal : given ≡ wanted = cc one in
      subst IsUsed equal used

  not_seen : (wanted : Sign) (tint other : Ink) → sign_of other ≡ None → tint ≡ other → sign_of tint ≡ Some wanted → IsUsed wanted
  not_seen wanted tint other of_other same is =
      let one : None ≡ Some wanted = sym of_other ∙ sym (ap sign_of same) ∙ is in
      absurd (cc one)

  used_by_current : (core : ℕ) (look : Look) (wanted : Sign) (tint : Ink) → core < cores → Contains looks look → tint ≡ task_ink cores (current_in core look)
      → sign_of tint ≡ Some wanted → IsUsed wanted
  used_by_current core look wanted tint few has same is = at (nat_lt (current_in core look) cores) refl
    where
      at : (b : Bool) → nat_lt (current_in core look) cores ≡ b → IsUsed wanted
      at true idle =
          used_so sign.Idle wanted tint ink.Idle refl (same ∙ ap (λ b. if b then ink.Idle else ink.Runs (current_in core look - cores)) idle) is
          (any_to (has_idle cores) looks look has (any_to (λ one. nat_lt one.current cores) look.cores (core_in core look) (core_there core look few has) idle))
      at false user =
          used_so sign.Running wanted tint (ink.Runs (current_in core look - cores)) refl
          (same ∙ ap (λ b. if b then ink.Idle else ink.Runs (current_in core look - cores)) user) is
          (any_to (has_user cores) looks look has
          (any_to (λ one. not (nat_lt one.current cores)) look.cores (core_in core look) (core_there core look few has) (ap not user)))

  used_by_stance : (user : ℕ) (look : Look) (wanted : Sign) (tint : Ink) (stance : Stance) → user < users → Contains looks look
      → stance_in (cores + user) look ≡ stance → tint ≡ stance_ink user stance → sign_of tint ≡ Some wanted → IsUsed wanted
  used_by_stance user look wanted tint (Runs core) few has stands same is =
      let runs = found_any (cores + user) look.cores core (ran (status_in (cores + user) look).standing
      (status_in (cores + user) look).cause (core_of (cores + user) look.cores) core stands) in
      let user_runs : nat_lt (runs.0).current cores ≡ false = grind (arith, nat_tests, runs.2) in
      used_so sign.Running wanted tint (ink.Runs user) refl same is
      (any_to (has_user cores) looks look has (any_to (λ one. not (nat_lt one.current cores)) look.cores runs.0 runs.1 (ap not user_runs)))
  used_by_stance user look wanted tint Ready few has stands same is =
      used_so sign.Ready wanted tint (ink.Ready user) refl same is
      (any_to (has_ready shown.header) looks look has
      (any_to (λ u. stands_ready (stance_in (cores + u) look)) (numbers users) user (number_to users user few) (ap stands_ready stands)))
  used_by_stance user look wanted tint (Blocked wake cause) few has stands same is =
      used_so sign.Blocked wanted tint ink.Waits refl same is
      (any_to (has_blocked shown.header) looks look has
      (any_to (λ u. is_blocked (stance_in (cores + u) look)) (numbers users) user (number_to users user few) (ap is_blocked stands)))
  used_by_stance user look wanted tint Suspended few has stands same is =
      used_so sign.Suspended wanted tint ink.Suspended refl same is
      (any_to (has_suspended shown.header) looks look has
      (any_to (λ u. is_away (stance_in (cores + u) look)) (numbers users) user (number_to users user few) (ap is_away stands)))

  module _ (bar : Bar) (wanted : Sign) (is : sign_of bar.ink ≡ Some wanted) where
    by_ticks : Contains ticks bar → IsUsed wanted
    unfolding tick_stretches
    by_ticks has =
        let seen = look_seen nat_eq numbers_decided tick_in (tick_shape (top + 16)) bar has in
        let one : bar_over (tick_ink seen.1.value) (top + 16) 14 seen.1 ≡ bar = single _ bar seen.4 in
        not_seen wanted bar.ink (tick_ink seen.1.value) (silent (seen.1.value % 2 == 0)) (sym (ap (λ (b : Bar). b.ink) one)) is
      where
        silent : (b : Bool) → sign_of (if b then ink.EvenTick else ink.OddTick) ≡ None
        silent true = refl
        silent false = refl

    by_current : (core : ℕ) → core < cores → Contains (current_bars shown top core) bar → IsUsed wanted
    unfolding current_stretches
    by_current core few has =
        let seen = look_seen nat_eq numbers_decided (current_in core) (current_shape cores (core_top top core)) bar has in
        let one : bar_over (task_ink cores seen.1.value) (core_top top core + 10) 24 seen.1 ≡ bar = single _ bar seen.4 in
        used_by_current core seen.0 wanted bar.ink few seen.2 (sym (ap (λ (b : Bar). b.ink) one) ∙ ap (task_ink cores) seen.3) is

    by_due : (core : ℕ) → core < cores → Contains (due_bars shown top core) bar → IsUsed wanted
    unfolding due_stretches
    by_due core few has =
        let seen = look_seen are_same_dues dues_decided (due_in core) (due_shape (core_top top core)) bar has in
        let one = one_drawn (seen.1.value.pend || seen.1.value.asked) (bar_over ink.Due (core_top top core + 10) 4 seen.1) bar seen.4 in
        let due : ((core_in core seen.0).pend || (core_in core seen.0).asked) ≡ true =
        sym (ap (λ (d : Due). d.pend || d.asked) seen.3) ∙ one.0 in
        used_so sign.Due wanted bar.ink ink.Due refl (sym (ap (λ (b : Bar). b.ink) one.1)) is
        (any_to has_due looks seen.0 seen.2
        (any_to (λ look. look.pend || look.asked) seen.0.cores (core_in core seen.0) (core_there core seen.0 few seen.2) due))

    by_hold : (core : ℕ) → core < cores → Contains (hold_bars shown top core) bar → IsUsed wanted
    unfolding hold_stretches
    by_hold core few has =
        let seen = look_seen (are_same_options are_same_holds) holds_decided (hold_in core) (hold_shape (core_top top core)) bar has in
        let one = one_drawn (is_some seen.1.value) (bar_over ink.Held (core_top top core + 30) 4 seen.1) bar seen.4 in
        let holds : is_some (hold_in core seen.0) ≡ true = sym (ap (λ (h : Option Hold). is_some h) seen.3) ∙ one.0 in
        used_so sign.Held wanted bar.ink ink.Held refl (sym (ap (λ (b : Bar). b.ink) one.1)) is
        (any_to is_held looks seen.0 seen.2 (some_held seen.0.hold holds))
      where
        some_held : (hold : Option Hold) → is_some (own_hold core hold) ≡ true → is_some hold ≡ true
        some_held None holds = holds
        some_held (Some hold) holds = refl

    by_pose_of : (given : Detail) (user y : ℕ) → user < users
        → Contains (flat_map (pose_shape user y) (detailed_stretches given first looks (cores + user))) bar → IsUsed wanted
    unfolding pose_stretches stance_stretches
    by_pose_of EachPlace user y few has =
        let seen = look_seen are_same_poses poses_decided (pose_in (cores + user)) (pose_shape user y) bar has in
        let one : stance_shape user y (stance_stretch seen.1) ≡ bar = single _ bar seen.4 in
        let stands : seen.1.value.stance ≡ stance_in (cores + user) seen.0 = ap (λ (pose : Pose). pose.stance) seen.3 in
        used_by_stance user seen.0 wanted bar.ink (stance_in (cores + user) seen.0) few seen.2 refl
        (sym (ap (λ (b : Bar). b.ink) one) ∙ ap (stance_ink user) stands) is
    by_pose_of FirstPlace user y few has =
        let all = stretches_of are_same_stances first (map (stance_in (cores + user)) looks) in
        let shape = λ (stretch : Stretch Stance). pose_shape user y (opening first looks (cores + user) stretch) in
        let seen = look_seen are_same_stances stances_decided (stance_in (cores + user)) shape bar
        (subst (λ bars. Contains bars bar) (sym (flat_mapped (pose_shape user y) (opening first looks (cores + user)) all)) has) in
        let one : stance_shape user y seen.1 ≡ bar = single _ bar seen.4 in
        used_by_stance user seen.0 wanted bar.ink (stance_in (cores + user) seen.0) few seen.2 refl
        (sym (ap (λ (b : Bar). b.ink) one) ∙ ap (stance_ink user) seen.3) is

    by_inherited : (user : ℕ) → user < users → Contains (inherited_bars shown top user) bar → IsUsed wanted
    unfolding priority_stretches
    by_inherited user few has =
        let seen = look_seen are_same_priorities priorities_decided (priorities_in (cores + user)) (inherited_shape (task_top shown top user)) bar has in
        let one = one_drawn (not (seen.1.value.in_use == seen.1.value.base)) (bar_over ink.Inherited (task_top shown top user + 20) 3 seen.1) bar seen.4 in
        let differ = sym (ap (λ (p : Priorities). not (p.in_use == p.base)) seen.3) ∙ one.0 in
        used_so sign.Inherited wanted bar.ink ink.Inherited refl (sym (ap (λ (b : Bar). b.ink) one.1)) is
        (any_to (has_inherited shown.header) looks seen.0 seen.2
        (any_to (λ u. not ((status_in (cores + u) seen.0).in_use == (status_in (cores + u) seen.0).base)) (numbers users) user
        (number_to users user few) differ))

    by_off : (user : ℕ) → user < users → Contains (off_bars shown top user) bar → IsUsed wanted
    unfolding preempt_stretches
    by_off user few has =
        let seen = look_seen are_same_bools flags_decided (preempt_in (cores + user)) (off_shape (task_top shown top user)) bar has in
        let one = one_drawn (not seen.1.value) (bar_over ink.Off (task_top shown top user) 3 seen.1) bar seen.4 in
        let off = sym (ap not seen.3) ∙ one.0 in
        used_so sign.PreemptionOff wanted bar.ink ink.Off refl (sym (ap (λ (b : Bar). b.ink) one.1)) is
        (any_to (has_unpreempted shown.header) looks seen.0 seen.2
        (any_to (λ u. not (preempt_in (cores + u) seen.0)) (numbers users) user (number_to users user few) off))

    by_holder : (y : ℕ) (stretch : Stretch (Option ℕ)) (holder : Option ℕ) → Contains (held_over cores y stretch holder) bar → (is_some holder ≡ true) × (task : ℕ)
        × (bar.ink ≡ ink.Taken task)
    by_holder y stretch None has = absurd (none bar has)
    by_holder y stretch (Some task) has = (refl, task - cores, sym (ap (λ (b : Bar). b.ink) (single _ bar has)))

    by_taken : (k : ℕ) → k < length (taken_mutexes shown.header looks) → Contains (taken_bars shown top k) bar → IsUsed wanted
    unfolding holder_stretches
    by_taken k few has =
        let mutex = slice_index_or (taken_mutexes shown.header looks) k 0 in
        let row = filter_from (is_taken looks) (numbers shown.header.config.mutexes) mutex (Contains-get_or (taken_mutexes shown.header looks) k 0 few) in
        let seen = look_seen are_same_numbers holders_decided (holder_in mutex) (held_shape cores (mutex_top shown top k)) bar has in
        let one = by_holder (mutex_top shown top k) seen.1 seen.1.value seen.4 in
        used_so sign.Taken wanted bar.ink (ink.Taken one.1) refl one.2 is
        (any_to (is_taken looks) (numbers shown.header.config.mutexes) mutex row.0 row.1)

    by_changed : (k : ℕ) → k < length (changed_queues shown.header looks) → Contains (changed_bars shown top k) bar → IsUsed wanted
    unfolding message_stretches
    by_changed k few has =
        let queue = slice_index_or (changed_queues shown.header looks) k 0 in
        let row = filter_from (is_changed looks) (numbers (queues_of shown.header)) queue (Contains-get_or (changed_queues shown.header looks) k 0 few) in
        let seen = look_seen nat_eq numbers_decided (messages_in queue) (messages_shape (queue_top shown top k)) bar has in
        let one = one_drawn (not (seen.1.value == 0)) (bar_over (ink.Messages seen.1.value) (queue_top shown top k) 14 seen.1) bar seen.4 in
        used_so sign.Messages wanted bar.ink (ink.Messages seen.1.value) refl (sym (ap (λ (b : Bar). b.ink) one.1)) is
        (any_to (is_changed looks) (numbers (queues_of shown.header)) queue row.0 row.1)

    by_steps : Contains of_steps bar → IsUsed wanted
    by_steps has =
        let found = flat_from (step_shape first top shown.run_looks.made) (numbers (length looks)) bar has in
        let one = one_drawn _ _ bar found.2 in
        not_seen wanted bar.ink ink.Clear refl (sym (ap (λ (b : Bar). b.ink) one.1)) is

    by_core : (core : ℕ) → core < cores → Contains (core_parts core) bar → IsUsed wanted
    by_core core few has = elim (Contains-append_cases (current_bars shown top core ++ due_bars shown top core) (hold_bars shown top core) bar has) [
      | inl two ↦ elim (Contains-append_cases (current_bars shown top core) (due_bars shown top core) bar two) [
        | inl one ↦ by_current core few one
        | inr one ↦ by_due core few one
      ]
      | inr one ↦ by_hold core few one
    ]

    by_task : (user : ℕ) → user < users → Contains (task_parts user) bar → IsUsed wanted
    by_task user few has = elim (Contains-append_cases (pose_bars shown top user ++ inherited_bars shown top user) (off_bars shown top user) bar has) [
      | inl two ↦ elim (Contains-append_cases (pose_bars shown top user) (inherited_bars shown top user) bar two) [
        | inl one ↦ by_pose_of detail user (task_top shown top user) few one
        | inr one ↦ by_inherited user few one
      ]
      | inr one ↦ by_off user few one
    ]

    by_cores : Contains of_cores bar → IsUsed wanted
    by_cores has = let found = flat_from core_parts (numbers cores) bar has in by_core found.0 (number_from cores found.0 found.1) found.2

    by_tasks : Contains of_tasks bar → IsUsed wanted
    by_tasks has = let found = flat_from task_parts (numbers users) bar has in by_task found.0 (number_from users found.0 found.1) found.2

    by_mutexes : Contains of_mutexes bar → IsUsed wanted
    by_mutexes has =
        let rows = length (taken_mutexes shown.header looks) in
        let found = flat_from (taken_bars shown top) (numbers rows) bar has in by_taken found.0 (number_from rows found.0 found.1) found.2

    by_queues : Contains of_queues bar → IsUsed wanted
    by_queues has =
        let rows = length (changed_queues shown.header looks) in
        let found = flat_from (changed_bars shown top) (numbers rows) bar has in by_changed found.0 (number_from rows found.0 found.1) found.2

    by_bar : Contains (all_bars shown top) bar → IsUsed wanted
    by_bar has = elim (Contains-append_cases (ticks ++ of_cores ++ of_tasks ++ of_mutexes ++ of_queues) of_steps bar has) [
      | inl five ↦ elim (Contains-append_cases (ticks ++ of_cores ++ of_tasks ++ of_mutexes) of_queues bar five) [
        | inl four ↦ elim (Contains-append_cases (ticks ++ of_cores ++ of_tasks) of_mutexes bar four) [
          | inl three ↦ elim (Contains-append_cases (ticks ++ of_cores) of_tasks bar three) [
            | inl two ↦ elim (Contains-append_cases ticks of_cores bar two) [
              | inl one ↦ by_ticks one
              | inr one ↦ by_cores one
            ]
            | inr one ↦ by_tasks one
          ]
          | inr one ↦ by_mutexes one
        ]
        | inr one ↦ by_queues one
      ]
      | inr one ↦ by_steps one
    ]

  by_mark : (k : ℕ) (given : Mark) → k < length looks → mark_at shown.run_looks.made k ≡ Some given → IsUsed (sign_of_mark given)
  by_mark k mark.Interrupt within made = any_to (λ k. is_interrupt (mark_at shown.run_looks.made k)) (numbers (length looks)) k
      (number_to (length looks) k within) (ap is_interrupt made)
  by_mark k mark.Refused within made = any_to (λ k. is_refusal (mark_at shown.run_looks.made k)) (numbers (length looks)) k
      (number_to (length looks) k within) (ap is_refusal made)

  -- where that makes a place that is shown pale
  abbrev pale : ℕ → Option ℕ
  pale place = if is_pale shown.frame (length looks) place then Some place else None

  by_unknown : (has : HasUnknown shown sign.Unknown) → IsUsed sign.Unknown
  by_unknown has =
      let there : is_pale shown.frame (length looks) has.from ≡ true = grind (arith, nat_tests, has.within, has.behind) in
      ap (λ (known : Option ℕ). is_some (option_and_then pale known)) has.known ∙ ap (λ b. is_some (if b then Some has.from else None)) there

  pub drawn_used : (wanted : Sign) → IsDrawn shown top wanted → IsUsed wanted
  drawn_used wanted (inl has) = by_bar has.bar wanted has.so has.drawn
  drawn_used wanted (inr (inl has)) = subst IsUsed has.so (by_mark has.k has.mark has.within has.made)
  drawn_used wanted (inr (inr has)) =
      subst IsUsed (sym has.so)
      (by_unknown (record { from = has.from; known = has.known; k = has.k; within = has.within; behind = has.behind; so = refl }))

  -- ---- what is used is drawn

  with_ink : (tint : Ink) (wanted : Sign) → sign_of tint ≡ Some wanted → HasInk tint → IsDrawn shown top wanted
  with_ink tint wanted of_tint has = inl (record { bar = has.0; drawn = has.1; so = ap sign_of has.2 ∙ of_tint })

  some_core : (test : CoreLook → Bool) → list_any (λ (look : Look). list_any test look.cores) looks ≡ true
      → (look : Look) × (core : ℕ) × Contains looks look × (core < cores) × (test (core_in core look) ≡ true)
  some_core test used =
      let seen = any_from (λ (look : Look). list_any test look.cores) looks used in
      let one = any_from test seen.0.cores seen.2 in
      let core = one.1.0 in
      let there : core_in core seen.0 ≡ one.0 = get_or_default seen.0.cores core no_core one.0 one.1.1 ∙ one.1.2 in
      (seen.0, core, seen.1, omega (arith, one.1.1, wide seen.0 seen.1), ap test there ∙ one.2)

  some_user : (test : ℕ → Look → Bool) → list_any (λ (look : Look). list_any (λ user. test user look) (numbers users)) looks ≡ true
      → (look : Look) × (user : ℕ) × Contains looks look × (user < users) × (test user look ≡ true)
  some_user test used =
      let seen = any_from (λ (look : Look). list_any (λ user. test user look) (numbers users)) looks used in
      let one = any_from (λ user. test user seen.0) (numbers users) seen.2 in
      (seen.0, one.0, seen.1, number_from users one.0 one.1, one.2)

  ready_is : (stance : Stance) (user : ℕ) → stands_ready stance ≡ true → sign_of (stance_ink user stance) ≡ Some sign.Ready
  ready_is Ready user is = refl
  ready_is (Runs core) user is = absurd (true≢false (sym is))
  ready_is (Blocked wake cause) user is = absurd (true≢false (sym is))
  ready_is Suspended user is = absurd (true≢false (sym is))

  blocked_is : (stance : Stance) (user : ℕ) → is_blocked stance ≡ true → sign_of (stance_ink user stance) ≡ Some sign.Blocked
  blocked_is Ready user is = absurd (true≢false (sym is))
  blocked_is (Runs core) user is = absurd (true≢false (sym is))
  blocked_is (Blocked wake cause) user is = refl
  blocked_is Suspended user is = absurd (true≢false (sym is))

  away_is : (stance : Stance) (user : ℕ) → is_away stance ≡ true → sign_of (stance_ink user stance) ≡ Some sign.Suspended
  away_is Ready user is = absurd (true≢false (sym is))
  away_is (Runs core) user is = absurd (true≢false (sym is))
  away_is (Blocked wake cause) user is = absurd (true≢false (sym is))
  away_is Suspended user is = refl

  own_held : (hold : Option Hold) → is_some hold ≡ true → (core : ℕ) × (one : Hold) × (hold ≡ Some one) × (one.core ≡ core) × (is_some (own_hold core hold) ≡ true)
  own_held None is = absurd (true≢false (sym is))
  own_held (Some hold) is =
      let same : (hold.core == hold.core) ≡ true = grind (arith, nat_tests) in
      (hold.core, hold, refl, refl, ap (λ b. is_some (if b then Some hold else None)) same)

  mark_is : (found : Option Mark) → is_interrupt found ≡ true → found ≡ Some mark.Interrupt
  mark_is None is = absurd (true≢false (sym is))
  mark_is (Some mark.Interrupt) is = refl
  mark_is (Some mark.Refused) is = absurd (true≢false (sym is))

  refusal_is : (found : Option Mark) → is_refusal found ≡ true → found ≡ Some mark.Refused
  refusal_is None is = absurd (true≢false (sym is))
  refusal_is (Some mark.Interrupt) is = absurd (true≢false (sym is))
  refusal_is (Some mark.Refused) is = refl

  taken_if : (b : Bool) (place : ℕ) → is_some (if b then Some place else None) ≡ true → b ≡ true
  taken_if true place is = refl
  taken_if false place is = absurd (true≢false (sym is))

  known_is : (known : Option ℕ) → is_some (option_and_then pale known) ≡ true
      → (place : ℕ) × (known ≡ Some place) × (is_pale shown.frame (length looks) place ≡ true)
  known_is None is = absurd (true≢false (sym is))
  known_is (Some place) is = (place, refl, taken_if (is_pale shown.frame (length looks) place) place is)

  pub used_drawn : (wanted : Sign) → IsUsed wanted → IsDrawn shown top wanted
  used_drawn sign.Running used =
      let seen = some_core (λ one. not (nat_lt one.current cores)) used in
      let user : nat_lt (current_in seen.1 seen.0) cores ≡ false = not_true (nat_lt (current_in seen.1 seen.0) cores) seen.4 in
      with_ink (task_ink cores (current_in seen.1 seen.0)) sign.Running
      (ap (λ b. sign_of (if b then ink.Idle else ink.Runs (current_in seen.1 seen.0 - cores))) user) (current_drawn seen.1 seen.0 seen.3 seen.2)
  used_drawn sign.Idle used =
      let seen = some_core (λ one. nat_lt one.current cores) used in
      with_ink (task_ink cores (current_in seen.1 seen.0)) sign.Idle
      (ap (λ b. sign_of (if b then ink.Idle else ink.Runs (current_in seen.1 seen.0 - cores))) seen.4) (current_drawn seen.1 seen.0 seen.3 seen.2)
  used_drawn sign.Ready used =
      let seen = some_user (λ user look. stands_ready (stance_in (cores + user) look)) used in
      with_ink (stance_ink seen.1 (stance_in (cores + seen.1) seen.0)) sign.Ready (ready_is (stance_in (cores + seen.1) seen.0) seen.1 seen.4)
      (pose_drawn seen.1 seen.0 seen.3 seen.2)
  used_drawn sign.Blocked used =
      let seen = some_user (λ user look. is_blocked (stance_in (cores + user) look)) used in
      with_ink (stance_ink seen.1 (stance_in (cores + seen.1) seen.0)) sign.Blocked (blocked_is (stance_in (cores + seen.1) seen.0) seen.1 seen.4)
      (pose_drawn seen.1 seen.0 seen.3 seen.2)
  used_drawn sign.Suspended used =
      let seen = some_user (λ user look. is_away (stance_in (cores + user) look)) used in
      with_ink (stance_ink seen.1 (stance_in (cores + seen.1) seen.0)) sign.Suspended (away_is (stance_in (cores + seen.1) seen.0) seen.1 seen.4)
      (pose_drawn seen.1 seen.0 seen.3 seen.2)
  used_drawn sign.Due used =
      let seen = some_core (λ one. one.pend || one.asked) used in with_ink ink.Due sign.Due refl (due_drawn seen.1 seen.0 seen.3 seen.2 seen.4)
  used_drawn sign.Held used =
      let seen = any_from is_held looks used in
      let own = own_held seen.0.hold seen.2 in
      let few : own.0 < cores = omega (arith, held seen.0 own.1 seen.1 own.2, own.3) in
      with_ink ink.Held sign.Held refl (hold_drawn own.0 seen.0 few seen.1 own.4)
  used_drawn sign.Inherited used =
      let seen = some_user (λ user look. not ((status_in (cores + user) look).in_use == (status_in (cores + user) look).base)) used in
      with_ink ink.Inherited sign.Inherited refl (inherited_drawn seen.1 seen.0 seen.3 seen.2 seen.4)
  used_drawn sign.PreemptionOff used =
      let seen = some_user (λ user look. not (preempt_in (cores + user) look)) used in
      with_ink ink.Off sign.PreemptionOff refl (off_drawn seen.1 seen.0 seen.3 seen.2 seen.4)
  used_drawn sign.Taken used =
      let seen = any_from (is_taken looks) (numbers shown.header.config.mutexes) used in
      let drawn = taken_drawn seen.0 (number_from shown.header.config.mutexes seen.0 seen.1) seen.2 in
      inl (record { bar = drawn.0; drawn = drawn.1; so = drawn.2 })
  used_drawn sign.Messages used =
      let seen = any_from (is_changed looks) (numbers (queues_of shown.header)) used in
      let drawn = changed_drawn seen.0 (number_from (queues_of shown.header) seen.0 seen.1) seen.2 in
      inl (record { bar = drawn.0; drawn = drawn.1; so = drawn.2 })
  used_drawn sign.Interrupt used =
      let seen = any_from (λ k. is_interrupt (mark_at shown.run_looks.made k)) (numbers (length looks)) used in
      inr (inl (record {
        k = seen.0;
        within = number_from (length looks) seen.0 seen.1;
        mark = mark.Interrupt;
        made = mark_is (mark_at shown.run_looks.made seen.0) seen.2;
        so = refl;
      }))
  used_drawn sign.Refused used =
      let seen = any_from (λ k. is_refusal (mark_at shown.run_looks.made k)) (numbers (length looks)) used in
      inr (inl (record {
        k = seen.0;
        within = number_from (length looks) seen.0 seen.1;
        mark = mark.Refused;
        made = refusal_is (mark_at shown.run_looks.made seen.0) seen.2;
        so = refl;
      }))
  used_drawn sign.Unknown used =
      let found = known_is shown.known used in
      let before : max found.0 first < first + length looks = grind (arith, nat_tests, found.2) in
      inr (inr (record {
        from = found.0;
        known = found.1;
        k = max found.0 first - first;
        within = omega (arith, before);
        behind = omega arith;
        so = refl;
      }))
