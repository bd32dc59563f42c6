-- The bars of a run, and of two runs, are laid out.
use Rattle.std.proofs.Common.{◌≡◌, ◌<◌, ◌≤◌, ℕ, zero, suc, ◌+◌, ◌-◌, List, [], ◌∷◌, ◌++◌, flat_map, length, map, min, Option, Some, None, refl, ap, subst, arith}
use Rattle.std.specs.Prelude.{◌==◌, ◌||◌, not, is_some, nat_eq, slice_index_or}
use Rattle.std.specs.List.{AllByRecursion}
use Rattle.std.proofs.lemmas.List.{length-map}
use Rattle.bench_model.specs.SameTest.{are_same_bools, are_same_holds, are_same_options}
use Rattle.run_views.specs.declared.look.Look.{Look}
use Rattle.run_views.specs.declared.places.Places.{Places}
use Rattle.run_views.specs.Changes.{are_same_numbers}
use Rattle.run_pictures.specs.declared.bar.Bar.{Bar}
use Rattle.run_pictures.specs.declared.frame.Axis.{Axis}
use Rattle.run_pictures.specs.declared.frame.Frame.{Frame}
use Rattle.run_pictures.specs.declared.frame.TheConstants.{CORE_ROW, MUTEX_ROW, QUEUE_ROW, TASK_ROW}
use Rattle.run_pictures.specs.declared.ink.Ink.TheVariants as ink
use Rattle.run_pictures.specs.declared.pose.Detail.{Detail}
use Rattle.run_pictures.specs.declared.pose.Detail.TheVariants.{EachPlace, FirstPlace}
use Rattle.run_pictures.specs.declared.shown.Due.{Due}
use Rattle.run_pictures.specs.declared.shown.Priorities.{Priorities}
use Rattle.run_pictures.specs.declared.stance.Stance.{Stance}
use Rattle.run_pictures.specs.declared.stance.Stance.TheVariants.{Runs, Ready, Blocked, Suspended}
use Rattle.run_pictures.specs.declared.stretch.Stretch.{Stretch}
use Rattle.run_pictures.specs.BarLaws.{columns_begin, columns_end, AreLaidOut, Climb, FillRow, IsWithinRow, RunIsLaidOut, RunsAreLaidOut}
use Rattle.run_pictures.specs.Bars.{bar_over, core_top, current_shape, due_shape, held_over, held_shape, hold_shape, inherited_shape, messages_shape, mutex_top, off_shape, pose_shape}
use Rattle.run_pictures.specs.Bars.{queue_top, task_top, tick_shape}
use Rattle.run_pictures.specs.Drawn.{Drawn}
use Rattle.run_pictures.specs.Frame.{column_of, pixels, scale_for, x_of}
use Rattle.run_pictures.specs.MutexLines.{taken_mutexes}
use Rattle.run_pictures.specs.Picture.{count_of, count_of_both, end_of, left_of, shown_at}
use Rattle.run_pictures.specs.Poses.{detail_for, detailed_stretches, opening, pose_in, pose_stretches}
use Rattle.run_pictures.specs.Preemption.{preempt_in, preempt_stretches}
use Rattle.run_pictures.specs.QueueLines.{changed_queues}
use Rattle.run_pictures.specs.RunLooks.{looks_of, run_looks}
use Rattle.run_pictures.specs.Same.{are_same_dues, are_same_poses, are_same_priorities, are_same_stances}
use Rattle.run_pictures.specs.Shown.{Shown}
use Rattle.run_pictures.specs.Stances.{stance_in}
use Rattle.run_pictures.specs.StretchesOf.{stretches_of}
use Rattle.run_pictures.specs.StretchValues.{dues_decided, flags_decided, holders_decided, holds_decided, numbers_decided, poses_decided, priorities_decided}
use Rattle.run_pictures.specs.StretchValues.{stances_decided}
use Rattle.run_pictures.specs.TaskBands.{stance_shape}
use Rattle.run_pictures.specs.TaskStretches.{current_in, current_stretches, due_in, due_stretches, hold_in, hold_stretches, holder_in, holder_stretches}
use Rattle.run_pictures.specs.TaskStretches.{message_stretches, messages_in, priorities_in, priority_stretches, stance_stretches, tick_in, tick_stretches}
use Rattle.run_pictures.proofs.LaidOut.{fill, fill_steps, over_where, pixels_le, within_where, IsOver}
use Rattle.run_pictures.proofs.Opened.{many_shown}

pub flat_mapped : {X Y : Type 0} (f : Y → List Bar) (g : X → Y) (xs : List X) → flat_map (λ x. f (g x)) xs ≡ flat_map f (map g xs)
flat_mapped f g [] = refl
flat_mapped f g (x ∷ xs) = ap (λ bars. f (g x) ++ bars) (flat_mapped f g xs)

over_held : (cores y : ℕ) (stretch : Stretch (Option ℕ)) (holder : Option ℕ) → IsOver stretch (held_over cores y stretch holder)
over_held cores y stretch None = tt
over_held cores y stretch (Some task) = (refl, refl)

within_held : (cores y : ℕ) (stretch : Stretch (Option ℕ)) (holder : Option ℕ) → AllByRecursion (IsWithinRow y MUTEX_ROW) (held_over cores y stretch holder)
within_held cores y stretch None = tt
within_held cores y stretch (Some task) = (record { above = omega arith; below = omega arith }, tt)

within_pose : (user y : ℕ) (first last : ℕ) (stance : Stance) → IsWithinRow y TASK_ROW
    (stance_shape user y (record { first = first; last = last; value = stance }))
within_pose user y first last (Runs core) = record { above = omega arith; below = omega arith }
within_pose user y first last Ready = record { above = omega arith; below = omega arith }
within_pose user y first last (Blocked wake cause) = record { above = omega arith; below = omega arith }
within_pose user y first last Suspended = record { above = omega arith; below = omega arith }

-- of a run whose columns climb
module _ (shown : Shown) (top right : ℕ)
    (climb : (p q : ℕ) → shown.frame.first ≤ p → p ≤ q → q ≤ shown.frame.first + length shown.run_looks.looks
    → column_of shown.frame.columns p ≤ column_of shown.frame.columns q)
    (begun : shown.frame.left ≤ column_of shown.frame.columns shown.frame.first)
    (ending : 0 < length shown.run_looks.looks → x_of shown.frame (shown.frame.first + length shown.run_looks.looks) ≤ right)
    (least : columns_begin ≤ right) where
  abbrev frame : Frame
  frame = shown.frame

  abbrev looks : List Look
  looks = shown.run_looks.looks

  abbrev cores : ℕ
  cores = shown.header.config.cores

  ticks_fill : FillRow frame right top 36 (flat_map (tick_shape (top + 16)) (tick_stretches frame.first looks))
  unfolding tick_stretches
  ticks_fill =
      fill frame (length looks) right climb begun ending least (tick_shape (top + 16)) (λ stretch. (refl, refl)) top 36
      (λ stretch. (record { above = omega arith; below = omega arith }, tt)) nat_eq numbers_decided (map tick_in looks) (length-map looks tick_in)

  currents_fill : (y core : ℕ) → FillRow frame right y CORE_ROW (flat_map (current_shape cores y) (current_stretches frame.first looks core))
  unfolding current_stretches
  currents_fill y core =
      fill frame (length looks) right climb begun ending least (current_shape cores y) (λ stretch. (refl, refl)) y CORE_ROW
      (λ stretch. (record { above = omega arith; below = omega arith }, tt)) nat_eq numbers_decided (map (current_in core) looks)
      (length-map looks (current_in core))

  dues_fill : (y core : ℕ) → FillRow frame right y CORE_ROW (flat_map (due_shape y) (due_stretches frame.first looks core))
  unfolding due_stretches
  dues_fill y core =
      let drawn = λ (stretch : Stretch Due). stretch.value.pend || stretch.value.asked in
      fill frame (length looks) right climb begun ending least (due_shape y)
      (λ stretch. over_where (drawn stretch) stretch (bar_over ink.Due (y + 10) 4 stretch) refl refl) y CORE_ROW
      (λ stretch. within_where (drawn stretch) (bar_over ink.Due (y + 10) 4 stretch) (record { above = omega arith; below = omega arith }))
      are_same_dues dues_decided (map (due_in core) looks) (length-map looks (due_in core))

  holds_fill : (y core : ℕ) → FillRow frame right y CORE_ROW (flat_map (hold_shape y) (hold_stretches frame.first looks core))
  unfolding hold_stretches
  holds_fill y core =
      fill frame (length looks) right climb begun ending least (hold_shape y)
      (λ stretch. over_where (is_some stretch.value) stretch (bar_over ink.Held (y + 30) 4 stretch) refl refl) y CORE_ROW
      (λ stretch. within_where (is_some stretch.value) (bar_over ink.Held (y + 30) 4 stretch) (record { above = omega arith; below = omega arith }))
      (are_same_options are_same_holds) holds_decided (map (hold_in core) looks) (length-map looks (hold_in core))

  inherited_fill : (y task : ℕ) → FillRow frame right y TASK_ROW (flat_map (inherited_shape y) (priority_stretches frame.first looks task))
  unfolding priority_stretches
  inherited_fill y task =
      let drawn = λ (stretch : Stretch Priorities). not (stretch.value.in_use == stretch.value.base) in
      fill frame (length looks) right climb begun ending least (inherited_shape y)
      (λ stretch. over_where (drawn stretch) stretch (bar_over ink.Inherited (y + 20) 3 stretch) refl refl) y TASK_ROW
      (λ stretch. within_where (drawn stretch) (bar_over ink.Inherited (y + 20) 3 stretch) (record { above = omega arith; below = omega arith }))
      are_same_priorities priorities_decided (map (priorities_in task) looks) (length-map looks (priorities_in task))

  offs_fill : (y task : ℕ) → FillRow frame right y TASK_ROW (flat_map (off_shape y) (preempt_stretches frame.first looks task))
  unfolding preempt_stretches
  offs_fill y task =
      fill frame (length looks) right climb begun ending least (off_shape y)
      (λ stretch. over_where (not stretch.value) stretch (bar_over ink.Off y 3 stretch) refl refl) y TASK_ROW
      (λ stretch. within_where (not stretch.value) (bar_over ink.Off y 3 stretch) (record { above = omega arith; below = omega arith }))
      are_same_bools flags_decided (map (preempt_in task) looks) (length-map looks (preempt_in task))

  taken_fill : (y mutex : ℕ) → FillRow frame right y MUTEX_ROW (flat_map (held_shape cores y) (holder_stretches frame.first looks mutex))
  unfolding holder_stretches
  taken_fill y mutex =
      fill frame (length looks) right climb begun ending least (held_shape cores y) (λ stretch. over_held cores y stretch stretch.value) y MUTEX_ROW
      (λ stretch. within_held cores y stretch stretch.value) are_same_numbers holders_decided (map (holder_in mutex) looks)
      (length-map looks (holder_in mutex))

  changed_fill : (y queue : ℕ) → FillRow frame right y QUEUE_ROW (flat_map (messages_shape y) (message_stretches frame.first looks queue))
  unfolding message_stretches
  changed_fill y queue =
      let drawn = λ (stretch : Stretch ℕ). not (stretch.value == 0) in
      let bar = λ (stretch : Stretch ℕ). bar_over (ink.Messages stretch.value) y 14 stretch in
      fill frame (length looks) right climb begun ending least (messages_shape y)
      (λ stretch. over_where (drawn stretch) stretch (bar stretch) refl refl) y QUEUE_ROW
      (λ stretch. within_where (drawn stretch) (bar stretch) (record { above = omega arith; below = omega arith }))
      nat_eq numbers_decided (map (messages_in queue) looks) (length-map looks (messages_in queue))

  poses_fill : (y user task : ℕ) (detail : Detail) → FillRow frame right y TASK_ROW
      (flat_map (pose_shape user y) (detailed_stretches detail frame.first looks task))
  unfolding pose_stretches stance_stretches
  poses_fill y user task EachPlace =
      fill frame (length looks) right climb begun ending least (pose_shape user y) (λ stretch. (refl, refl)) y TASK_ROW
      (λ stretch. (within_pose user y stretch.first stretch.last stretch.value.stance, tt)) are_same_poses poses_decided (map (pose_in task) looks)
      (length-map looks (pose_in task))
  poses_fill y user task FirstPlace =
      subst (FillRow frame right y TASK_ROW)
      (flat_mapped (pose_shape user y) (opening frame.first looks task) (stretches_of are_same_stances frame.first (map (stance_in task) looks)))
      (fill frame (length looks) right climb begun ending least (λ stretch. pose_shape user y (opening frame.first looks task stretch))
      (λ stretch. (refl, refl)) y TASK_ROW (λ stretch. (within_pose user y stretch.first stretch.last stretch.value, tt)) are_same_stances stances_decided
      (map (stance_in task) looks) (length-map looks (stance_in task)))

  pub laid_out : AreLaidOut shown top right
  laid_out = record {
    ticks = ticks_fill;
    steps = fill_steps frame (length looks) right climb begun ending least top shown.run_looks.made;
    currents = λ core few. currents_fill (core_top top core) core;
    dues = λ core few. dues_fill (core_top top core) core;
    holds = λ core few. holds_fill (core_top top core) core;
    poses = λ user few. poses_fill (task_top shown top user) user (cores + user) (detail_for shown.header frame.first looks);
    inherited = λ user few. inherited_fill (task_top shown top user) (cores + user);
    offs = λ user few. offs_fill (task_top shown top user) (cores + user);
    taken = λ k few. taken_fill (mutex_top shown top k) (slice_index_or (taken_mutexes shown.header looks) k 0);
    changed = λ k few. changed_fill (queue_top shown top k) (slice_index_or (changed_queues shown.header looks) k 0);
  }

module _ (places : Places) (axis : Axis) (run : Drawn) (climb : Climb run) (count left top : ℕ)
    (leftmost : left ≤ column_of run.columns places.from) (rightmost : end_of places run - left ≤ count) where
  climb_at : (n : ℕ) → n ≡ suc (min places.to (length run.steps)) - places.from → (p q : ℕ) → places.from ≤ p → p ≤ q → q ≤ places.from + n
      → column_of run.columns p ≤ column_of run.columns q
  climb_at zero is p q from order within = let same : p ≡ q = omega (arith, from, order, within) in omega (arith, ap (column_of run.columns) same)
  climb_at (suc n) is p q from order within = climb p q order (omega (arith, is, within))

  one_laid_out : AreLaidOut (shown_at places axis (scale_for count) left run) top (columns_end (shown_at places axis (scale_for count) left run) count)
  unfolding x_of run_looks
  one_laid_out =
      let shown = shown_at places axis (scale_for count) left run in
      let n = length (looks_of places run.header run.steps) in
      let many = many_shown places run.header run.steps in
      laid_out shown top (columns_end shown count) (climb_at n many) leftmost
      (λ some.
      let last : places.from + n ≡ suc (min places.to (length run.steps)) = omega (arith, many, some) in
      omega (
        arith,
        pixels_le (scale_for count) (column_of run.columns (places.from + n) - left) count
            (omega (arith, rightmost, ap (column_of run.columns) last)),
      )) (omega arith)

pub run_laid_out : RunIsLaidOut
run_laid_out places axis run top climbs = one_laid_out places axis run climbs (count_of places run) (column_of run.columns places.from) top (omega arith)
    (omega arith)

pub runs_laid_out : RunsAreLaidOut
runs_laid_out places axis before after top below climbs climbed =
    let count = count_of_both places before after in
    let left = left_of places before after in (
      one_laid_out places axis before climbs count left top (omega arith) (omega arith),
      one_laid_out places axis after climbed count left below (omega arith) (omega arith),
    )
