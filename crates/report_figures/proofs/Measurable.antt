-- Each subject of a header is one that a run of it is measured by.
use Rattle.std.proofs.Common.{ℕ, ◌+◌, ◌<◌, Bool, true, false, ◌==◌, All, List, [], ◌∷◌, ◌++◌, length, map, flat_map, arith}
use Rattle.std.specs.Prelude.{if◌then◌else◌}
use Rattle.std.specs.List.{AllByRecursion}
use Rattle.std.proofs.lemmas.List.Elements.{All-from_recursion}
use Rattle.list_orders.specs.Search.{numbers}
use Rattle.list_orders.proofs.Filters.{All-append, All-weaker, All_each}
use Rattle.list_orders.proofs.Stamped.{numbers_below}
use Rattle.bench_types.specs.declared.header.Header.{Header}
use Rattle.bench_types.specs.Step.{settings_of}
use Rattle.run_numbers.specs.declared.subject.Cause.TheVariants.{Delay, Notification, Mutex, AnyQueue}
use Rattle.run_numbers.specs.declared.subject.Condition.TheVariants.{RunningOn, Blocked, Suspended}
use Rattle.run_numbers.specs.declared.subject.Subject.{Subject}
use Rattle.run_numbers.specs.declared.subject.Subject.TheVariants.{Time}
use Rattle.run_numbers.specs.Readings.{IsSubjectOf}
use Rattle.report_figures.specs.Subjects.{on_core, off_core, blocked_at, blocked_on, blocked_ways, calls_by, calls_for, jobs_of, state_of, takes_of, transfers_at, transfers_of, steps_of, refusals_of, task_subjects, user_subjects, core_subjects, mutex_subjects, queue_subjects, queues_of, run_subjects, waits_of}
use Rattle.report_figures.specs.Subjects.{can_suspend, subjects_of, suspended_in}
use Rattle.report_figures.proofs.Differences.{all_flat_map, all_map}

module _ (header : Header) where
  abbrev Fits : Subject → Type 0
  Fits = IsSubjectOf (settings_of header)

  queues_wait : (task : ℕ) → task < header.config.cores + length header.tasks → AllByRecursion Fits (blocked_at (queues_of header) task)
  queues_wait task below = at (queues_of header == 0)
    where
      ways : AllByRecursion Fits (flat_map (blocked_ways task) (numbers (queues_of header)))
      ways =
          all_flat_map Fits (blocked_ways task) (numbers (queues_of header))
          (All_each (λ (queue : ℕ). AllByRecursion Fits (blocked_ways task queue)) (λ queue. (below, (below, tt))) (numbers (queues_of header)))

      at : (none : Bool)
          → AllByRecursion Fits (if none then [] else Time (Blocked task AnyQueue) ∷ flat_map (blocked_ways task) (numbers (queues_of header)))
      at true = tt
      at false = (below, ways)

  suspended_fits : (suspends : Bool) (task : ℕ) → task < header.config.cores + length header.tasks → AllByRecursion Fits (suspended_in suspends task)
  suspended_fits true task below = (below, tt)
  suspended_fits false task below = tt

  waits_fit : (task : ℕ) → task < header.config.cores + length header.tasks
      → AllByRecursion Fits (waits_of header.config.mutexes (queues_of header) (can_suspend header) task)
  unfolding waits_of
  waits_fit task below =
      let blocked : AllByRecursion Fits (blocked_on header.config.mutexes task) =
      all_map Fits (λ mutex. Time (Blocked task (Mutex mutex))) (numbers header.config.mutexes)
      (All_each (λ (mutex : ℕ). task < header.config.cores + length header.tasks) (λ mutex. below) (numbers header.config.mutexes)) in
      All-append Fits (blocked_on header.config.mutexes task ++ blocked_at (queues_of header) task) (suspended_in (can_suspend header) task)
      (All-append Fits (blocked_on header.config.mutexes task) (blocked_at (queues_of header) task) blocked (queues_wait task below))
      (suspended_fits (can_suspend header) task below)

  calls_fit : (task : ℕ) → task < header.config.cores + length header.tasks
      → AllByRecursion Fits (calls_by header.config.mutexes (queues_of header) task)
  unfolding calls_by
  calls_fit task below =
      let delays = calls_for task Delay in
      let notes = calls_for task Notification in
      let takes = takes_of header.config.mutexes task in
      let moves = transfers_of (queues_of header) task in
      let takes_fit : AllByRecursion Fits takes =
      all_flat_map Fits (λ mutex. calls_for task (Mutex mutex)) (numbers header.config.mutexes)
      (All_each (λ (mutex : ℕ). AllByRecursion Fits (calls_for task (Mutex mutex))) (λ mutex. (tt, (below, tt))) (numbers header.config.mutexes)) in
      let moves_fit : AllByRecursion Fits moves =
      all_flat_map Fits (transfers_at task) (numbers (queues_of header))
      (All_each (λ (queue : ℕ). AllByRecursion Fits (transfers_at task queue)) (λ queue. (tt, (below, (tt, (below, tt))))) (numbers (queues_of header))) in
      All-append Fits ((delays ++ notes) ++ takes) moves
      (All-append Fits (delays ++ notes) takes (All-append Fits delays notes (tt, (below, tt)) (tt, (below, tt))) takes_fit)
      moves_fit

  task_fits : (task : ℕ) → task < header.config.cores + length header.tasks → AllByRecursion Fits (task_subjects header.config (queues_of header) (can_suspend header) task)
  unfolding task_subjects
  task_fits task below =
      let on : AllByRecursion Fits (on_core header.config.cores task) =
      (below, all_map Fits (λ core. Time (RunningOn task core)) (numbers header.config.cores) (numbers_below header.config.cores)) in
      let off : AllByRecursion Fits (off_core task) = (below, (below, (below, (below, (below, (below, tt)))))) in
      let steps : AllByRecursion Fits (steps_of task) = (tt, (below, (below, (below, (below, (tt, (below, (tt, (tt, (below, tt)))))))))) in
      let refused : AllByRecursion Fits (refusals_of task) = (tt, (tt, (tt, (tt, (tt, (tt, (tt, (tt, (tt, tt))))))))) in
      let stands : AllByRecursion Fits (state_of task) = (below, (below, tt)) in
      let on_cores = on_core header.config.cores task in
      let waits = waits_of header.config.mutexes (queues_of header) (can_suspend header) task in
      let two = on_cores ++ off_core task in
      let three = two ++ waits in
      let four = three ++ steps_of task in
      let five = four ++ refusals_of task in
      let six = five ++ state_of task in
      let calls = calls_by header.config.mutexes (queues_of header) task in
      let jobs : AllByRecursion Fits (jobs_of task) = (below, (below, (below, (below, (below, (below, (tt, tt))))))) in
      let fits_five : AllByRecursion Fits five =
      All-append Fits four (refusals_of task)
      (All-append Fits three (steps_of task) (All-append Fits two waits (All-append Fits on_cores (off_core task) on off) (waits_fit task below)) steps)
      refused in
      let fits_six = All-append Fits five (state_of task) fits_five stands in
      All-append Fits (six ++ calls) (jobs_of task) (All-append Fits six calls fits_six (calls_fit task below)) jobs

  users_fit : AllByRecursion Fits (user_subjects header.config (queues_of header) (can_suspend header) (length header.tasks))
  users_fit =
      all_flat_map Fits (λ user. task_subjects header.config (queues_of header) (can_suspend header) (header.config.cores + user)) (numbers (length header.tasks))
      (All-weaker (λ user. user < length header.tasks) (λ user. AllByRecursion Fits (task_subjects header.config (queues_of header) (can_suspend header) (header.config.cores + user)))
      (λ user below. task_fits (header.config.cores + user) (omega arith)) (numbers (length header.tasks)) (numbers_below (length header.tasks)))

  cores_fit : AllByRecursion Fits (flat_map core_subjects (numbers header.config.cores))
  cores_fit =
      all_flat_map Fits core_subjects (numbers header.config.cores)
      (All-weaker (λ core. core < header.config.cores) (λ core. AllByRecursion Fits (core_subjects core)) (λ core below. (below, (below, (below, (below, (tt, (tt, tt)))))))
      (numbers header.config.cores) (numbers_below header.config.cores))

  mutexes_fit : AllByRecursion Fits (flat_map mutex_subjects (numbers header.config.mutexes))
  mutexes_fit =
      all_flat_map Fits mutex_subjects (numbers header.config.mutexes)
      (All-weaker (λ mutex. mutex < header.config.mutexes) (λ mutex. AllByRecursion Fits (mutex_subjects mutex)) (λ mutex below. (below, (below, (tt, (tt, tt)))))
      (numbers header.config.mutexes) (numbers_below header.config.mutexes))

  queues_fit : AllByRecursion Fits (flat_map queue_subjects (numbers (queues_of header)))
  queues_fit =
      all_flat_map Fits queue_subjects (numbers (queues_of header))
      (All-weaker (λ queue. queue < queues_of header) (λ queue. AllByRecursion Fits (queue_subjects queue)) (λ queue below. (below, (below, (below, (tt, tt)))))
      (numbers (queues_of header)) (numbers_below (queues_of header)))

  pub subjects_fit : All (IsSubjectOf (settings_of header)) (subjects_of header)
  subjects_fit =
      let users = user_subjects header.config (queues_of header) (can_suspend header) (length header.tasks) in
      let cores = flat_map core_subjects (numbers header.config.cores) in
      let mutexes = flat_map mutex_subjects (numbers header.config.mutexes) in
      let queues = flat_map queue_subjects (numbers (queues_of header)) in
      let others = All-append Fits (users ++ cores) mutexes (All-append Fits users cores users_fit cores_fit) mutexes_fit in
      let all = All-append Fits ((users ++ cores) ++ mutexes) queues others queues_fit in
      All-from_recursion Fits (subjects_of header)
      (All-append Fits (((users ++ cores) ++ mutexes) ++ queues) run_subjects all (tt, (tt, (tt, tt))))
