-- All that a run of a session is measured by is different.
use Rattle.std.proofs.Common.{◌≡◌, ℕ, ◌+◌, ◌<◌, ◌^◌, Bool, true, false, List, [], ◌∷◌, ◌++◌, length, map, flat_map, Option, Some, None, refl, sym, ap, subst, ◌∙◌, arith, ◌==◌}
use Rattle.std.specs.Prelude.{Ok, if◌then◌else◌, option_map, unwrap_or}
use Rattle.std.specs.List.{AllByRecursion}
use Rattle.list_orders.specs.Search.{numbers}
use Rattle.list_orders.proofs.Filters.{All-weaker, All_each}
use Rattle.list_orders.proofs.Stamped.{numbers_below}
use Rattle.bench_types.specs.Header.{header_check}
use Rattle.bench_types.specs.declared.header.Header.{Header}
use Rattle.bench_types.specs.declared.header.QueueArgs.{QueueArgs}
use Rattle.bench_types.specs.declared.reply.Refusal.{Refusal}
use Rattle.bench_types.specs.declared.reply.Refusal.TheVariants as refusal
use Rattle.bench_types.specs.declared.step.Direction.TheVariants.{Send, Receive}
use Rattle.bench_types.proofs.Passes.{checked_header, few_queues}
use Rattle.bench_types.proofs.Repeats.{repeats_name}
use Rattle.run_numbers.specs.Tasks.{task_of}
use Rattle.run_numbers.specs.declared.subject.Cause.{Cause}
use Rattle.run_numbers.specs.declared.subject.Cause.TheVariants.{Delay, Notification, AnyMutex, Mutex, AnyQueue, Queue}
use Rattle.run_numbers.specs.declared.subject.Condition.{Condition}
use Rattle.run_numbers.specs.declared.subject.Condition.TheVariants.{Running, RunningOn, WantsCore, Inverted, Blocked, HeldUp, Suspended, InCall, Raised, PreemptionOff, Busy, Idle, Due, Holding, Held, Empty, Full}
use Rattle.run_numbers.specs.declared.subject.Event.{Event}
use Rattle.run_numbers.specs.declared.subject.Event.TheVariants.{SwitchedIn, Inherits, TimesOut, Refused, Late, Called, SwitchedOn, PutOff, Loses, Interrupted, NotTaken, Awaited, QueueAwaited}
use Rattle.run_numbers.specs.declared.subject.Subject.{Subject}
use Rattle.run_numbers.specs.declared.subject.Subject.TheVariants.{Time, Steps, TopPriority, MostMessages, NotMade, Job, Migrations, RanOut, Unfinished, MutexWait, Run}
use Rattle.run_numbers.specs.declared.subject.JobNumber.{JobNumber}
use Rattle.run_numbers.specs.declared.subject.JobNumber.TheVariants as job
use Rattle.run_numbers.specs.declared.subject.Whole.{Whole}
use Rattle.run_numbers.specs.declared.subject.Whole.TheVariants as whole
use Rattle.report_figures.specs.Subjects.{blocked_at, blocked_on, blocked_ways, calls_by, calls_for, can_suspend, core_subjects, jobs_of, mutex_subjects, off_core, on_core, queue_subjects, queues_of, refusals_of, run_subjects, state_of, steps_of, subjects_of, suspended_in, takes_of, task_subjects, transfers_at, transfers_of, user_subjects, waits_of}
use Rattle.report_figures.proofs.Differences.{Apart, IsWithin, Stretch, join, join_all, join_map, numbers_apart, stretch, stretch_higher, stretch_weaker}
use Rattle.report_figures.proofs.EachName.{IsOwn, IsUserIn, number_in}

-- Where a subject stands in the list, by what it is: those of a task first, from 0 on, then those of a
-- core from 1000 on, of a mutex from 1100 on, of a queue from 1200 on, and of the run from 1300 on.
abbrev blocked_rank : Cause → ℕ
blocked_rank Delay = 120
blocked_rank Notification = 130
blocked_rank AnyMutex = 140
blocked_rank (Mutex mutex) = 200
blocked_rank AnyQueue = 210
blocked_rank (Queue queue Send) = 220
blocked_rank (Queue queue Receive) = 230

-- before the number of calls; that of the time in them is one more
abbrev calls_rank : Cause → ℕ
calls_rank Delay = 600
calls_rank Notification = 620
calls_rank AnyMutex = 700
calls_rank (Mutex mutex) = 640
calls_rank AnyQueue = 720
calls_rank (Queue queue Send) = 660
calls_rank (Queue queue Receive) = 680

abbrev condition_rank : Condition → ℕ
condition_rank (Running task) = 0
condition_rank (RunningOn task core) = 10
condition_rank (WantsCore task) = 100
condition_rank (Inverted task) = 110
condition_rank (Blocked task cause) = blocked_rank cause
condition_rank (HeldUp task) = 150
condition_rank (Suspended task) = 240
condition_rank (InCall task cause) = calls_rank cause + 10
condition_rank (Raised task) = 500
condition_rank (PreemptionOff task) = 510
condition_rank (Busy core) = 1000
condition_rank (Idle core) = 1010
condition_rank (Due core) = 1020
condition_rank (Holding core) = 1030
condition_rank (Held mutex) = 1100
condition_rank (Empty queue) = 1210
condition_rank (Full queue) = 1220

abbrev refusal_rank : Refusal → ℕ
refusal_rank refusal.Held = 400
refusal_rank refusal.Displaced = 410
refusal_rank refusal.SwitchDue = 420
refusal_rank refusal.InCall = 430
refusal_rank refusal.NotInCall = 440
refusal_rank refusal.HoldBlock = 450
refusal_rank refusal.NoHold = 460
refusal_rank refusal.HoldDeep = 470
refusal_rank refusal.NotHolder = 480
refusal_rank refusal.NotDue = 490

abbrev event_rank : Event → ℕ
event_rank (SwitchedIn task) = 300
event_rank (PutOff task) = 310
event_rank (Inherits task) = 320
event_rank (TimesOut task) = 340
event_rank (Late task) = 350
event_rank (Loses task) = 360
event_rank (Refused task why) = refusal_rank why
event_rank (Called task cause) = calls_rank cause
event_rank (SwitchedOn core) = 1040
event_rank (Interrupted core) = 1050
event_rank (Awaited mutex) = 1110
event_rank (NotTaken mutex) = 1120
event_rank (QueueAwaited queue) = 1230

abbrev job_rank : JobNumber → ℕ
job_rank job.Count = 800
job_rank job.Response = 810
job_rank job.ShortestResponse = 820
job_rank job.Latency = 830
job_rank job.Period = 840
job_rank job.ShortestPeriod = 850

abbrev whole_rank : Whole → ℕ
whole_rank whole.Time = 1300
whole_rank whole.Steps = 1310
whole_rank whole.NotMade = 1320

abbrev rank : Subject → ℕ
rank (Time condition) = condition_rank condition
rank (Steps event) = event_rank event
rank (TopPriority task) = 330
rank (NotMade task) = 860
rank (Migrations task) = 315
rank (RanOut task) = 345
rank (Unfinished task) = 370
rank (MutexWait mutex) = 1105
rank (Job task number) = job_rank number
rank (MostMessages queue) = 1200
rank (Run number) = whole_rank number

-- the core, mutex or queue that a subject is of
abbrev HasNumber : ℕ → Subject → Type 0
HasNumber n subject = number_in subject ≡ n

one_number : (n m : ℕ) (subject : Subject) → HasNumber n subject → HasNumber m subject → n ≡ m
one_number n m subject is also = sym is ∙ also

-- those of each number, of which something holds
module _ (P : Subject → Type 0) (low high count : ℕ) (few : count < 2 ^ 64) where
  numbered : (f : ℕ → List Subject) → ((n : ℕ) → n < 2 ^ 64 → Stretch rank P low high (f n)) → ((n : ℕ) → AllByRecursion (HasNumber n) (f n)) → Stretch rank P low
      high (flat_map f (numbers count))
  numbered f each its =
      join_all rank P HasNumber one_number f low high (numbers count) (numbers_apart count)
      (All-weaker (λ n. n < count) (λ n. Stretch rank P low high (f n)) (λ n below. each n (omega (arith, below, few))) (numbers count)
      (numbers_below count)) (All_each (λ n. AllByRecursion (HasNumber n) (f n)) its (numbers count))

  numbered_one : (g : ℕ → Subject) → ((n : ℕ) → n < 2 ^ 64 → IsWithin rank P low high (g n)) → ((n : ℕ) → HasNumber n (g n)) → Stretch rank P low high
      (map g (numbers count))
  numbered_one g each its =
      join_map rank P HasNumber one_number g low high (numbers count) (numbers_apart count)
      (All-weaker (λ n. n < count) (λ n. IsWithin rank P low high (g n)) (λ n below. each n (omega (arith, below, few))) (numbers count)
      (numbers_below count)) (All_each (λ n. HasNumber n (g n)) its (numbers count))

none : 0 < 2 ^ 64
none = omega arith

-- a subject of the task
abbrev Mine : ℕ → Subject → Type 0
Mine task subject = (task_of subject ≡ Some task) × (number_in subject < 2 ^ 64)

module _ (task : ℕ) where
  abbrev Own : ℕ → ℕ → List Subject → Type 0
  Own = Stretch rank (Mine task)

  own_on : (cores : ℕ) → cores < 2 ^ 64 → Own 0 20 (on_core cores task)
  own_on cores few =
      let on_any : Own 0 10 (Time (Running task) ∷ []) = stretch rank (Mine task) 0 10 (Time (Running task) ∷ []) refl ((refl, none), tt) in
      join rank (Mine task) 0 10 20 (Time (Running task) ∷ []) (map (λ core. Time (RunningOn task core)) (numbers cores)) (omega arith) (omega arith) on_any
      (numbered_one (Mine task) 10 20 cores few (λ core. Time (RunningOn task core)) (λ core small. (omega arith, omega arith, (refl, small))) (λ core. refl))

  own_off : Own 100 200 (off_core task)
  own_off = stretch rank (Mine task) 100 200 (off_core task) refl ((refl, none), ((refl, none), ((refl, none), ((refl, none), ((refl, none), ((refl, none), tt))))))

  own_at : (queues : ℕ) → queues < 2 ^ 64 → Own 210 240 (blocked_at queues task)
  own_at queues few = at (queues == 0)
    where
      at : (no : Bool) → Own 210 240 (if no then [] else Time (Blocked task AnyQueue) ∷ flat_map (blocked_ways task) (numbers queues))
      at true = (tt, tt)
      at false =
          join rank (Mine task) 210 220 240 (Time (Blocked task AnyQueue) ∷ []) (flat_map (blocked_ways task) (numbers queues)) (omega arith) (omega arith)
          (stretch rank (Mine task) 210 220 (Time (Blocked task AnyQueue) ∷ []) refl ((refl, none), tt))
          (numbered (Mine task) 220 240 queues few (blocked_ways task)
          (λ queue small. stretch rank (Mine task) 220 240 (blocked_ways task queue) refl ((refl, small), ((refl, small), tt))) (λ queue. (refl, (refl, tt))))

  own_suspended : (suspends : Bool) → Own 240 300 (suspended_in suspends task)
  own_suspended true = stretch rank (Mine task) 240 300 (suspended_in true task) refl ((refl, none), tt)
  own_suspended false = (tt, tt)

  own_waits : (mutexes queues : ℕ) (suspends : Bool) → mutexes < 2 ^ 64 → queues < 2 ^ 64 → Own 200 300 (waits_of mutexes queues suspends task)
  unfolding waits_of
  own_waits mutexes queues suspends few little =
      let on : Own 200 210 (blocked_on mutexes task) = numbered_one (Mine task) 200 210 mutexes few (λ mutex. Time (Blocked task (Mutex mutex)))
      (λ mutex small. (omega arith, omega arith, (refl, small))) (λ mutex. refl) in
      join rank (Mine task) 200 240 300 (blocked_on mutexes task ++ blocked_at queues task) (suspended_in suspends task) (omega arith) (omega arith)
      (join rank (Mine task) 200 210 240 (blocked_on mutexes task) (blocked_at queues task) (omega arith) (omega arith) on (own_at queues little))
      (own_suspended suspends)

  own_steps : Own 300 400 (steps_of task)
  own_steps = stretch rank (Mine task) 300 400 (steps_of task) refl
      ((refl, none), ((refl, none), ((refl, none), ((refl, none), ((refl, none), ((refl, none), ((refl, none), ((refl, none), ((refl, none), ((refl, none), tt))))))))))

  own_refusals : Own 400 500 (refusals_of task)
  own_refusals = stretch rank (Mine task) 400 500 (refusals_of task) refl
      ((refl, none), ((refl, none), ((refl, none), ((refl, none), ((refl, none), ((refl, none), ((refl, none), ((refl, none), ((refl, none), tt)))))))))

  own_state : Own 500 600 (state_of task)
  own_state = stretch rank (Mine task) 500 600 (state_of task) refl ((refl, none), ((refl, none), tt))

  own_calls : (mutexes queues : ℕ) → mutexes < 2 ^ 64 → queues < 2 ^ 64 → Own 600 800 (calls_by mutexes queues task)
  unfolding calls_by
  own_calls mutexes queues few little =
      let delays = calls_for task Delay in
      let notes = calls_for task Notification in
      let takes : Own 640 660 (takes_of mutexes task) = numbered (Mine task) 640 660 mutexes few (λ mutex. calls_for task (Mutex mutex))
      (λ mutex small. stretch rank (Mine task) 640 660 (calls_for task (Mutex mutex)) refl ((refl, small), ((refl, small), tt))) (λ mutex. (refl, (refl, tt))) in
      let moves : Own 660 800 (transfers_of queues task) = numbered (Mine task) 660 800 queues little (transfers_at task)
      (λ queue small. stretch rank (Mine task) 660 800 (transfers_at task queue) refl
      ((refl, small), ((refl, small), ((refl, small), ((refl, small), tt))))) (λ queue. (refl, (refl, (refl, (refl, tt))))) in
      join rank (Mine task) 600 660 800 ((delays ++ notes) ++ takes_of mutexes task) (transfers_of queues task) (omega arith) (omega arith)
      (join rank (Mine task) 600 640 660 (delays ++ notes) (takes_of mutexes task) (omega arith) (omega arith)
      (stretch rank (Mine task) 600 640 (delays ++ notes) refl ((refl, none), ((refl, none), ((refl, none), ((refl, none), tt))))) takes) moves

  own_jobs : Own 800 1000 (jobs_of task)
  own_jobs = stretch rank (Mine task) 800 1000 (jobs_of task) refl ((refl, none), ((refl, none), ((refl, none), ((refl, none), ((refl, none), ((refl, none), ((refl, none), tt)))))))

module _ (header : Header) (passes : header_check header ≡ Ok tt) where
  few_cores : header.config.cores < 2 ^ 64
  few_cores = omega (arith, (checked_header header passes).few_cores)

  few_mutexes : header.config.mutexes < 2 ^ 64
  few_mutexes = omega (arith, (checked_header header passes).few_mutexes)

  little_queues : queues_of header < 2 ^ 64
  little_queues = at header.queues refl
    where
      at : (queues : Option (List QueueArgs)) → header.queues ≡ queues → queues_of header < 2 ^ 64
      at None is = subst (λ (queues : Option (List QueueArgs)). unwrap_or (option_map length queues) 0 < 2 ^ 64) (sym is) none
      at (Some queues) is =
          subst (λ (queues : Option (List QueueArgs)). unwrap_or (option_map length queues) 0 < 2 ^ 64) (sym is)
          (omega (arith, few_queues header queues passes is))

  abbrev pub once : repeats_name header.tasks ≡ false
  once = (checked_header header passes).once

  abbrev pub Fits : Subject → Type 0
  Fits = IsOwn header once

  task_differs : (task : ℕ) → Stretch rank (Mine task) 0 1000 (task_subjects header.config (queues_of header) (can_suspend header) task)
  unfolding task_subjects
  task_differs task =
      let P = Mine task in
      let on = on_core header.config.cores task in
      let waits = waits_of header.config.mutexes (queues_of header) (can_suspend header) task in
      let calls = calls_by header.config.mutexes (queues_of header) task in
      let two = on ++ off_core task in
      let three = two ++ waits in
      let four = three ++ steps_of task in
      let five = four ++ refusals_of task in
      let six = five ++ state_of task in
      let on_two : Stretch rank P 0 200 two = join rank P 0 100 200 on (off_core task) (omega arith) (omega arith)
      (stretch_higher rank P 0 20 100 on (omega arith) (own_on task header.config.cores few_cores)) (own_off task) in
      let on_three : Stretch rank P 0 300 three = join rank P 0 200 300 two waits (omega arith) (omega arith) on_two
      (own_waits task header.config.mutexes (queues_of header) (can_suspend header) few_mutexes little_queues) in
      let on_four : Stretch rank P 0 400 four = join rank P 0 300 400 three (steps_of task) (omega arith) (omega arith) on_three (own_steps task) in
      let on_five : Stretch rank P 0 500 five = join rank P 0 400 500 four (refusals_of task) (omega arith) (omega arith) on_four (own_refusals task) in
      let on_six : Stretch rank P 0 600 six = join rank P 0 500 600 five (state_of task) (omega arith) (omega arith) on_five (own_state task) in
      join rank P 0 800 1000 (six ++ calls) (jobs_of task) (omega arith) (omega arith)
      (join rank P 0 600 800 six calls (omega arith) (omega arith) on_six (own_calls task header.config.mutexes (queues_of header) few_mutexes little_queues))
      (own_jobs task)

  -- the subjects of a user task
  abbrev IsOfUser : ℕ → Subject → Type 0
  IsOfUser user subject = task_of subject ≡ Some (header.config.cores + user)

  one_user : (user other : ℕ) (subject : Subject) → IsOfUser user subject → IsOfUser other subject → user ≡ other
  one_user user other subject is also = omega (arith, ap (λ task. unwrap_or task 0) (sym is ∙ also))

  fits : (user : ℕ) → user < length header.tasks → (subject : Subject) → Mine (header.config.cores + user) subject → Fits subject
  fits user below subject mine = (subst (IsUserIn header once) (sym mine.0) (omega arith, omega (arith, below)), mine.1)

  users_differ : Stretch rank Fits 0 1000 (user_subjects header.config (queues_of header) (can_suspend header) (length header.tasks))
  users_differ =
      let f : ℕ → List Subject = λ user. task_subjects header.config (queues_of header) (can_suspend header) (header.config.cores + user) in
      let users = numbers (length header.tasks) in
      join_all rank Fits IsOfUser one_user f 0 1000 users (numbers_apart (length header.tasks))
      (All-weaker (λ user. user < length header.tasks) (λ user. Stretch rank Fits 0 1000 (f user))
      (λ user below. stretch_weaker rank (Mine (header.config.cores + user)) Fits (fits user below) 0 1000 (f user) (task_differs (header.config.cores + user)))
      users (numbers_below (length header.tasks)))
      (All_each (λ user. AllByRecursion (IsOfUser user) (f user))
      (λ user. All-weaker (IsWithin rank (Mine (header.config.cores + user)) 0 1000) (IsOfUser user) (λ subject within. within.2.0) (f user)
      (task_differs (header.config.cores + user)).0) users)

  cores_differ : Stretch rank Fits 1000 1100 (flat_map core_subjects (numbers header.config.cores))
  cores_differ =
      numbered Fits 1000 1100 header.config.cores few_cores core_subjects
      (λ core small. stretch rank Fits 1000 1100 (core_subjects core) refl ((tt, small), ((tt, small), ((tt, small), ((tt, small), ((tt, small), ((tt, small), tt)))))))
      (λ core. (refl, (refl, (refl, (refl, (refl, (refl, tt)))))))

  mutexes_differ : Stretch rank Fits 1100 1200 (flat_map mutex_subjects (numbers header.config.mutexes))
  mutexes_differ =
      numbered Fits 1100 1200 header.config.mutexes few_mutexes mutex_subjects
      (λ mutex small. stretch rank Fits 1100 1200 (mutex_subjects mutex) refl ((tt, small), ((tt, small), ((tt, small), ((tt, small), tt)))))
      (λ mutex. (refl, (refl, (refl, (refl, tt)))))

  queues_differ : Stretch rank Fits 1200 1300 (flat_map queue_subjects (numbers (queues_of header)))
  queues_differ =
      numbered Fits 1200 1300 (queues_of header) little_queues queue_subjects
      (λ queue small. stretch rank Fits 1200 1300 (queue_subjects queue) refl ((tt, small), ((tt, small), ((tt, small), ((tt, small), tt)))))
      (λ queue. (refl, (refl, (refl, (refl, tt)))))

  pub subjects_differ : AllByRecursion Fits (subjects_of header) × Apart (subjects_of header)
  subjects_differ =
      let users = user_subjects header.config (queues_of header) (can_suspend header) (length header.tasks) in
      let cores = flat_map core_subjects (numbers header.config.cores) in
      let mutexes = flat_map mutex_subjects (numbers header.config.mutexes) in
      let queues = flat_map queue_subjects (numbers (queues_of header)) in
      let two : Stretch rank Fits 0 1100 (users ++ cores) = join rank Fits 0 1000 1100 users cores (omega arith) (omega arith) users_differ cores_differ in
      let three : Stretch rank Fits 0 1200 ((users ++ cores) ++ mutexes) = join rank Fits 0 1100 1200 (users ++ cores) mutexes (omega arith) (omega arith) two
      mutexes_differ in
      let four : Stretch rank Fits 0 1300 (((users ++ cores) ++ mutexes) ++ queues) = join rank Fits 0 1200 1300 ((users ++ cores) ++ mutexes) queues (omega arith)
      (omega arith) three queues_differ in
      let all : Stretch rank Fits 0 1400 (subjects_of header) = join rank Fits 0 1300 1400 (((users ++ cores) ++ mutexes) ++ queues) run_subjects (omega arith)
      (omega arith) four (stretch rank Fits 1300 1400 run_subjects refl ((tt, none), ((tt, none), ((tt, none), tt)))) in
      (All-weaker (IsWithin rank Fits 0 1400) Fits (λ subject within. within.2) (subjects_of header) all.0, all.1)
