-- Each figure is read back from its name. What a new number takes: a clause here, and one of its words
-- in `Tokens`; its first word among the `keys` of `Words`, where it is of a task; its rank in
-- `SubjectsDiffer`, where the list in which it stands has one item more.
use Rattle.std.proofs.Common.{◌≡◌, ℕ, ◌<◌, ◌^◌, false, [], ◌∷◌, ◌++◌, codes, decimal, Option, Some, None, refl, ap}
use Rattle.std.specs.List.{AllByRecursion}
use Rattle.bench_types.specs.Codes.{refusal_code}
use Rattle.bench_types.specs.declared.header.Header.{Header}
use Rattle.bench_types.specs.declared.reply.Refusal.TheVariants as refusal
use Rattle.bench_types.specs.declared.step.Direction.TheVariants.{Send, Receive}
use Rattle.bench_types.proofs.Repeats.{repeats_name}
use Rattle.run_numbers.specs.Tasks.{task_of}
use Rattle.run_numbers.specs.declared.subject.Cause.{Cause}
use Rattle.run_numbers.specs.declared.subject.Cause.TheVariants.{Delay, Notification, AnyMutex, Mutex, AnyQueue, Queue}
use Rattle.run_numbers.specs.declared.subject.Condition.{Condition}
use Rattle.run_numbers.specs.declared.subject.Condition.TheVariants.{Running, RunningOn, WantsCore, Inverted, Blocked, HeldUp, Suspended, InCall, Raised, PreemptionOff, Busy, Idle, Due, Holding, Held, Empty, Full}
use Rattle.run_numbers.specs.declared.subject.Event.{Event}
use Rattle.run_numbers.specs.declared.subject.Event.TheVariants.{SwitchedIn, Inherits, TimesOut, Refused, Late, Called, SwitchedOn, PutOff, Loses, Interrupted, NotTaken, Awaited, QueueAwaited}
use Rattle.run_numbers.specs.declared.subject.Subject.{Subject}
use Rattle.run_numbers.specs.declared.subject.Subject.TheVariants.{Time, Steps, TopPriority, MostMessages, NotMade, Job, Migrations, RanOut, Unfinished, MutexWait, Run}
use Rattle.run_numbers.specs.declared.subject.JobNumber.TheVariants as job
use Rattle.report_figures.specs.declared.figures.Part.{Part}
use Rattle.report_figures.specs.declared.figures.Part.TheVariants.{Total, Longest}
use Rattle.report_figures.specs.Names.{condition_name, event_name, figure_name, subject_name}
use Rattle.report_figures.proofs.NameReading.{IsUser, figure_named, read_caused, read_owned, read_plain, read_run}
use Rattle.report_figures.proofs.Tokens.{parts_of}
use Rattle.report_figures.proofs.Words.{Text, number_before, number_end, number_then}

abbrev cause_number : Cause → ℕ
cause_number (Mutex mutex) = mutex
cause_number (Queue queue way) = queue
cause_number cause = 0

abbrev condition_number : Condition → ℕ
condition_number (RunningOn task core) = core
condition_number (Blocked task cause) = cause_number cause
condition_number (InCall task cause) = cause_number cause
condition_number (Busy core) = core
condition_number (Idle core) = core
condition_number (Due core) = core
condition_number (Holding core) = core
condition_number (Held mutex) = mutex
condition_number (Empty queue) = queue
condition_number (Full queue) = queue
condition_number condition = 0

abbrev event_number : Event → ℕ
event_number (Called task cause) = cause_number cause
event_number (SwitchedOn core) = core
event_number (Interrupted core) = core
event_number (NotTaken mutex) = mutex
event_number (Awaited mutex) = mutex
event_number (QueueAwaited queue) = queue
event_number event = 0

-- the core, mutex or queue of a subject, if it is of one
abbrev pub number_in : Subject → ℕ
number_in (Time condition) = condition_number condition
number_in (Steps event) = event_number event
number_in (MostMessages queue) = queue
number_in (MutexWait mutex) = mutex
number_in subject = 0

module _ (header : Header) (once : repeats_name header.tasks ≡ false) where
  abbrev pub IsUserIn : Option ℕ → Type 0
  IsUserIn (Some task) = IsUser header once task
  IsUserIn None = Unit {0}

  -- a subject of a user task, or of none, whose number is written in full
  abbrev pub IsOwn : Subject → Type 0
  IsOwn subject = IsUserIn (task_of subject) × (number_in subject < 2 ^ 64)

  abbrev pub IsRead : Subject → Part → Type 0
  IsRead subject part = figure_named header (figure_name header subject part) ≡ Some (subject, part)

  read_time : (condition : Condition) (part : Part) → IsOwn (Time condition) → IsRead (Time condition) part
  unfolding subject_name condition_name
  read_time (Running task) Total own = read_plain header once task own.0 (codes "run") [] (Time (Running task)) Total refl refl refl refl
  read_time (Running task) Longest own = read_plain header once task own.0 (codes "run") (codes ".longest") (Time (Running task)) Longest refl refl refl refl
  read_time (RunningOn task core) Total own =
      read_caused header once task own.0 (codes "run.") (decimal core) [] (Time (RunningOn task core)) Total refl
      (ap (λ ts. Text (codes "run") ∷ ts) (number_end core own.1)) refl refl
  read_time (RunningOn task core) Longest own =
      read_caused header once task own.0 (codes "run.") (decimal core) (codes ".longest") (Time (RunningOn task core)) Longest refl
      (ap (λ ts. Text (codes "run") ∷ ts) (number_then core own.1 (codes "longest"))) refl refl
  read_time (WantsCore task) Total own = read_plain header once task own.0 (codes "ready") [] (Time (WantsCore task)) Total refl refl refl refl
  read_time (WantsCore task) Longest own = read_plain header once task own.0 (codes "ready") (codes ".longest") (Time (WantsCore task)) Longest refl refl refl refl
  read_time (Inverted task) Total own = read_plain header once task own.0 (codes "ready.inverted") [] (Time (Inverted task)) Total refl refl refl refl
  read_time (Inverted task) Longest own = read_plain header once task own.0 (codes "ready.inverted") (codes ".longest") (Time (Inverted task)) Longest refl refl refl refl
  read_time (Blocked task Delay) Total own =
      read_caused header once task own.0 (codes "blocked.") (codes "delay") [] (Time (Blocked task Delay)) Total refl refl refl refl
  read_time (Blocked task Delay) Longest own =
      read_caused header once task own.0 (codes "blocked.") (codes "delay") (codes ".longest") (Time (Blocked task Delay)) Longest refl refl refl refl
  read_time (Blocked task Notification) Total own =
      read_caused header once task own.0 (codes "blocked.") (codes "notification") [] (Time (Blocked task Notification)) Total refl refl refl refl
  read_time (Blocked task Notification) Longest own =
      read_caused header once task own.0 (codes "blocked.") (codes "notification") (codes ".longest") (Time (Blocked task Notification)) Longest refl refl refl refl
  read_time (Blocked task AnyMutex) Total own =
      read_caused header once task own.0 (codes "blocked.") (codes "mutex") [] (Time (Blocked task AnyMutex)) Total refl refl refl refl
  read_time (Blocked task AnyMutex) Longest own =
      read_caused header once task own.0 (codes "blocked.") (codes "mutex") (codes ".longest") (Time (Blocked task AnyMutex)) Longest refl refl refl refl
  read_time (Blocked task AnyQueue) Total own =
      read_caused header once task own.0 (codes "blocked.") (codes "queue") [] (Time (Blocked task AnyQueue)) Total refl refl refl refl
  read_time (Blocked task AnyQueue) Longest own =
      read_caused header once task own.0 (codes "blocked.") (codes "queue") (codes ".longest") (Time (Blocked task AnyQueue)) Longest refl refl refl refl
  read_time (Blocked task (Mutex mutex)) Total own =
      read_caused header once task own.0 (codes "blocked.") (codes "mutex." ++ decimal mutex) [] (Time (Blocked task (Mutex mutex))) Total refl
      (ap (λ ts. Text (codes "blocked") ∷ Text (codes "mutex") ∷ ts) (number_end mutex own.1)) refl refl
  read_time (Blocked task (Mutex mutex)) Longest own =
      read_caused header once task own.0 (codes "blocked.") (codes "mutex." ++ decimal mutex) (codes ".longest") (Time (Blocked task (Mutex mutex))) Longest refl
      (ap (λ ts. Text (codes "blocked") ∷ Text (codes "mutex") ∷ ts) (number_then mutex own.1 (codes "longest"))) refl refl
  read_time (Blocked task (Queue queue Send)) Total own =
      read_caused header once task own.0 (codes "blocked.") (codes "queue." ++ decimal queue ++ codes "." ++ codes "send") [] (Time (Blocked task (Queue queue Send))) Total refl
      (ap (λ ts. Text (codes "blocked") ∷ Text (codes "queue") ∷ ts) (number_before queue own.1 (codes "send") [])) refl refl
  read_time (Blocked task (Queue queue Send)) Longest own =
      read_caused header once task own.0 (codes "blocked.") (codes "queue." ++ decimal queue ++ codes "." ++ codes "send") (codes ".longest") (Time (Blocked task (Queue queue Send))) Longest refl
      (ap (λ ts. Text (codes "blocked") ∷ Text (codes "queue") ∷ ts) (number_before queue own.1 (codes "send") (codes ".longest"))) refl refl
  read_time (Blocked task (Queue queue Receive)) Total own =
      read_caused header once task own.0 (codes "blocked.") (codes "queue." ++ decimal queue ++ codes "." ++ codes "receive") [] (Time (Blocked task (Queue queue Receive))) Total refl
      (ap (λ ts. Text (codes "blocked") ∷ Text (codes "queue") ∷ ts) (number_before queue own.1 (codes "receive") [])) refl refl
  read_time (Blocked task (Queue queue Receive)) Longest own =
      read_caused header once task own.0 (codes "blocked.") (codes "queue." ++ decimal queue ++ codes "." ++ codes "receive") (codes ".longest") (Time (Blocked task (Queue queue Receive))) Longest refl
      (ap (λ ts. Text (codes "blocked") ∷ Text (codes "queue") ∷ ts) (number_before queue own.1 (codes "receive") (codes ".longest"))) refl refl
  read_time (HeldUp task) Total own = read_plain header once task own.0 (codes "blocked.mutex.held_up") [] (Time (HeldUp task)) Total refl refl refl refl
  read_time (HeldUp task) Longest own = read_plain header once task own.0 (codes "blocked.mutex.held_up") (codes ".longest") (Time (HeldUp task)) Longest refl refl refl refl
  read_time (Suspended task) Total own = read_plain header once task own.0 (codes "suspended") [] (Time (Suspended task)) Total refl refl refl refl
  read_time (Suspended task) Longest own = read_plain header once task own.0 (codes "suspended") (codes ".longest") (Time (Suspended task)) Longest refl refl refl refl
  read_time (InCall task Delay) Total own =
      read_caused header once task own.0 (codes "calls.") (codes "delay") (codes ".total") (Time (InCall task Delay)) Total refl refl refl refl
  read_time (InCall task Delay) Longest own =
      read_caused header once task own.0 (codes "calls.") (codes "delay") (codes ".longest") (Time (InCall task Delay)) Longest refl refl refl refl
  read_time (InCall task Notification) Total own =
      read_caused header once task own.0 (codes "calls.") (codes "notification") (codes ".total") (Time (InCall task Notification)) Total refl refl refl refl
  read_time (InCall task Notification) Longest own =
      read_caused header once task own.0 (codes "calls.") (codes "notification") (codes ".longest") (Time (InCall task Notification)) Longest refl refl refl refl
  read_time (InCall task AnyMutex) Total own =
      read_caused header once task own.0 (codes "calls.") (codes "mutex") (codes ".total") (Time (InCall task AnyMutex)) Total refl refl refl refl
  read_time (InCall task AnyMutex) Longest own =
      read_caused header once task own.0 (codes "calls.") (codes "mutex") (codes ".longest") (Time (InCall task AnyMutex)) Longest refl refl refl refl
  read_time (InCall task AnyQueue) Total own =
      read_caused header once task own.0 (codes "calls.") (codes "queue") (codes ".total") (Time (InCall task AnyQueue)) Total refl refl refl refl
  read_time (InCall task AnyQueue) Longest own =
      read_caused header once task own.0 (codes "calls.") (codes "queue") (codes ".longest") (Time (InCall task AnyQueue)) Longest refl refl refl refl
  read_time (InCall task (Mutex mutex)) Total own =
      read_caused header once task own.0 (codes "calls.") (codes "mutex." ++ decimal mutex) (codes ".total") (Time (InCall task (Mutex mutex))) Total refl
      (ap (λ ts. Text (codes "calls") ∷ Text (codes "mutex") ∷ ts) (number_then mutex own.1 (codes "total"))) refl refl
  read_time (InCall task (Mutex mutex)) Longest own =
      read_caused header once task own.0 (codes "calls.") (codes "mutex." ++ decimal mutex) (codes ".longest") (Time (InCall task (Mutex mutex))) Longest refl
      (ap (λ ts. Text (codes "calls") ∷ Text (codes "mutex") ∷ ts) (number_then mutex own.1 (codes "longest"))) refl refl
  read_time (InCall task (Queue queue Send)) Total own =
      read_caused header once task own.0 (codes "calls.") (codes "queue." ++ decimal queue ++ codes "." ++ codes "send") (codes ".total") (Time (InCall task (Queue queue Send))) Total refl
      (ap (λ ts. Text (codes "calls") ∷ Text (codes "queue") ∷ ts) (number_before queue own.1 (codes "send") (codes ".total"))) refl refl
  read_time (InCall task (Queue queue Send)) Longest own =
      read_caused header once task own.0 (codes "calls.") (codes "queue." ++ decimal queue ++ codes "." ++ codes "send") (codes ".longest") (Time (InCall task (Queue queue Send))) Longest refl
      (ap (λ ts. Text (codes "calls") ∷ Text (codes "queue") ∷ ts) (number_before queue own.1 (codes "send") (codes ".longest"))) refl refl
  read_time (InCall task (Queue queue Receive)) Total own =
      read_caused header once task own.0 (codes "calls.") (codes "queue." ++ decimal queue ++ codes "." ++ codes "receive") (codes ".total") (Time (InCall task (Queue queue Receive))) Total refl
      (ap (λ ts. Text (codes "calls") ∷ Text (codes "queue") ∷ ts) (number_before queue own.1 (codes "receive") (codes ".total"))) refl refl
  read_time (InCall task (Queue queue Receive)) Longest own =
      read_caused header once task own.0 (codes "calls.") (codes "queue." ++ decimal queue ++ codes "." ++ codes "receive") (codes ".longest") (Time (InCall task (Queue queue Receive))) Longest refl
      (ap (λ ts. Text (codes "calls") ∷ Text (codes "queue") ∷ ts) (number_before queue own.1 (codes "receive") (codes ".longest"))) refl refl
  read_time (Raised task) Total own = read_plain header once task own.0 (codes "inherited") [] (Time (Raised task)) Total refl refl refl refl
  read_time (Raised task) Longest own = read_plain header once task own.0 (codes "inherited") (codes ".longest") (Time (Raised task)) Longest refl refl refl refl
  read_time (PreemptionOff task) Total own = read_plain header once task own.0 (codes "preemption_off") [] (Time (PreemptionOff task)) Total refl refl refl refl
  read_time (PreemptionOff task) Longest own = read_plain header once task own.0 (codes "preemption_off") (codes ".longest") (Time (PreemptionOff task)) Longest refl refl refl refl
  read_time (Busy core) Total own = read_owned header (codes "core") refl core own.1 (codes "user") [] (Time (Busy core)) Total refl refl
  read_time (Busy core) Longest own = read_owned header (codes "core") refl core own.1 (codes "user") (codes ".longest") (Time (Busy core)) Longest refl refl
  read_time (Idle core) Total own = read_owned header (codes "core") refl core own.1 (codes "idle") [] (Time (Idle core)) Total refl refl
  read_time (Idle core) Longest own = read_owned header (codes "core") refl core own.1 (codes "idle") (codes ".longest") (Time (Idle core)) Longest refl refl
  read_time (Due core) Total own = read_owned header (codes "core") refl core own.1 (codes "due") [] (Time (Due core)) Total refl refl
  read_time (Due core) Longest own = read_owned header (codes "core") refl core own.1 (codes "due") (codes ".longest") (Time (Due core)) Longest refl refl
  read_time (Holding core) Total own = read_owned header (codes "core") refl core own.1 (codes "held") [] (Time (Holding core)) Total refl refl
  read_time (Holding core) Longest own = read_owned header (codes "core") refl core own.1 (codes "held") (codes ".longest") (Time (Holding core)) Longest refl refl
  read_time (Held mutex) Total own = read_owned header (codes "mutex") refl mutex own.1 (codes "held") [] (Time (Held mutex)) Total refl refl
  read_time (Held mutex) Longest own = read_owned header (codes "mutex") refl mutex own.1 (codes "held") (codes ".longest") (Time (Held mutex)) Longest refl refl
  read_time (Empty queue) Total own = read_owned header (codes "queue") refl queue own.1 (codes "empty") [] (Time (Empty queue)) Total refl refl
  read_time (Empty queue) Longest own = read_owned header (codes "queue") refl queue own.1 (codes "empty") (codes ".longest") (Time (Empty queue)) Longest refl refl
  read_time (Full queue) Total own = read_owned header (codes "queue") refl queue own.1 (codes "full") [] (Time (Full queue)) Total refl refl
  read_time (Full queue) Longest own = read_owned header (codes "queue") refl queue own.1 (codes "full") (codes ".longest") (Time (Full queue)) Longest refl refl

  read_steps : (event : Event) → IsOwn (Steps event) → IsRead (Steps event) Total
  unfolding subject_name event_name
  read_steps (SwitchedIn task) own = read_plain header once task own.0 (codes "switches") [] (Steps (SwitchedIn task)) Total refl refl refl refl
  read_steps (Inherits task) own = read_plain header once task own.0 (codes "inheritances") [] (Steps (Inherits task)) Total refl refl refl refl
  read_steps (TimesOut task) own = read_plain header once task own.0 (codes "timeouts") [] (Steps (TimesOut task)) Total refl refl refl refl
  read_steps (Late task) own = read_plain header once task own.0 (codes "late") [] (Steps (Late task)) Total refl refl refl refl
  read_steps (PutOff task) own = read_plain header once task own.0 (codes "preempted") [] (Steps (PutOff task)) Total refl refl refl refl
  read_steps (Loses task) own = read_plain header once task own.0 (codes "notifications.lost") [] (Steps (Loses task)) Total refl refl refl refl
  read_steps (Refused task refusal.Held) own =
      read_caused header once task own.0 (codes "refused.") (refusal_code refusal.Held) [] (Steps (Refused task refusal.Held)) Total refl refl refl refl
  read_steps (Refused task refusal.Displaced) own =
      read_caused header once task own.0 (codes "refused.") (refusal_code refusal.Displaced) [] (Steps (Refused task refusal.Displaced)) Total refl refl refl refl
  read_steps (Refused task refusal.SwitchDue) own =
      read_caused header once task own.0 (codes "refused.") (refusal_code refusal.SwitchDue) [] (Steps (Refused task refusal.SwitchDue)) Total refl refl refl refl
  read_steps (Refused task refusal.InCall) own =
      read_caused header once task own.0 (codes "refused.") (refusal_code refusal.InCall) [] (Steps (Refused task refusal.InCall)) Total refl refl refl refl
  read_steps (Refused task refusal.NotInCall) own =
      read_caused header once task own.0 (codes "refused.") (refusal_code refusal.NotInCall) [] (Steps (Refused task refusal.NotInCall)) Total refl refl refl refl
  read_steps (Refused task refusal.HoldBlock) own =
      read_caused header once task own.0 (codes "refused.") (refusal_code refusal.HoldBlock) [] (Steps (Refused task refusal.HoldBlock)) Total refl refl refl refl
  read_steps (Refused task refusal.NoHold) own =
      read_caused header once task own.0 (codes "refused.") (refusal_code refusal.NoHold) [] (Steps (Refused task refusal.NoHold)) Total refl refl refl refl
  read_steps (Refused task refusal.HoldDeep) own =
      read_caused header once task own.0 (codes "refused.") (refusal_code refusal.HoldDeep) [] (Steps (Refused task refusal.HoldDeep)) Total refl refl refl refl
  read_steps (Refused task refusal.NotHolder) own =
      read_caused header once task own.0 (codes "refused.") (refusal_code refusal.NotHolder) [] (Steps (Refused task refusal.NotHolder)) Total refl refl refl refl
  read_steps (Refused task refusal.NotDue) own =
      read_caused header once task own.0 (codes "refused.") (refusal_code refusal.NotDue) [] (Steps (Refused task refusal.NotDue)) Total refl refl refl refl
  read_steps (Called task Delay) own =
      read_caused header once task own.0 (codes "calls.") (codes "delay") [] (Steps (Called task Delay)) Total refl refl refl refl
  read_steps (Called task Notification) own =
      read_caused header once task own.0 (codes "calls.") (codes "notification") [] (Steps (Called task Notification)) Total refl refl refl refl
  read_steps (Called task AnyMutex) own =
      read_caused header once task own.0 (codes "calls.") (codes "mutex") [] (Steps (Called task AnyMutex)) Total refl refl refl refl
  read_steps (Called task AnyQueue) own =
      read_caused header once task own.0 (codes "calls.") (codes "queue") [] (Steps (Called task AnyQueue)) Total refl refl refl refl
  read_steps (Called task (Mutex mutex)) own =
      read_caused header once task own.0 (codes "calls.") (codes "mutex." ++ decimal mutex) [] (Steps (Called task (Mutex mutex))) Total refl
      (ap (λ ts. Text (codes "calls") ∷ Text (codes "mutex") ∷ ts) (number_end mutex own.1)) refl refl
  read_steps (Called task (Queue queue Send)) own =
      read_caused header once task own.0 (codes "calls.") (codes "queue." ++ decimal queue ++ codes "." ++ codes "send") [] (Steps (Called task (Queue queue Send))) Total refl
      (ap (λ ts. Text (codes "calls") ∷ Text (codes "queue") ∷ ts) (number_before queue own.1 (codes "send") [])) refl refl
  read_steps (Called task (Queue queue Receive)) own =
      read_caused header once task own.0 (codes "calls.") (codes "queue." ++ decimal queue ++ codes "." ++ codes "receive") [] (Steps (Called task (Queue queue Receive))) Total refl
      (ap (λ ts. Text (codes "calls") ∷ Text (codes "queue") ∷ ts) (number_before queue own.1 (codes "receive") [])) refl refl
  read_steps (SwitchedOn core) own = read_owned header (codes "core") refl core own.1 (codes "switches") [] (Steps (SwitchedOn core)) Total refl refl
  read_steps (Interrupted core) own = read_owned header (codes "core") refl core own.1 (codes "interrupts") [] (Steps (Interrupted core)) Total refl refl
  read_steps (NotTaken mutex) own = read_owned header (codes "mutex") refl mutex own.1 (codes "refused") [] (Steps (NotTaken mutex)) Total refl refl
  read_steps (Awaited mutex) own = read_owned header (codes "mutex") refl mutex own.1 (codes "waits") [] (Steps (Awaited mutex)) Total refl refl
  read_steps (QueueAwaited queue) own = read_owned header (codes "queue") refl queue own.1 (codes "waits") [] (Steps (QueueAwaited queue)) Total refl refl

  -- each figure of a subject
  pub read : (subject : Subject) → IsOwn subject → AllByRecursion (IsRead subject) (parts_of subject)
  unfolding subject_name
  read (Time condition) own = (read_time condition Total own, (read_time condition Longest own, tt))
  read (Steps event) own = (read_steps event own, tt)
  read (TopPriority task) own = (read_plain header once task own.0 (codes "top_priority") [] (TopPriority task) Total refl refl refl refl, tt)
  read (MostMessages queue) own = (read_owned header (codes "queue") refl queue own.1 (codes "messages") [] (MostMessages queue) Total refl refl, tt)
  read (NotMade task) own = (read_plain header once task own.0 (codes "not_made") [] (NotMade task) Total refl refl refl refl, tt)
  read (Job task job.Count) own = (read_plain header once task own.0 (codes "jobs") [] (Job task job.Count) Total refl refl refl refl, tt)
  read (Job task job.Response) own = (
    read_plain header once task own.0 (codes "response") (codes ".total") (Job task job.Response) Total refl refl refl refl,
    (read_plain header once task own.0 (codes "response") (codes ".longest") (Job task job.Response) Longest refl refl refl refl, tt),
  )
  read (Job task job.ShortestResponse) own = (read_plain header once task own.0 (codes "response.shortest") [] (Job task job.ShortestResponse) Total refl refl refl refl, tt)
  read (Job task job.Latency) own = (read_plain header once task own.0 (codes "latency") (codes ".longest") (Job task job.Latency) Longest refl refl refl refl, tt)
  read (Job task job.Period) own = (read_plain header once task own.0 (codes "period") (codes ".longest") (Job task job.Period) Longest refl refl refl refl, tt)
  read (Job task job.ShortestPeriod) own = (read_plain header once task own.0 (codes "period.shortest") [] (Job task job.ShortestPeriod) Total refl refl refl refl, tt)
  read (Migrations task) own = (read_plain header once task own.0 (codes "migrations") [] (Migrations task) Total refl refl refl refl, tt)
  read (RanOut task) own = (read_plain header once task own.0 (codes "ran_out") [] (RanOut task) Total refl refl refl refl, tt)
  read (Unfinished task) own = (read_plain header once task own.0 (codes "unfinished") [] (Unfinished task) Total refl refl refl refl, tt)
  read (MutexWait mutex) own = (read_owned header (codes "mutex") refl mutex own.1 (codes "wait") [] (MutexWait mutex) Total refl refl, tt)
  read (Run number) own = (read_run header number, tt)
