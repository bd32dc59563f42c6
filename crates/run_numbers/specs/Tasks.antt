-- The task that a subject is of.
use Rattle.std.specs.Prelude.{ℕ, Option, Some, None}
use Rattle.run_numbers.specs.declared.subject.Condition.{Condition}
use Rattle.run_numbers.specs.declared.subject.Condition.TheVariants.{Running, RunningOn, WantsCore, Inverted, Blocked, HeldUp, Suspended, InCall, Raised, PreemptionOff}
use Rattle.run_numbers.specs.declared.subject.Event.{Event}
use Rattle.run_numbers.specs.declared.subject.Event.TheVariants.{SwitchedIn, Inherits, TimesOut, Refused, Late, Called, PutOff, Loses}
use Rattle.run_numbers.specs.declared.subject.Subject.{Subject}
use Rattle.run_numbers.specs.declared.subject.Subject.TheVariants.{Time, Steps, TopPriority, NotMade, Job, Migrations, RanOut, Unfinished}

-- the task that a condition is of, if it is of a task
abbrev pub task_in : Condition → Option ℕ
task_in (Running task) = Some task
task_in (RunningOn task core) = Some task
task_in (WantsCore task) = Some task
task_in (Inverted task) = Some task
task_in (Blocked task cause) = Some task
task_in (HeldUp task) = Some task
task_in (Suspended task) = Some task
task_in (InCall task cause) = Some task
task_in (Raised task) = Some task
task_in (PreemptionOff task) = Some task
task_in condition = None

-- the task that an event is of
abbrev pub task_at : Event → Option ℕ
task_at (SwitchedIn task) = Some task
task_at (Inherits task) = Some task
task_at (TimesOut task) = Some task
task_at (Refused task why) = Some task
task_at (Late task) = Some task
task_at (Called task cause) = Some task
task_at (PutOff task) = Some task
task_at (Loses task) = Some task
task_at event = None

-- the task that a subject is of
abbrev pub task_of : Subject → Option ℕ
task_of (Time condition) = task_in condition
task_of (Steps event) = task_at event
task_of (TopPriority task) = Some task
task_of (NotMade task) = Some task
task_of (Job task number) = Some task
task_of (Migrations task) = Some task
task_of (RanOut task) = Some task
task_of (Unfinished task) = Some task
task_of subject = None
