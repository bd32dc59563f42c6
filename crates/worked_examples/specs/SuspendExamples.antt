-- Worked suspensions: who is asked, what is left of a wait, and what resumes a task.
use Rattle.std.specs.Prelude.{◌≡◌, List, [], ◌∷◌, ◌++◌, Bool, true, false, Some}
use Rattle.bench_types.specs.declared.header.Header.{Header}
use Rattle.bench_types.specs.declared.note.NotifyAction.TheVariants.{Increment}
use Rattle.bench_types.specs.declared.reply.Refusal.TheVariants.{HoldBlock, SwitchDue}
use Rattle.bench_types.specs.declared.reply.Reply.TheVariants.{Done, Blocked, Flag, Waited, Isr, Refused}
use Rattle.bench_types.specs.declared.step.Call.TheVariants.{Delay, Finish, HoldOpen, MutexGive, MutexTake, Notify, NotifyWait, QueueReceive, Resume, Suspend, Yield}
use Rattle.bench_types.specs.declared.step.Step.{Step}
use Rattle.bench_types.specs.declared.step.Step.TheVariants.{Tick, Switch, Call, ResumeInterrupt, Pass}
use Rattle.bench_model.specs.Session.{state_after, step_of}
use Rattle.bench_model.specs.Start.{start}
use Rattle.bench_model.specs.Suspending.{is_suspended}
use Rattle.bench_model.specs.Table.{Table, stamp_queues, is_ready}
use Rattle.worked_examples.specs.Examples.{outcomes}
use Rattle.worked_examples.specs.MutexExamples.{contended, low_in_use, waiters_after}
use Rattle.worked_examples.specs.NoteExamples.{replies}
use Rattle.worked_examples.specs.QueueExamples.{with_a_queue}

-- the kernel of task 2, of priority 1 on core 1, and task 3, of priority 3 on core 0, after these
-- steps
abbrev pub after_steps : List Step → Table
after_steps steps = state_after (start with_a_queue) steps

abbrev pub is_3_suspended : List Step → Bool
is_3_suspended steps = is_suspended stamp_queues 3 (after_steps steps)

abbrev pub is_3_ready : List Step → Bool
is_3_ready steps = is_ready 3 (after_steps steps).orders

-- task 2 suspends task 3, and core 0 switches
abbrev pub put_away : List Step
put_away = Call 1 2 (Suspend 3) ∷ Switch 0 ∷ []

-- task 2 resumes task 3, which finishes its call
abbrev pub goes_on : List Step
goes_on = Call 1 2 (Resume 3) ∷ Switch 0 ∷ Call 0 3 Finish ∷ []

-- task 3 waits for a notification for 5 ticks, is suspended, and is notified then
abbrev pub notified_away : List Step
notified_away =
    Call 0 3 (NotifyWait 0 0 5 0) ∷ put_away
    ++ Call 1 2 (Notify (record { task = 3; action = Increment; index = 0 })) ∷ []

-- task 3 waits to receive for 2 ticks, and both go by while it is suspended
abbrev pub outlived : List Step
outlived = Call 0 3 (QueueReceive 0 2) ∷ put_away ++ Tick ∷ Tick ∷ []

pub record WorkedSuspensions : Type 0 where
  -- a task suspends itself: its core switches to the idle task, until another task resumes it
  pub itself :
      outcomes with_a_queue (Call 0 3 (Suspend 3) ∷ Switch 0 ∷ Call 1 2 (Resume 3) ∷ Switch 0 ∷ [])
      ≡ Some (Done, 3 ∷ 2 ∷ []) ∷ Some (Done, 0 ∷ 2 ∷ []) ∷ Some (Done, 0 ∷ 2 ∷ [])
      ∷ Some (Done, 3 ∷ 2 ∷ []) ∷ []
  -- the core of a task that another one suspends is asked
  pub another :
      replies with_a_queue (Call 1 2 (Suspend 3) ∷ Call 0 3 Yield ∷ [])
      ≡ Done ∷ Refused SwitchDue ∷ []
  pub is_away : is_3_suspended put_away ≡ true
  -- a waiter leaves its mutex, whose holder keeps what it inherited
  pub no_waiter : waiters_after (contended ++ put_away) ≡ []
  pub still_inherits : low_in_use (contended ++ put_away) ≡ 3
  -- its call goes on where it was resumed
  pub takes :
      replies with_a_queue (contended ++ put_away ++ Call 1 2 (MutexGive 0) ∷ Switch 1 ∷ goes_on)
      ≡ Flag true ∷ Blocked ∷ Done ∷ Done ∷ Flag true ∷ Done ∷ Done ∷ Done ∷ Flag true ∷ []
  -- a notification does not wake it, and is there where its call goes on
  pub not_woken : is_3_suspended notified_away ≡ true
  pub finds_it :
      replies with_a_queue (notified_away ++ goes_on)
      ≡ Blocked ∷ Done ∷ Done ∷ Flag true ∷ Done ∷ Done ∷ Waited true 1 ∷ []
  -- its deadline goes on
  pub runs_out :
      replies with_a_queue (outlived ++ goes_on)
      ≡ Blocked ∷ Done ∷ Done ∷ Done ∷ Done ∷ Done ∷ Done ∷ Flag false ∷ []
  -- a task that waits for ticks alone is not resumed
  pub only_blocked : is_3_ready (Call 0 3 (Delay 5) ∷ Call 1 2 (Resume 3) ∷ []) ≡ false
  -- an interrupt resumes a task, and tells whether it was suspended
  pub interrupts :
      replies with_a_queue (put_away ++ ResumeInterrupt 0 3 ∷ ResumeInterrupt 0 3 ∷ [])
      ≡ Done ∷ Done ∷ Isr true true ∷ Isr false true ∷ []
  -- a task that holds the kernel can suspend another, but not itself
  pub held :
      replies with_a_queue (Call 1 2 HoldOpen ∷ Call 1 2 (Suspend 2) ∷ Call 1 2 (Suspend 3) ∷ [])
      ≡ Done ∷ Refused HoldBlock ∷ Done ∷ []
  -- nothing happens where time goes by
  pub passes : (table : Table) → step_of (Pass 5) table ≡ (Done, table)
