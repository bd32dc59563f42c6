-- What a checked step says of its numbers.
use Rattle.std.proofs.Common.{◌≡◌, ℕ, ◌+◌, ◌<◌, ◌≤◌, Bool, true, false, cond, List, length, Option, Some, None, Ok, Err, arith, refl, subst}
use Rattle.std.proofs.lemmas.Bool.Decides.{nat_tests}
use Rattle.bench_types.specs.declared.fault.Fault.TheVariants.{BadArgument}
use Rattle.bench_types.specs.declared.flaw.HeaderFlaw.TheVariants.{Units}
use Rattle.bench_types.specs.Flaw.{limits_flaw, units_flaw}
use Rattle.bench_types.specs.Name.{is_within}
use Rattle.std.specs.Prelude.{⊤}
use Rattle.bench_types.specs.declared.header.QueueArgs.{QueueArgs}
use Rattle.bench_types.specs.declared.header.Header.{Header}
use Rattle.bench_types.specs.declared.step.Step.{Step}
use Rattle.bench_types.specs.declared.step.Step.TheVariants as step
use Rattle.bench_types.specs.declared.step.Call.{Call}
use Rattle.bench_types.specs.declared.step.Call.TheVariants as call
use Rattle.bench_types.proofs.Passes.{both_pass, checked_core, checked_index, checked_mutex, checked_queue, checked_task, checked_units, few_queues}
use Rattle.bench_types.specs.Header.{header_check}
use Rattle.bench_types.specs.Limits.{max_queues, max_units}
use Rattle.bench_types.specs.Step.{settings_of, queue_total, core_check, index_check, task_check, mask_check, note_check, queue_check, suspending_check, resume_check, pass_check, call_check, step_check, ◌>>◌}

-- the number of a user task
abbrev pub IsUserTask : Header → ℕ → Type 0
IsUserTask header task = (header.config.cores ≤ task) × (task < header.config.cores + length header.tasks)

-- the task of a notification is there, and the notification of the index
pub record IsNoteThere (header : Header) (task index : ℕ) : Type 0 where
  pub owner : IsUserTask header task
  pub index_there : index < header.config.notes

-- the queue is there, and there are few
pub record IsQueueThere (header : Header) (queue : ℕ) : Type 0 where
  pub within : queue < queue_total (settings_of header)
  pub few : queue < max_queues

-- the task is there, and the session says which queues there are
pub record CanBeSuspended (header : Header) (task : ℕ) : Type 0 where
  pub owner : IsUserTask header task
  pub third : header.queues ≡ None → ⊥

-- the task, the mutex, the queue or the notification that a call is for is there
abbrev pub HasTarget : Header → Call → Type 0
HasTarget header call.Yield = ⊤
HasTarget header (call.Delay ticks) = ⊤
HasTarget header (call.DelayUntil prev inc) = ⊤
HasTarget header (call.PrioritySet task priority) = IsUserTask header task
HasTarget header (call.AffinitySet task mask) = IsUserTask header task
HasTarget header (call.PreemptOff task) = IsUserTask header task
HasTarget header (call.PreemptOn task) = IsUserTask header task
HasTarget header (call.Notify note) = IsNoteThere header note.task note.index
HasTarget header (call.NotifyWait entry exit ticks index) = index < header.config.notes
HasTarget header (call.NotifyTake clear ticks index) = index < header.config.notes
HasTarget header (call.StateClear task index) = IsNoteThere header task index
HasTarget header (call.ValueClear task bits index) = IsNoteThere header task index
HasTarget header (call.MutexTake mutex ticks) = mutex < header.config.mutexes
HasTarget header (call.MutexGive mutex) = mutex < header.config.mutexes
HasTarget header (call.QueueSend queue ticks) = IsQueueThere header queue
HasTarget header (call.QueueReceive queue ticks) = IsQueueThere header queue
HasTarget header (call.Suspend task) = CanBeSuspended header task
HasTarget header (call.Resume task) = CanBeSuspended header task
HasTarget header call.Finish = ⊤
HasTarget header call.HoldOpen = ⊤
HasTarget header call.HoldClose = ⊤

-- the core and the caller of a call are there, and what it is for
pub record IsCallInPlace (header : Header) (core task : ℕ) (made : Call) : Type 0 where
  pub core_there : core < header.config.cores
  pub caller : IsUserTask header task
  pub target : HasTarget header made

-- the core of an interrupt is there, and the notification that it is for
pub record IsInterruptInPlace (header : Header) (core task index : ℕ) : Type 0 where
  pub core_there : core < header.config.cores
  pub target : IsNoteThere header task index

-- the core of an interrupt is there, and the queue that it is for
pub record IsQueueInterruptInPlace (header : Header) (core queue : ℕ) : Type 0 where
  pub core_there : core < header.config.cores
  pub target : IsQueueThere header queue

-- the core of an interrupt is there, and the task that it resumes
pub record IsResumeInPlace (header : Header) (core task : ℕ) : Type 0 where
  pub core_there : core < header.config.cores
  pub target : CanBeSuspended header task

-- the same of a step; where time goes by the session says which queues there are
abbrev pub StepFits : Header → Step → Type 0
StepFits header step.Tick = ⊤
StepFits header (step.Switch core) = core < header.config.cores
StepFits header (step.Call core task made) = IsCallInPlace header core task made
StepFits header (step.Interrupt core note) = IsInterruptInPlace header core note.task note.index
StepFits header (step.QueueInterrupt core queue direction) = IsQueueInterruptInPlace header core queue
StepFits header (step.ResumeInterrupt core task) = IsResumeInPlace header core task
StepFits header (step.Pass units) = header.queues ≡ None → ⊥

-- a header that was checked has few queues
few_total : (header : Header) → header_check header ≡ Ok tt → queue_total (settings_of header) ≤ max_queues
few_total header passes = from header.queues refl
  where
    from : (queues : Option (List QueueArgs)) → header.queues ≡ queues → queue_total (settings_of header) ≤ max_queues
    from None is = rw is (omega arith)
    from (Some queues) is = rw is (few_queues header queues passes is)

queue_there : (header : Header) (queue : ℕ) → header_check header ≡ Ok tt → queue_check (settings_of header) queue ≡ Ok tt → IsQueueThere header queue
queue_there header queue checked passes =
    let there = checked_queue (settings_of header) queue passes in
    record { within = there; few = omega (arith, there, few_total header checked) }

-- the units of a tick are few, and there is one in a session that says nothing of queues
pub record AreUnits (header : Header) : Type 0 where
  pub few : header.config.units ≤ max_units
  pub single : header.queues ≡ None → header.config.units ≡ 1

within : (most units : ℕ) → limits_flaw 1 most units (Units units) ≡ None → (1 ≤ units) × (units ≤ most)
within most units none = at (is_within 1 most units) refl none
  where
    at : (b : Bool) → is_within 1 most units ≡ b → cond b None (Some (Units units)) ≡ None → (1 ≤ units) × (units ≤ most)
    at true is none = (grind (arith, nat_tests, is), grind (arith, nat_tests, is))
    at false is none = absurd (cc none)

pub checked_time : (header : Header) → header_check header ≡ Ok tt → AreUnits header
checked_time header passes = from header.queues refl
  where
    flawless : {queues : Option (List QueueArgs)} → header.queues ≡ queues → units_flaw header.config.units queues ≡ None
    flawless is = subst (λ queues. units_flaw header.config.units queues ≡ None) is (checked_units header passes)

    from : (queues : Option (List QueueArgs)) → header.queues ≡ queues → AreUnits header
    from None is =
        let one = within 1 header.config.units (flawless is) in
        record { few = omega (arith, one.1); single = λ none. omega (arith, one.0, one.1) }
    from (Some queues) is =
        let few = within max_units header.config.units (flawless is) in
        record { few = few.1; single = λ none. absurd (cc (is, none)) }

-- a session that suspends tasks says which queues there are
suspends : (header : Header) → suspending_check (settings_of header) ≡ Ok tt → header.queues ≡ None → ⊥
suspends header passes none =
    let refused : Err BadArgument ≡ Ok tt = rw none at passes in
    absurd (cc (refused))

can_be_suspended : (header : Header) (task : ℕ) → resume_check (settings_of header) task ≡ Ok tt → CanBeSuspended header task
can_be_suspended header task passes =
    let settings = settings_of header in
    let both = both_pass (task_check settings task) (suspending_check settings) passes in
    record { owner = checked_task settings task both.0; third = suspends header both.1 }

-- and so does one in which time goes by
passes_time : (header : Header) (units : ℕ) → header_check header ≡ Ok tt → pass_check (settings_of header) units ≡ Ok tt → header.queues ≡ None → ⊥
passes_time header units checked passes none =
    let one : header.config.units ≡ 1 = (checked_time header checked).single none in
    let refused : Err BadArgument ≡ Ok tt = rw one at passes in
    absurd (cc (refused))

note_there : (header : Header) (task index : ℕ) → (task_check (settings_of header) task >> index_check (settings_of header) index) ≡ Ok tt → IsNoteThere header
    task index
note_there header task index passes =
    let settings = settings_of header in
    let both = both_pass (task_check settings task) (index_check settings index) passes in
    record { owner = checked_task settings task both.0; index_there = checked_index settings index both.1 }

has_target : (header : Header) (made : Call) → header_check header ≡ Ok tt → call_check (settings_of header) made ≡ Ok tt → HasTarget header made
has_target header call.Yield checked passes = tt
has_target header (call.Delay ticks) checked passes = tt
has_target header (call.DelayUntil prev inc) checked passes = tt
has_target header (call.PrioritySet task priority) checked passes = checked_task (settings_of header) task passes
has_target header (call.AffinitySet task mask) checked passes =
    let settings = settings_of header in
    checked_task settings task (both_pass (task_check settings task) (mask_check settings mask) passes).0
has_target header (call.PreemptOff task) checked passes = checked_task (settings_of header) task passes
has_target header (call.PreemptOn task) checked passes = checked_task (settings_of header) task passes
has_target header (call.Notify note) checked passes = note_there header note.task note.index passes
has_target header (call.NotifyWait entry exit ticks index) checked passes = checked_index (settings_of header) index passes
has_target header (call.NotifyTake clear ticks index) checked passes = checked_index (settings_of header) index passes
has_target header (call.StateClear task index) checked passes = note_there header task index passes
has_target header (call.ValueClear task bits index) checked passes = note_there header task index passes
has_target header (call.MutexTake mutex ticks) checked passes = checked_mutex (settings_of header) mutex passes
has_target header (call.MutexGive mutex) checked passes = checked_mutex (settings_of header) mutex passes
has_target header (call.QueueSend queue ticks) checked passes = queue_there header queue checked passes
has_target header (call.QueueReceive queue ticks) checked passes = queue_there header queue checked passes
has_target header (call.Suspend task) checked passes = can_be_suspended header task passes
has_target header (call.Resume task) checked passes = can_be_suspended header task passes
has_target header call.Finish checked passes = tt
has_target header call.HoldOpen checked passes = tt
has_target header call.HoldClose checked passes = tt

pub in_place : (header : Header) (made : Step) → header_check header ≡ Ok tt → step_check (settings_of header) made ≡ Ok tt → StepFits header made
in_place header step.Tick checked passes = tt
in_place header (step.Switch core) checked passes = checked_core (settings_of header) core passes
in_place header (step.Call core task made) checked passes =
    let settings = settings_of header in
    let two = both_pass (core_check settings core >> task_check settings task) (call_check settings made) passes in
    let one = both_pass (core_check settings core) (task_check settings task) two.0 in
    record {
      core_there = checked_core settings core one.0;
      caller = checked_task settings task one.1;
      target = has_target header made checked two.1;
    }
in_place header (step.Interrupt core note) checked passes =
    let settings = settings_of header in
    let both = both_pass (core_check settings core) (note_check settings note) passes in
    record {
      core_there = checked_core settings core both.0;
      target = note_there header note.task note.index both.1;
    }
in_place header (step.QueueInterrupt core queue direction) checked passes =
    let settings = settings_of header in
    let both = both_pass (core_check settings core) (queue_check settings queue) passes in
    record { core_there = checked_core settings core both.0; target = queue_there header queue checked both.1 }
in_place header (step.ResumeInterrupt core task) checked passes =
    let settings = settings_of header in
    let both = both_pass (core_check settings core) (resume_check settings task) passes in
    record { core_there = checked_core settings core both.0; target = can_be_suspended header task both.1 }
in_place header (step.Pass units) checked passes = passes_time header units checked passes
