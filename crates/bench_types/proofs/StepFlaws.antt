-- There is a flaw exactly where a check is a fault, and it is that fault.
use Rattle.std.proofs.Common.{◌≡◌, ℕ, Bool, true, false, ◌==◌, ◌&&◌, cond, ltb, leb, Option, Some, None, is_some, Result, Ok, Err, refl, sym, ap, ap₂, ◌∙◌}
use Rattle.std.specs.Option.{option_or}
use Rattle.bench_types.specs.declared.core_action.CoreAction.{CoreAction}
use Rattle.bench_types.specs.declared.core_action.CoreAction.TheVariants as core_action
use Rattle.bench_types.specs.declared.edit.Edit.{Edit}
use Rattle.bench_types.specs.declared.edit.Edit.TheVariants as edit
use Rattle.bench_types.specs.declared.fault.Fault.{Fault}
use Rattle.bench_types.specs.declared.fault.Fault.TheVariants.{BadHeader, BadArgument}
use Rattle.bench_types.specs.declared.header.Config.{Config}
use Rattle.bench_types.specs.declared.header.Header.{Header}
use Rattle.bench_types.specs.declared.kernel_data.Settings.{Settings}
use Rattle.bench_types.specs.declared.note.Note.{Note}
use Rattle.bench_types.specs.declared.step.Call.{Call}
use Rattle.bench_types.specs.declared.step.Call.TheVariants as call
use Rattle.bench_types.specs.declared.step.Step.{Step}
use Rattle.bench_types.specs.declared.step.Step.TheVariants as step
use Rattle.bench_types.specs.declared.step_flaw.StepFlaw.{StepFlaw}
use Rattle.bench_types.specs.declared.step_flaw.StepFlaw.TheVariants.{Core, TickCore, Task, Mutex, Queue, Mask, Increment, Suspending, NoUnits, NoTime, Index, NewPriority, NewMask}
use Rattle.bench_types.specs.CoreAction.{core_action_check}
use Rattle.bench_types.specs.Edit.{edit_check, numbers_check}
use Rattle.bench_types.specs.Mask.{cores_of_mask}
use Rattle.bench_types.specs.Step.{settings_of, queue_total, core_check, task_check, mutex_check, queue_check, mask_check, index_check, increment_check, note_check, suspending_check, resume_check, pass_check, call_check}
use Rattle.bench_types.specs.Step.{step_check, ◌>>◌}
use Rattle.bench_types.specs.StepFlaw.{flaw_fault, check_of, core_flaw, task_flaw, mutex_flaw, queue_flaw, mask_flaw, index_flaw, increment_flaw, note_flaw, suspending_flaw, resume_flaw, pass_flaw, call_flaw}
use Rattle.bench_types.specs.StepFlaw.{step_flaw, core_action_flaw, numbers_flaw, edit_flaw}

-- a flaw where the test fails
one : (b : Bool) (flaw : StepFlaw) → cond b (Ok tt) (Err (flaw_fault flaw)) ≡ check_of (cond b None (Some flaw))
one true flaw = refl
one false flaw = refl

-- a flaw where it passes
other : (b : Bool) (flaw : StepFlaw) → cond b (Err (flaw_fault flaw)) (Ok tt) ≡ check_of (cond b (Some flaw) None)
other true flaw = refl
other false flaw = refl

-- the first of two
first : (a b : Option StepFlaw) → (check_of a >> check_of b) ≡ check_of (option_or a b)
first None b = refl
first (Some flaw) b = refl

then : (x y : Result (Unit {0}) Fault) (a b : Option StepFlaw) → x ≡ check_of a → y ≡ check_of b → (x >> y) ≡ check_of (option_or a b)
then x y a b is next = ap₂ (λ x y. x >> y) is next ∙ first a b

module _ (s : Settings) where
  core_check_of : (core : ℕ) → core_check s core ≡ check_of (core_flaw s core)
  core_check_of core = one (ltb core s.cores) (Core core s.cores)

  task_check_of : (task : ℕ) → task_check s task ≡ check_of (task_flaw s task)
  task_check_of task = one (leb s.cores task && ltb task s.tasks) (Task task)

  mutex_check_of : (mutex : ℕ) → mutex_check s mutex ≡ check_of (mutex_flaw s mutex)
  mutex_check_of mutex = one (ltb mutex s.mutexes) (Mutex mutex s.mutexes)

  queue_check_of : (queue : ℕ) → queue_check s queue ≡ check_of (queue_flaw s queue)
  queue_check_of queue = one (ltb queue (queue_total s)) (Queue queue (queue_total s))

  mask_check_of : (mask : ℕ) → mask_check s mask ≡ check_of (mask_flaw s mask)
  mask_check_of mask = one (ltb 0 (cores_of_mask s.cores mask)) (Mask mask s.cores)

  index_check_of : (index : ℕ) → index_check s index ≡ check_of (index_flaw s index)
  index_check_of index = one (ltb index s.notes) (Index index s.notes)

  increment_check_of : (inc : ℕ) → increment_check inc ≡ check_of (increment_flaw inc)
  increment_check_of inc = other (inc == 0) Increment

  note_check_of : (note : Note) → note_check s note ≡ check_of (note_flaw s note)
  note_check_of note = then (task_check s note.task) (index_check s note.index) (task_flaw s note.task) (index_flaw s note.index) (task_check_of note.task)
      (index_check_of note.index)

  suspending_check_of : suspending_check s ≡ check_of (suspending_flaw s)
  suspending_check_of = one (is_some s.queues) Suspending

  resume_check_of : (task : ℕ) → resume_check s task ≡ check_of (resume_flaw s task)
  resume_check_of task = then (task_check s task) (suspending_check s) (task_flaw s task) (suspending_flaw s) (task_check_of task) suspending_check_of

  pass_check_of : (units : ℕ) → pass_check s units ≡ check_of (pass_flaw s units)
  pass_check_of units = at (s.units == 1) (units == 0)
    where
      at : (a b : Bool) → cond a (Err BadArgument) (cond b (Err BadArgument) (Ok tt)) ≡ check_of (cond a (Some NoUnits) (cond b (Some NoTime) None))
      at true b = refl
      at false true = refl
      at false false = refl

  pub call_check_of : (made : Call) → call_check s made ≡ check_of (call_flaw s made)
  call_check_of call.Yield = refl
  call_check_of (call.Delay ticks) = refl
  call_check_of (call.DelayUntil prev inc) = increment_check_of inc
  call_check_of call.Finish = refl
  call_check_of call.HoldOpen = refl
  call_check_of call.HoldClose = refl
  call_check_of (call.PrioritySet task priority) = task_check_of task
  call_check_of (call.AffinitySet task mask) = then (task_check s task) (mask_check s mask) (task_flaw s task) (mask_flaw s mask) (task_check_of task)
      (mask_check_of mask)
  call_check_of (call.PreemptOff task) = task_check_of task
  call_check_of (call.PreemptOn task) = task_check_of task
  call_check_of (call.Suspend task) = resume_check_of task
  call_check_of (call.Resume task) = resume_check_of task
  call_check_of (call.Notify note) = note_check_of note
  call_check_of (call.NotifyWait entry exit ticks index) = index_check_of index
  call_check_of (call.NotifyTake clear ticks index) = index_check_of index
  call_check_of (call.StateClear task index) = then (task_check s task) (index_check s index) (task_flaw s task) (index_flaw s index) (task_check_of task)
      (index_check_of index)
  call_check_of (call.ValueClear task bits index) = then (task_check s task) (index_check s index) (task_flaw s task) (index_flaw s index) (task_check_of task)
      (index_check_of index)
  call_check_of (call.MutexTake mutex ticks) = mutex_check_of mutex
  call_check_of (call.MutexGive mutex) = mutex_check_of mutex
  call_check_of (call.QueueSend queue ticks) = queue_check_of queue
  call_check_of (call.QueueReceive queue ticks) = queue_check_of queue

  pub step_check_of : (made : Step) → step_check s made ≡ check_of (step_flaw s made)
  step_check_of step.Tick = refl
  step_check_of (step.Switch core) = core_check_of core
  step_check_of (step.Call core task made) =
      then (core_check s core >> task_check s task) (call_check s made) (option_or (core_flaw s core) (task_flaw s task)) (call_flaw s made)
      (then (core_check s core) (task_check s task) (core_flaw s core) (task_flaw s task) (core_check_of core) (task_check_of task)) (call_check_of made)
  step_check_of (step.Interrupt core note) = then (core_check s core) (note_check s note) (core_flaw s core) (note_flaw s note) (core_check_of core)
      (note_check_of note)
  step_check_of (step.QueueInterrupt core queue direction) = then (core_check s core) (queue_check s queue) (core_flaw s core) (queue_flaw s queue)
      (core_check_of core) (queue_check_of queue)
  step_check_of (step.ResumeInterrupt core task) = then (core_check s core) (resume_check s task) (core_flaw s core) (resume_flaw s task)
      (core_check_of core) (resume_check_of task)
  step_check_of (step.Pass units) = pass_check_of units

  pub core_action_check_of : (core : ℕ) (made : CoreAction) → core_action_check s core made ≡ check_of (core_action_flaw s core made)
  core_action_check_of core (core_action.Call made) = call_check_of made
  core_action_check_of core (core_action.Interrupt note) = note_check_of note
  core_action_check_of core (core_action.QueueInterrupt queue direction) = queue_check_of queue
  core_action_check_of core (core_action.ResumeInterrupt task) = resume_check_of task
  core_action_check_of core core_action.Tick = one (core == 0) (TickCore core)
  core_action_check_of core core_action.Switch = refl

numbers_check_of : (config : Config) (priority mask : ℕ) → numbers_check config priority mask ≡ check_of (numbers_flaw config priority mask)
numbers_check_of config priority mask = at (ltb priority config.priorities) (ltb 0 (cores_of_mask config.cores mask))
  where
    at : (a b : Bool) → cond (a && b) (Ok tt) (Err BadHeader) ≡ check_of
        (option_or (cond a None (Some (NewPriority priority config.priorities))) (cond b None (Some (NewMask mask config.cores))))
    at true true = refl
    at true false = refl
    at false b = refl

pub edit_check_of : (header : Header) (made : Edit) → edit_check header made ≡ check_of (edit_flaw header made)
edit_check_of header (edit.Insert at made) = step_check_of (settings_of header) made
edit_check_of header (edit.Remove at) = refl
edit_check_of header (edit.Replace at made) = step_check_of (settings_of header) made
edit_check_of header (edit.ChangeTask task priority mask) =
    then (task_check (settings_of header) task) (numbers_check header.config priority mask) (task_flaw (settings_of header) task)
    (numbers_flaw header.config priority mask)
    (task_check_of (settings_of header) task) (numbers_check_of header.config priority mask)

unflawed : (flaw : Option StepFlaw) → check_of flaw ≡ Ok tt → flaw ≡ None
unflawed None passes = refl
unflawed (Some flaw) passes = absurd (cc passes)

-- a step that passes has no flaw
pub step_unflawed : (s : Settings) (made : Step) → step_check s made ≡ Ok tt → step_flaw s made ≡ None
step_unflawed s made passes = unflawed (step_flaw s made) (sym (step_check_of s made) ∙ passes)
