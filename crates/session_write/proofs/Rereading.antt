-- A session that is written is read back.
use Rattle.std.proofs.Common.{◌≡◌, ℕ, suc, ◌-◌, ◌^◌, ◌<◌, ◌≤◌, ◌==◌, Bool, true, false, cond, List, [], ◌∷◌, map, codes, refl, sym, ap, arith, ltb, lt-ltb}
use Rattle.std.proofs.Common.{Option, Some, None, Result, Ok}
use Rattle.std.specs.Prelude.{All, IsTrue, is_some}
use Rattle.std.specs.List.{list_all, AllByRecursion}
use Rattle.std.proofs.lemmas.Bool.{and_parts}
use Rattle.std.proofs.lemmas.Bool.Decides.{nat_tests}
use Rattle.std.proofs.lemmas.List.Elements.{recursion_from_All}
use Rattle.serde_json.specs.Data.{Data}
use Rattle.serde_json.specs.Find.{get}
use Rattle.serde_json.specs.View.{items_of}
use Rattle.bench_types.specs.declared.header.Config.{Config}
use Rattle.bench_types.specs.declared.header.QueueArgs.{QueueArgs}
use Rattle.bench_types.specs.declared.header.TaskArgs.{TaskArgs}
use Rattle.bench_types.specs.declared.header.Header.{Header}
use Rattle.bench_types.specs.declared.note.NotifyAction.{NotifyAction}
use Rattle.bench_types.specs.declared.note.NotifyAction.TheVariants as action
use Rattle.bench_types.specs.declared.step.Step.{Step}
use Rattle.bench_types.specs.declared.step.Step.TheVariants as step
use Rattle.bench_types.specs.declared.step.Call.{Call}
use Rattle.bench_types.specs.declared.step.Call.TheVariants as call
use Rattle.bench_types.specs.declared.step.Direction.{Direction}
use Rattle.bench_types.specs.declared.step.Direction.TheVariants.{Send, Receive}
use Rattle.bench_types.specs.declared.step_flaw.StepFlaw.{StepFlaw}
use Rattle.bench_types.specs.Flaw.{header_flaw}
use Rattle.bench_types.specs.Name.{is_name}
use Rattle.bench_types.specs.Session.{IsSession}
use Rattle.bench_types.specs.Step.{settings_of, IsNotifyActionOfWord, IsOfWords, IsStepOfWords}
use Rattle.bench_types.specs.StepFlaw.{step_flaw}
use Rattle.bench_types.specs.Limits.{max_priorities}
use Rattle.session_text.specs.Accepted.{items_accepted}
use Rattle.session_text.specs.NotifyAction.{action_at, action_kind_at, action_of_kind_at}
use Rattle.session_text.specs.Array.{each_at, list_at}
use Rattle.session_text.specs.declared.format.Format.{Format}
use Rattle.session_text.specs.declared.format.Format.TheVariants.{One, Two, Three}
use Rattle.session_text.specs.Format.{format_at, notes_at, index_at, queue_at, queues_at, units_at}
use Rattle.session_text.specs.Header.{task_at, settings_at, header_at}
use Rattle.session_text.specs.Member.{number_at, number_or_at, text_at, flag_at, array_at}
use Rattle.bench_types.proofs.Passes.{has_valid_args, checked_flaw, checked_header, queue_words, IsQueueOfWords, IsWithinLimits}
use Rattle.bench_types.proofs.StepFlaws.{step_unflawed}
use Rattle.session_text.specs.Names.{names_of, number_of, user_names}
use Rattle.session_text.specs.Session.{session_at, session_accepted, steps_accepted, session}
use Rattle.session_text.specs.declared.fault.TextFault.{TextFault}
use Rattle.session_text.specs.Step.{step_at, step_kind_at, step_of_core_at, step_of_kind_at, task_named_at, note_at, wait_at, transfer_at, call_at}
use Rattle.session_write.specs.Written.{queue_data, task_data, task_name, step_data, format_for, data_in, session_data, WrittenReadsBack}
use Rattle.session_write.proofs.Limits.{StepFits, IsCallInPlace, IsNoteThere, IsQueueInterruptInPlace, IsQueueThere, IsResumeInPlace, IsUserTask, checked_time, in_place}
use Rattle.session_write.proofs.Plain.{IsTask, IsWritable, session_plain, session_depth, utf8_name}
use Rattle.session_write.proofs.ReadBack.{document-compact_text}
use Rattle.session_write.proofs.TaskNames.{number_of_name}

task_read : (at : List ℕ) (task : TaskArgs) → task.priority < 2 ^ 32 → task.mask < 2 ^ 32 → task_at at (task_data task) ≡ Ok task
unfolding task_at number_at text_at
task_read at task priority mask = rw (lt-ltb _ _ priority, lt-ltb _ _ mask) refl

tasks_read : (config : Config) (at : List ℕ) (index : ℕ) (tasks : List TaskArgs) → config.priorities ≤ max_priorities → AllByRecursion (IsTask config) tasks →
    each_at task_at at index (items_of (map task_data tasks)) ≡ Ok tasks
tasks_read config at index [] few each = refl
tasks_read config at index (task ∷ tasks) few each =
    let priority : task.priority < config.priorities = grind (arith, nat_tests, each.0.fits) in
    rw (task_read _ task (omega arith) each.0.mask, tasks_read config at (suc index) tasks few each.1) refl

target_named : (header : Header) (task : ℕ) → IsWithinLimits header → IsUserTask header task → number_of (names_of header) (task_name header task) ≡ task
target_named header task h there = number_of_name header task there.0 there.1 h.once

core_number : (header : Header) (core : ℕ) → IsWithinLimits header → core < header.config.cores → ltb core (2 ^ 32) ≡ true
core_number header core h there = lt-ltb _ _ (omega (arith, h.few_cores))

mutex_number : (header : Header) (mutex : ℕ) → IsWithinLimits header → mutex < header.config.mutexes → ltb mutex (2 ^ 32) ≡ true
mutex_number header mutex h there = lt-ltb _ _ (omega (arith, h.few_mutexes))

-- in the first format each task has one notification; the third alone says which queues there are
abbrev pub Fits : Format → Header → Type 0
Fits One header = (header.config.notes ≡ 1) × (header.queues ≡ None)
Fits Two header = header.queues ≡ None
Fits Three header = (queues : List QueueArgs) × (header.queues ≡ Some queues)

fits_for : (header : Header) → Fits (format_for header) header
fits_for header = from header.queues refl
  where
    at : header.queues ≡ None → (b : Bool) → (header.config.notes == 1) ≡ b → Fits (cond b One Two) header
    at none true same = (grind (arith, nat_tests, same), none)
    at none false same = none

    from : (queues : Option (List QueueArgs)) → header.queues ≡ queues → Fits
        (cond (is_some queues) Three (cond (header.config.notes == 1) One Two)) header
    from None is = at is (header.config.notes == 1) refl
    from (Some queues) is = (queues, is)

-- the only index in the first format
first_index : (header : Header) (index : ℕ) → header.config.notes ≡ 1 → index < header.config.notes → index ≡ 0
first_index header index one there = omega arith

index_number : (header : Header) (index : ℕ) → IsWithinLimits header → index < header.config.notes → ltb index (2 ^ 32) ≡ true
index_number header index h there = lt-ltb _ _ (omega (arith, h.few_notes))

notify_read : (format : Format) (header : Header) (at : List ℕ) (core task to : ℕ) (what : NotifyAction) (index : ℕ) → Fits format header → IsWithinLimits
    header → core < header.config.cores → IsUserTask header task → IsNoteThere header to index → IsNotifyActionOfWord what → step_at format (names_of header)
    at (step_data format header (step.Call core task (call.Notify (record { task = to; action = what; index = index })))) ≡ Ok
    (step.Call core task (call.Notify (record { task = to; action = what; index = index })))
unfolding step_at step_kind_at text_at step_of_kind_at step_of_core_at number_at task_named_at call_at note_at action_at action_kind_at action_of_kind_at index_at number_or_at
notify_read One header at core task to action.Nothing index fits h there caller target word = rw (
  first_index header index fits.0 target.index_there,
  core_number header core h there,
  target_named header task h caller,
  target_named header to h
      target.owner,
) refl
notify_read One header at core task to (action.SetBits bits) index fits h there caller target word = rw (
  first_index header index fits.0 target.index_there,
  core_number header core h there,
  lt-ltb _ _ word,
  target_named header task h caller,
  target_named header
      to h target.owner,
) refl
notify_read One header at core task to action.Increment index fits h there caller target word = rw (
  first_index header index fits.0 target.index_there,
  core_number header core h there,
  target_named header task h caller,
  target_named header to h
      target.owner,
) refl
notify_read One header at core task to (action.Set value) index fits h there caller target word = rw (
  first_index header index fits.0 target.index_there,
  core_number header core h there,
  lt-ltb _ _ word,
  target_named header task h caller,
  target_named header
      to h target.owner,
) refl
notify_read One header at core task to (action.SetNew value) index fits h there caller target word = rw (
  first_index header index fits.0 target.index_there,
  core_number header core h there,
  lt-ltb _ _ word,
  target_named header task h caller,
  target_named header
      to h target.owner,
) refl
notify_read later header at core task to action.Nothing index fits h there caller target word = rw
    (index_number header index h target.index_there, core_number header core h there, target_named header task h caller, target_named header to h target.owner)
    refl
notify_read later header at core task to (action.SetBits bits) index fits h there caller target word = rw (
  index_number header index h target.index_there,
  core_number header core h there,
  lt-ltb _ _ word,
  target_named header task h caller,
  target_named header to
      h target.owner,
) refl
notify_read later header at core task to action.Increment index fits h there caller target word = rw
    (index_number header index h target.index_there, core_number header core h there, target_named header task h caller, target_named header to h target.owner)
    refl
notify_read later header at core task to (action.Set value) index fits h there caller target word = rw (
  index_number header index h target.index_there,
  core_number header core h there,
  lt-ltb _ _ word,
  target_named header task h caller,
  target_named header to
      h target.owner,
) refl
notify_read later header at core task to (action.SetNew value) index fits h there caller target word = rw (
  index_number header index h target.index_there,
  core_number header core h there,
  lt-ltb _ _ word,
  target_named header task h caller,
  target_named header to
      h target.owner,
) refl

interrupt_read : (format : Format) (header : Header) (at : List ℕ) (core to : ℕ) (what : NotifyAction) (index : ℕ) → Fits format header → IsWithinLimits header
    → core < header.config.cores → IsNoteThere header to index → IsNotifyActionOfWord what → step_at format (names_of header)
    at (step_data format header (step.Interrupt core (record { task = to; action = what; index = index }))) ≡ Ok
    (step.Interrupt core (record { task = to; action = what; index = index }))
unfolding step_at step_kind_at text_at step_of_kind_at step_of_core_at number_at task_named_at note_at action_at action_kind_at action_of_kind_at index_at number_or_at
interrupt_read One header at core to action.Nothing index fits h there target word = rw
    (first_index header index fits.0 target.index_there, core_number header core h there, target_named header to h target.owner) refl
interrupt_read One header at core to (action.SetBits bits) index fits h there target word = rw
    (first_index header index fits.0 target.index_there, core_number header core h there, lt-ltb _ _ word, target_named header to h target.owner) refl
interrupt_read One header at core to action.Increment index fits h there target word = rw
    (first_index header index fits.0 target.index_there, core_number header core h there, target_named header to h target.owner) refl
interrupt_read One header at core to (action.Set value) index fits h there target word = rw
    (first_index header index fits.0 target.index_there, core_number header core h there, lt-ltb _ _ word, target_named header to h target.owner) refl
interrupt_read One header at core to (action.SetNew value) index fits h there target word = rw
    (first_index header index fits.0 target.index_there, core_number header core h there, lt-ltb _ _ word, target_named header to h target.owner) refl
interrupt_read later header at core to action.Nothing index fits h there target word = rw
    (index_number header index h target.index_there, core_number header core h there, target_named header to h target.owner) refl
interrupt_read later header at core to (action.SetBits bits) index fits h there target word = rw
    (index_number header index h target.index_there, core_number header core h there, lt-ltb _ _ word, target_named header to h target.owner) refl
interrupt_read later header at core to action.Increment index fits h there target word = rw
    (index_number header index h target.index_there, core_number header core h there, target_named header to h target.owner) refl
interrupt_read later header at core to (action.Set value) index fits h there target word = rw
    (index_number header index h target.index_there, core_number header core h there, lt-ltb _ _ word, target_named header to h target.owner) refl
interrupt_read later header at core to (action.SetNew value) index fits h there target word = rw
    (index_number header index h target.index_there, core_number header core h there, lt-ltb _ _ word, target_named header to h target.owner) refl

queue_number : (header : Header) (queue : ℕ) → IsQueueThere header queue → ltb queue (2 ^ 32) ≡ true
queue_number header queue there = lt-ltb _ _ (omega (arith, there.few))

-- a session that doesn't say which queues there are has none
no_queue : (header : Header) (queue : ℕ) → header.queues ≡ None → IsQueueThere header queue → ⊥
no_queue header queue none there =
    let few : queue < 0 = rw none at there.within in
    omega arith

queue_interrupt_read : (format : Format) (header : Header) (at : List ℕ) (core queue : ℕ) (direction : Direction) → Fits format header → IsWithinLimits header
    → IsQueueInterruptInPlace header core queue → step_at format (names_of header) at (step_data format header (step.QueueInterrupt core queue direction)) ≡ Ok
    (step.QueueInterrupt core queue direction)
unfolding step_at step_kind_at text_at step_of_kind_at step_of_core_at number_at
queue_interrupt_read One header at core queue direction fits h place = absurd (no_queue header queue fits.1 place.target)
queue_interrupt_read Two header at core queue direction fits h place = absurd (no_queue header queue fits place.target)
queue_interrupt_read Three header at core queue Send fits h place = rw (core_number header core h place.core_there, queue_number header queue place.target) refl
queue_interrupt_read Three header at core queue Receive fits h place = rw
    (core_number header core h place.core_there, queue_number header queue place.target) refl

resume_interrupt_read : (format : Format) (header : Header) (at : List ℕ) (core task : ℕ) → Fits format header → IsWithinLimits header → IsResumeInPlace header
    core task → step_at format (names_of header) at (step_data format header (step.ResumeInterrupt core task)) ≡ Ok (step.ResumeInterrupt core task)
unfolding step_at step_kind_at text_at step_of_kind_at step_of_core_at number_at task_named_at
resume_interrupt_read One header at core task fits h place = absurd (place.target.third fits.1)
resume_interrupt_read Two header at core task fits h place = absurd (place.target.third fits)
resume_interrupt_read Three header at core task fits h place = rw
    (core_number header core h place.core_there, target_named header task h place.target.owner) refl

pass_read : (format : Format) (header : Header) (at : List ℕ) (units : ℕ) → Fits format header → StepFits header (step.Pass units) → units < 2 ^ 32 → step_at
    format (names_of header) at (step_data format header (step.Pass units)) ≡ Ok (step.Pass units)
unfolding step_at step_kind_at text_at step_of_kind_at number_at
pass_read One header at units fits third words = absurd (third fits.1)
pass_read Two header at units fits third words = absurd (third fits)
pass_read Three header at units fits third words = rw (lt-ltb _ _ words) refl

call_read : (format : Format) (header : Header) (at : List ℕ) (core task : ℕ) (made : Call) → Fits format header → IsWithinLimits header → IsCallInPlace header
    core task made → IsOfWords made → step_at format (names_of header) at (step_data format header (step.Call core task made)) ≡ Ok (step.Call core task made)
unfolding step_at step_kind_at text_at step_of_kind_at step_of_core_at number_at flag_at task_named_at call_at wait_at transfer_at index_at number_or_at
call_read format header at core task call.Yield fits h place words = rw (core_number header core h place.core_there, target_named header task h place.caller)
    refl
call_read format header at core task (call.Delay ticks) fits h place words = rw
    (core_number header core h place.core_there, lt-ltb _ _ words, target_named header task h place.caller) refl
call_read format header at core task (call.DelayUntil prev inc) fits h place words = rw
    (core_number header core h place.core_there, lt-ltb _ _ words.0, lt-ltb _ _ words.1, target_named header task h place.caller) refl
call_read format header at core task (call.PrioritySet to priority) fits h place words = rw
    (core_number header core h place.core_there, lt-ltb _ _ words, target_named header task h place.caller, target_named header to h place.target) refl
call_read format header at core task (call.AffinitySet to mask) fits h place words = rw
    (core_number header core h place.core_there, lt-ltb _ _ words, target_named header task h place.caller, target_named header to h place.target) refl
call_read format header at core task (call.PreemptOff to) fits h place words = rw
    (core_number header core h place.core_there, target_named header task h place.caller, target_named header to h place.target) refl
call_read format header at core task (call.PreemptOn to) fits h place words = rw
    (core_number header core h place.core_there, target_named header task h place.caller, target_named header to h place.target) refl
call_read format header at core task (call.Notify note) fits h place words = notify_read format header at core task note.task note.action note.index fits h
    place.core_there place.caller place.target words
call_read One header at core task (call.NotifyWait entry exit ticks index) fits h place words = rw (
  first_index header index fits.0 place.target,
  core_number header core h place.core_there,
  lt-ltb _ _ words.0,
  lt-ltb _ _ words.1,
  lt-ltb _ _ words.2,
  target_named header task h place.caller,
) refl
call_read later header at core task (call.NotifyWait entry exit ticks index) fits h place words = rw (
  index_number header index h place.target,
  core_number header core h place.core_there,
  lt-ltb _ _ words.0,
  lt-ltb _ _ words.1,
  lt-ltb _ _ words.2,
  target_named header task h place.caller,
) refl
call_read One header at core task (call.NotifyTake clear ticks index) fits h place words = rw
    (first_index header index fits.0 place.target, core_number header core h place.core_there, lt-ltb _ _ words, target_named header task h place.caller) refl
call_read later header at core task (call.NotifyTake clear ticks index) fits h place words = rw
    (index_number header index h place.target, core_number header core h place.core_there, lt-ltb _ _ words, target_named header task h place.caller) refl
call_read One header at core task (call.StateClear to index) fits h place words = rw (
  first_index header index fits.0 place.target.index_there,
  core_number header core h place.core_there,
  target_named header task h place.caller,
  target_named
      header to h place.target.owner,
) refl
call_read later header at core task (call.StateClear to index) fits h place words = rw (
  index_number header index h place.target.index_there,
  core_number header core h place.core_there,
  target_named header task h place.caller,
  target_named
      header to h place.target.owner,
) refl
call_read One header at core task (call.ValueClear to bits index) fits h place words = rw (
  first_index header index fits.0 place.target.index_there,
  core_number header core h place.core_there,
  lt-ltb _ _ words,
  target_named header task h
      place.caller,
  target_named header to h place.target.owner,
) refl
call_read later header at core task (call.ValueClear to bits index) fits h place words = rw (
  index_number header index h place.target.index_there,
  core_number header core h place.core_there,
  lt-ltb _ _ words,
  target_named header task h
      place.caller,
  target_named header to h place.target.owner,
) refl
call_read format header at core task (call.MutexTake mutex ticks) fits h place words = rw
    (core_number header core h place.core_there, mutex_number header mutex h place.target, lt-ltb _ _ words, target_named header task h place.caller) refl
call_read format header at core task (call.MutexGive mutex) fits h place words = rw
    (core_number header core h place.core_there, mutex_number header mutex h place.target, target_named header task h place.caller) refl
call_read One header at core task (call.QueueSend queue ticks) fits h place words = absurd (no_queue header queue fits.1 place.target)
call_read Two header at core task (call.QueueSend queue ticks) fits h place words = absurd (no_queue header queue fits place.target)
call_read Three header at core task (call.QueueSend queue ticks) fits h place words = rw
    (core_number header core h place.core_there, queue_number header queue place.target, lt-ltb _ _ words, target_named header task h place.caller) refl
call_read One header at core task (call.QueueReceive queue ticks) fits h place words = absurd (no_queue header queue fits.1 place.target)
call_read Two header at core task (call.QueueReceive queue ticks) fits h place words = absurd (no_queue header queue fits place.target)
call_read Three header at core task (call.QueueReceive queue ticks) fits h place words = rw
    (core_number header core h place.core_there, queue_number header queue place.target, lt-ltb _ _ words, target_named header task h place.caller) refl
call_read One header at core task (call.Suspend to) fits h place words = absurd (place.target.third fits.1)
call_read Two header at core task (call.Suspend to) fits h place words = absurd (place.target.third fits)
call_read Three header at core task (call.Suspend to) fits h place words = rw
    (core_number header core h place.core_there, target_named header task h place.caller, target_named header to h place.target.owner) refl
call_read One header at core task (call.Resume to) fits h place words = absurd (place.target.third fits.1)
call_read Two header at core task (call.Resume to) fits h place words = absurd (place.target.third fits)
call_read Three header at core task (call.Resume to) fits h place words = rw
    (core_number header core h place.core_there, target_named header task h place.caller, target_named header to h place.target.owner) refl
call_read format header at core task call.Finish fits h place words = rw (core_number header core h place.core_there, target_named header task h place.caller)
    refl
call_read format header at core task call.HoldOpen fits h place words = rw (core_number header core h place.core_there, target_named header task h place.caller)
    refl
call_read format header at core task call.HoldClose fits h place words = rw
    (core_number header core h place.core_there, target_named header task h place.caller) refl

step_read : (format : Format) (header : Header) (at : List ℕ) (made : Step) → Fits format header → IsWithinLimits header → StepFits header made → IsStepOfWords
    made → step_at format (names_of header) at (step_data format header made) ≡ Ok made
unfolding step_at step_kind_at text_at step_of_kind_at step_of_core_at number_at
step_read format header at step.Tick fits h place words = refl
step_read format header at (step.Switch core) fits h place words = rw (core_number header core h place) refl
step_read format header at (step.Call core task made) fits h place words = call_read format header at core task made fits h place words
step_read format header at (step.Interrupt core note) fits h place words = interrupt_read format header at core note.task note.action note.index fits h
    place.core_there place.target words
step_read format header at (step.QueueInterrupt core queue direction) fits h place words = queue_interrupt_read format header at core queue direction fits h
    place
step_read format header at (step.ResumeInterrupt core task) fits h place words = resume_interrupt_read format header at core task fits h place
step_read format header at (step.Pass units) fits h place words = pass_read format header at units fits place words

steps_read : (format : Format) (header : Header) (at : List ℕ) (index : ℕ) (steps : List Step) → Fits format header → IsWithinLimits header → AllByRecursion
    (λ made. StepFits header made × IsStepOfWords made) steps → each_at (step_at format (names_of header)) at index
    (items_of (map (step_data format header) steps)) ≡ Ok steps
steps_read format header at index [] fits h each = refl
steps_read format header at index (made ∷ steps) fits h each = rw (
  step_read format header _ made fits h each.0.0 each.0.1,
  steps_read format header
      at (suc index) steps fits h each.1,
) refl

abbrev with_settings : Header → ℕ → ℕ → Option (List QueueArgs) → Result (Config × Option (List QueueArgs)) TextFault
with_settings header notes units queues = Ok (
  record {
    cores = header.config.cores;
    priorities = header.config.priorities;
    slicing = header.config.slicing;
    tick = header.config.tick;
    mutexes = header.config.mutexes;
    notes = notes;
    units = units;
  },
  queues,
)

-- the settings and the queues, as they are read
settings_made : (header : Header) (notes units : ℕ) (queues : Option (List QueueArgs)) → notes ≡ header.config.notes → units ≡ header.config.units → queues ≡
    header.queues → with_settings header notes units queues ≡ Ok (header.config, header.queues)
settings_made header notes units queues same_notes same_units same_queues = rw (same_notes, same_units, same_queues) refl

queue_read : (at : List ℕ) (queue : QueueArgs) → IsQueueOfWords queue → queue_at at (queue_data queue) ≡ Ok queue
unfolding queue_at number_at
queue_read at queue words = rw (lt-ltb _ _ words.most, lt-ltb _ _ words.messages) refl

queues_read : (at : List ℕ) (index : ℕ) (queues : List QueueArgs) → AllByRecursion IsQueueOfWords queues → each_at queue_at at index
    (items_of (map queue_data queues)) ≡ Ok queues
queues_read at index [] each = refl
queues_read at index (queue ∷ queues) each = rw (queue_read _ queue each.0, queues_read at (suc index) queues each.1) refl

-- the settings of the third format, by whether a tick has one unit of time
third_read : (header : Header) (steps : List Step) (at : List ℕ) (queues : List QueueArgs) → header.queues ≡ Some queues → IsWritable header steps → settings_at
    Three at (data_in Three header steps) ≡ Ok (header.config, header.queues)
unfolding data_in settings_at notes_at queues_at units_at list_at array_at number_at number_or_at flag_at
third_read header steps at queues some h = from (header.config.units == 1) refl
  where
    limits : IsWithinLimits header
    limits = h.limits

    cores : header.config.cores < 2 ^ 32
    cores = omega (arith, limits.few_cores)

    priorities : header.config.priorities < 2 ^ 32
    priorities = omega (arith, limits.few_priorities)

    mutexes : header.config.mutexes < 2 ^ 32
    mutexes = omega (arith, limits.few_mutexes)

    notes : header.config.notes < 2 ^ 32
    notes = omega (arith, limits.few_notes)

    units : header.config.units < 2 ^ 32
    units = omega (arith, h.units.few)

    each : AllByRecursion IsQueueOfWords queues
    each = rw some at h.each_queue

    from : (b : Bool) → (header.config.units == 1) ≡ b → settings_at Three at (data_in Three header steps) ≡ Ok (header.config, header.queues)
    from true one = rw
        (one, some, lt-ltb _ _ cores, lt-ltb _ _ priorities, lt-ltb _ _ mutexes, lt-ltb _ _ notes, lt-ltb _ _ h.tick, queues_read _ 0 queues each)
        (ap (λ units. with_settings header header.config.notes units (Some queues)) single)
      where
        single : 1 ≡ header.config.units
        single = grind (arith, nat_tests, one)
    from false more = rw
        (more, some, lt-ltb _ _ cores, lt-ltb _ _ priorities, lt-ltb _ _ mutexes, lt-ltb _ _ notes, lt-ltb _ _ units, lt-ltb _ _ h.tick, queues_read _ 0 queues each)
        refl

settings_read : (format : Format) (header : Header) (steps : List Step) (at : List ℕ) → Fits format header → IsWritable header steps → settings_at format
    at (data_in format header steps) ≡ Ok (header.config, header.queues)
unfolding data_in settings_at notes_at queues_at units_at number_at flag_at
settings_read One header steps at fits h =
    let limits = h.limits in
    let cores : header.config.cores < 2 ^ 32 = omega (arith, limits.few_cores) in
    let priorities : header.config.priorities < 2 ^ 32 = omega (arith, limits.few_priorities) in
    let mutexes : header.config.mutexes < 2 ^ 32 = omega (arith, limits.few_mutexes) in
    rw (lt-ltb _ _ cores, lt-ltb _ _ priorities, lt-ltb _ _ mutexes, lt-ltb _ _ h.tick)
    (settings_made header 1 1 None (sym fits.0) (sym (h.units.single fits.1)) (sym fits.1))
settings_read Two header steps at fits h =
    let limits = h.limits in
    let cores : header.config.cores < 2 ^ 32 = omega (arith, limits.few_cores) in
    let priorities : header.config.priorities < 2 ^ 32 = omega (arith, limits.few_priorities) in
    let mutexes : header.config.mutexes < 2 ^ 32 = omega (arith, limits.few_mutexes) in
    let notes : header.config.notes < 2 ^ 32 = omega (arith, limits.few_notes) in
    rw (lt-ltb _ _ cores, lt-ltb _ _ priorities, lt-ltb _ _ mutexes, lt-ltb _ _ notes, lt-ltb _ _ h.tick)
    (settings_made header header.config.notes 1 None refl (sym (h.units.single fits)) (sym fits))
settings_read Three header steps at fits h = third_read header steps at fits.0 fits.1 h

tasks_found : (format : Format) (header : Header) (steps : List Step) (at : List ℕ) → IsWritable header steps → list_at task_at at (codes "tasks")
    (data_in format header steps) ≡ Ok header.tasks
unfolding data_in list_at array_at
tasks_found One header steps at h = tasks_read header.config _ 0 header.tasks h.limits.few_priorities h.each_task
tasks_found later header steps at h = tasks_read header.config _ 0 header.tasks h.limits.few_priorities h.each_task

header_read : (format : Format) (header : Header) (steps : List Step) (at : List ℕ) → Fits format header → header_flaw header ≡ None → IsWritable header steps →
    header_at format at (data_in format header steps) ≡ Ok (Ok header)
unfolding header_at
header_read format header steps at fits valid h = rw (settings_read format header steps at fits h, tasks_found format header steps at h, valid) refl

format_read : (format : Format) (header : Header) (steps : List Step) (at : List ℕ) → format_at at (data_in format header steps) ≡ Ok format
unfolding data_in format_at number_at
format_read One header steps at = refl
format_read Two header steps at = refl
format_read Three header steps at = refl

steps_found : (format : Format) (header : Header) (steps : List Step) (at : List ℕ) → Fits format header → IsWritable header steps → list_at
    (step_at format (names_of header)) at (codes "steps") (data_in format header steps) ≡ Ok steps
unfolding data_in list_at array_at
steps_found One header steps at fits h = steps_read One header _ 0 steps fits h.limits h.each_step
steps_found Two header steps at fits h = steps_read Two header _ 0 steps fits h.limits h.each_step
steps_found Three header steps at fits h = steps_read Three header _ 0 steps fits h.limits h.each_step

-- by whether a tick has one unit of time
third_data_read : (header : Header) (steps : List Step) (at : List ℕ) → Fits Three header → header_flaw header ≡ None → IsWritable header steps → session_at at
    (data_in Three header steps) ≡ Ok (Three, Ok header, steps)
unfolding data_in session_at
third_data_read header steps at fits valid h = from (header.config.units == 1) refl
  where
    from : (b : Bool) → (header.config.units == 1) ≡ b → session_at at (data_in Three header steps) ≡ Ok (Three, Ok header, steps)
    from true one = rw (format_read Three header steps at, header_read Three header steps at fits valid h, steps_found Three header steps at fits h, one) refl
    from false more = rw (format_read Three header steps at, header_read Three header steps at fits valid h, steps_found Three header steps at fits h, more) refl

data_read : (format : Format) (header : Header) (steps : List Step) (at : List ℕ) → Fits format header → header_flaw header ≡ None → IsWritable header steps →
    session_at at (data_in format header steps) ≡ Ok (format, Ok header, steps)
unfolding data_in session_at
data_read One header steps at fits valid h = rw (
  format_read One header steps at,
  header_read One header steps at fits valid h,
  steps_found One header steps
      at fits h,
) refl
data_read Two header steps at fits valid h = rw (
  format_read Two header steps at,
  header_read Two header steps at fits valid h,
  steps_found Two header steps
      at fits h,
) refl
data_read Three header steps at fits valid h = third_data_read header steps at fits valid h

all_of : (config : Config) (tasks : List TaskArgs) → list_all (has_valid_args config) tasks ≡ true → AllByRecursion (λ task. IsTrue (is_name task.name)) tasks →
    AllByRecursion (λ task. task.mask < 2 ^ 32) tasks → AllByRecursion (IsTask config) tasks
all_of config [] fit named masks = tt
all_of config (task ∷ tasks) fit named masks =
    let both = and_parts (has_valid_args config task) (list_all (has_valid_args config) tasks) fit in
    (record { fits = both.0; named = named.0; mask = masks.0 }, all_of config tasks both.1 named.1 masks.1)

pub writable : (header : Header) (steps : List Step) → IsSession (record { header = header; steps = steps }) → IsWritable header steps
writable header steps h =
    let within = checked_header header h.header.passes in
    let names = recursion_from_All (λ task. IsTrue (is_name task.name)) header.tasks h.header.names in
    let masks = recursion_from_All (λ task. task.mask < 2 ^ 32) header.tasks h.header.masks in
    record {
      limits = within;
      tick = h.header.tick;
      units = checked_time header h.header.passes;
      each_task = all_of header.config header.tasks within.args names masks;
      names = λ task high low. utf8_name (task_name header task) (h.header.names (task - header.config.cores) _ (omega arith));
      each_queue = queue_words header h.header.passes;
      each_step = recursion_from_All (λ made. StepFits header made × IsStepOfWords made) steps
          (λ k d short. (in_place header _ h.header.passes (h.steps k d short).passes, (h.steps k d short).words));
    }

-- items of which none is at fault pass their checks
none_at_fault : {A : Type 0} (flaw_of : A → Option StepFlaw) (names : List (List ℕ)) (at : List ℕ) (array : Option Data) (index : ℕ) (items : List A) →
    AllByRecursion (λ item. flaw_of item ≡ None) items → items_accepted flaw_of names at array index items ≡ Ok tt
none_at_fault flaw_of names at array index [] each = refl
none_at_fault flaw_of names at array index (item ∷ items) each = rw (each.0, none_at_fault flaw_of names at array (suc index) items each.1) refl

all_accepted : {A : Type 0} (flaw_of : A → Option StepFlaw) (names : List (List ℕ)) (at : List ℕ) (array : Option Data) (items : List A) → All
    (λ item. flaw_of item ≡ None) items → items_accepted flaw_of names at array 0 items ≡ Ok tt
all_accepted flaw_of names at array items pass = none_at_fault flaw_of names at array 0 items (recursion_from_All (λ item. flaw_of item ≡ None) items pass)

accepted_read : (header : Header) (d : Data) (steps : List Step) → steps_accepted header [] d steps ≡ Ok tt → session_accepted [] d (Ok header) steps ≡ Ok
    (header, steps)
unfolding session_accepted
accepted_read header d steps passing = rw passing refl

steps_pass : (header : Header) (d : Data) (steps : List Step) → All (λ made. step_flaw (settings_of header) made ≡ None) steps → steps_accepted header [] d
    steps ≡ Ok tt
unfolding steps_accepted
steps_pass header d steps pass = all_accepted (step_flaw (settings_of header)) (user_names header) (codes "steps") (get (codes "steps") d) steps pass

pub written_reads_back : WrittenReadsBack
unfolding session
written_reads_back header steps h =
    let writes = writable header steps h in
    let format = format_for header in
    let d = session_data header steps in
    let passing = steps_pass header d steps (λ k d short. step_unflawed (settings_of header) _ (h.steps k d short).passes) in
    let valid = checked_flaw header h.header.passes in
    rw (
      document-compact_text d (session_plain header steps writes) (session_depth header steps),
      data_read format header steps [] (fits_for header) valid
          writes,
    )
    (accepted_read header d steps passing)
