-- A reply in words: as the output of a replay writes it, and what it means.
use Rattle.std.specs.Prelude.{ℕ, List, [], ◌++◌, codes, decimal, is_some, Bool, if◌then◌else◌}
use Rattle.bench_types.specs.declared.header.Header.{Header}
use Rattle.bench_types.specs.declared.reply.Refusal.{Refusal}
use Rattle.bench_types.specs.declared.reply.Refusal.TheVariants.{Held, Displaced, SwitchDue, InCall, NotInCall, HoldBlock, NoHold, HoldDeep, NotHolder, NotDue}
use Rattle.bench_types.specs.declared.reply.Reply.{Reply}
use Rattle.bench_types.specs.declared.reply.Reply.TheVariants.{Done, Blocked, Flag, Value, Waited, Until, Isr, Refused}
use Rattle.bench_types.specs.declared.step.Call.{Call}
use Rattle.bench_types.specs.declared.step.Call.TheVariants.{Notify, StateClear, MutexTake, MutexGive, QueueSend, QueueReceive, Finish}
use Rattle.bench_types.specs.declared.step.Direction.TheVariants.{Send, Receive}
use Rattle.bench_types.specs.declared.step.Step.{Step}
use Rattle.bench_types.specs.declared.step.Step.TheVariants as steps
use Rattle.run_views.specs.declared.reply_words.Subject.{Subject}
use Rattle.run_views.specs.declared.reply_words.Subject.TheVariants.{TheKernel, TheCore, TheCaller, AnotherTask}
use Rattle.bench_types.specs.Codes.{refusal_code}
use Rattle.bench_types.specs.Header.{name_of}
use Rattle.bench_types.specs.Step.{core_of}

-- the task that makes a call; what is no call has none, and is refused for no task's sake
abbrev pub caller_of : Step → ℕ
caller_of (steps.Call core task call) = task
caller_of step = 0

-- of whom a refusal speaks
abbrev pub subject_of : Refusal → Subject
subject_of Held = TheKernel
subject_of Displaced = TheCaller
subject_of SwitchDue = TheCore
subject_of InCall = TheCaller
subject_of NotInCall = TheCaller
subject_of HoldBlock = TheCaller
subject_of NoHold = TheCore
subject_of HoldDeep = TheCore
subject_of NotHolder = AnotherTask
subject_of NotDue = TheCore

abbrev pub subject_text : Header → ℕ → ℕ → Subject → List ℕ
subject_text header core caller TheKernel = codes "the kernel"
subject_text header core caller TheCore = codes "core " ++ decimal core
subject_text header core caller TheCaller = name_of header caller
subject_text header core caller AnotherTask = codes "another task"

-- what is so of it
abbrev pub predicate : Refusal → List ℕ
predicate Held = codes " is held"
predicate Displaced = codes " is not the current task of the core"
predicate SwitchDue = codes " has to switch first"
predicate InCall = codes " has an unfinished call to finish first"
predicate NotInCall = codes " has no unfinished call"
predicate HoldBlock = codes " would wait while it holds the kernel"
predicate NoHold = codes " does not hold the kernel"
predicate HoldDeep = codes " holds the kernel too many times over"
predicate NotHolder = codes " holds the mutex"
predicate NotDue = codes " is not due to switch"

-- why the core's step, or the caller's on that core, was not made
unfoldable pub refusal_meaning : Header → ℕ → ℕ → Refusal → List ℕ
refusal_meaning header core caller why =
    subject_text header core caller (subject_of why) ++ predicate why

abbrev pub flag_text : Bool → List ℕ
flag_text flag = if flag then codes "true" else codes "false"

-- what a yes or no of a call that was finished means: of a mutex, where there is nothing else to
-- wait for
abbrev pub finish_meaning : Header → Bool → List ℕ
finish_meaning header flag =
    if is_some header.queues
    then (if flag then codes "the call succeeded" else codes "the call timed out")
    else (if flag then codes "the mutex was taken" else codes "the mutex was not taken in time")

-- what a call's yes or no means
abbrev pub flag_meaning : Header → Call → Bool → List ℕ
flag_meaning header (Notify note) flag =
    if flag then codes "the notification passed" else codes "the notification did not pass"
flag_meaning header (StateClear task index) flag =
    if flag then codes "a notification had come" else codes "no notification had come"
flag_meaning header (MutexTake mutex ticks) flag =
    if flag then codes "the mutex was taken" else codes "the mutex was not taken"
flag_meaning header (MutexGive mutex) flag =
    if flag then codes "the mutex was given" else codes "nobody held the mutex"
flag_meaning header (QueueSend queue ticks) flag =
    if flag then codes "the message was sent" else codes "the queue is full"
flag_meaning header (QueueReceive queue ticks) flag =
    if flag then codes "a message was received" else codes "the queue is empty"
flag_meaning header Finish flag = finish_meaning header flag
flag_meaning header call flag = if flag then codes "yes" else codes "no"

abbrev pub step_flag_meaning : Header → Step → Bool → List ℕ
step_flag_meaning header (steps.Call core task call) flag = flag_meaning header call flag
step_flag_meaning header step flag = if flag then codes "yes" else codes "no"

abbrev pub waited_meaning : Bool → List ℕ
waited_meaning ok =
    if ok then codes ": a notification had come" else codes ": no notification came in time"

abbrev pub until_meaning : Bool → List ℕ
until_meaning delayed =
    if delayed then codes ": the task waits until that tick count"
    else codes ": that tick count is not ahead"

abbrev pub pass_meaning : Step → Bool → List ℕ
pass_meaning (steps.QueueInterrupt core queue Send) pass =
    if pass then codes ": the message was sent" else codes ": the queue is full"
pass_meaning (steps.QueueInterrupt core queue Receive) pass =
    if pass then codes ": a message was received" else codes ": the queue is empty"
pass_meaning (steps.ResumeInterrupt core task) pass =
    if pass then codes ": the task was suspended" else codes ": the task was not suspended"
pass_meaning step pass =
    if pass then codes ": the notification passed" else codes ": the notification did not pass"

abbrev pub pend_meaning : Bool → List ℕ
pend_meaning pend = if pend then codes ", and the core has to switch" else []

-- a reply to the step
unfoldable pub reply_words : Header → Step → Reply → List ℕ
reply_words header step Done = codes "done: the step was made"
reply_words header step Blocked = codes "blocked: the call was made, and its task waits"
reply_words header step (Flag flag) = flag_text flag ++ codes ": " ++ step_flag_meaning header step flag
reply_words header step (Value value) =
    codes "value " ++ decimal value ++ codes ": the notification value before the call"
reply_words header step (Waited ok value) =
    codes "waited " ++ flag_text ok ++ codes " " ++ decimal value ++ waited_meaning ok
reply_words header step (Until delayed wake) =
    codes "until " ++ flag_text delayed ++ codes " " ++ decimal wake ++ until_meaning delayed
reply_words header step (Isr pass pend) =
    codes "isr " ++ flag_text pass ++ codes " " ++ flag_text pend ++ pass_meaning step pass
    ++ pend_meaning pend
reply_words header step (Refused why) =
    codes "refused " ++ refusal_code why ++ codes ": "
    ++ refusal_meaning header (core_of step) (caller_of step) why
