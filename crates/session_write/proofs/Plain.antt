-- The value of a session is plain, and nests three deep.
use Rattle.std.proofs.Common.{◌≡◌, ℕ, Bool, ◌+◌, ◌^◌, ◌<◌, ◌≤◌, ◌==◌, true, false, ◌&&◌, List, [], ◌∷◌, length, map, refl, arith, IsUtf8}
use Rattle.std.specs.Prelude.{IsTrue, unwrap_or}
use Rattle.std.specs.List.{list_all, AllByRecursion}
use Rattle.std.proofs.lemmas.Bool.{and_parts, and_from}
use Rattle.std.proofs.lemmas.Bool.Decides.{nat_tests}
use Rattle.json.proofs.Printed.Utf8.{are_ascii, IsUtf8-are_ascii}
use Rattle.serde_json.specs.Data.{Data, depth, items_depth}
use Rattle.serde_json.specs.Read.{max_depth}
use Rattle.serde_json.specs.View.{items_of}
use Rattle.bench_types.specs.declared.header.Config.{Config}
use Rattle.bench_types.specs.declared.header.QueueArgs.{QueueArgs}
use Rattle.bench_types.specs.declared.header.TaskArgs.{TaskArgs}
use Rattle.bench_types.specs.declared.header.Header.{Header}
use Rattle.bench_types.specs.declared.note.NotifyAction.{NotifyAction}
use Rattle.bench_types.specs.declared.note.NotifyAction.TheVariants as action
use Rattle.bench_types.specs.declared.step.Step.{Step}
use Rattle.bench_types.specs.declared.step.Step.TheVariants as step
use Rattle.bench_types.specs.declared.step.Call.{Call}
use Rattle.bench_types.specs.declared.step.Call.TheVariants as call
use Rattle.bench_types.specs.declared.step.Direction.{Direction}
use Rattle.bench_types.specs.declared.step.Direction.TheVariants.{Send, Receive}
use Rattle.bench_types.specs.Name.{is_name, is_name_byte, is_within}
use Rattle.bench_types.specs.Step.{IsNotifyActionOfWord, IsOfWords, IsStepOfWords}
use Rattle.bench_types.specs.Limits.{max_name, max_priorities}
use Rattle.session_text.specs.declared.format.Format.{Format}
use Rattle.session_text.specs.declared.format.Format.TheVariants.{One, Two, Three}
use Rattle.session_write.specs.Written.{queue_data, task_data, task_name, bare_call, call_for, notify_data, interrupt_data, wait_data, take_data, state_clear_data}
use Rattle.session_write.specs.Written.{value_clear_data, transfer_data, queue_interrupt_data, resume_interrupt_data, third_data, queues_data, tasks_data, steps_data, call_data, step_data, format_for, data_in, session_data}
use Rattle.bench_types.proofs.Passes.{has_valid_args, IsQueueOfWords, IsWithinLimits}
use Rattle.session_write.proofs.Limits.{StepFits, HasTarget, IsQueueThere, AreUnits}
use Rattle.session_write.proofs.ReadBack.{IsPlain, ArePlain}

ascii_bytes : (bytes : List ℕ) → list_all is_name_byte bytes ≡ true → are_ascii bytes ≡ true
ascii_bytes [] all = refl
ascii_bytes (byte ∷ bytes) all =
    let both = and_parts (is_name_byte byte) (list_all is_name_byte bytes) all in
    and_from _ _ (grind (arith, nat_tests, both.0)) (ascii_bytes bytes both.1)

pub utf8_name : (name : List ℕ) → is_name name ≡ true → IsUtf8 name
utf8_name name named =
    let sized = is_within 1 max_name (length name) in
    let bytes = list_all is_name_byte name in
    IsUtf8-are_ascii name (ascii_bytes name (and_parts sized bytes (and_parts (sized && bytes) _ named).0).1)

pub task_plain : (task : TaskArgs) → is_name task.name ≡ true → task.priority < 2 ^ 64 → task.mask < 2 ^ 64 → IsPlain (task_data task)
task_plain task named priority mask = (refl, refl, mask, (refl, refl, utf8_name task.name named, (refl, refl, priority, tt)))

-- the names of tasks are UTF-8
abbrev pub AreNames : Header → Type 0
AreNames header = (task : ℕ) → task < header.config.cores + length header.tasks → header.config.cores ≤ task → IsUtf8 (task_name header task)

bare_plain : (by : List ℕ) (core : ℕ) (word : List ℕ) → IsUtf8 by → core < 2 ^ 64 → IsUtf8 word → IsPlain (bare_call by core word)
bare_plain by core word utf8 small word_utf8 = (refl, refl, utf8, (refl, refl, small, (refl, refl, word_utf8, tt)))

for_plain : (by : List ℕ) (core : ℕ) (word to : List ℕ) → IsUtf8 by → core < 2 ^ 64 → IsUtf8 word → IsUtf8 to → IsPlain (call_for by core word to)
for_plain by core word to utf8 small word_utf8 to_utf8 = (refl, refl, utf8, (refl, refl, small, (refl, refl, word_utf8, (refl, refl, to_utf8, tt))))

notify_plain : (format : Format) (by : List ℕ) (core : ℕ) (to : List ℕ) (what : NotifyAction) (index : ℕ) → IsUtf8 by → core < 2 ^ 64 → IsUtf8 to → index < 2 ^
    64 → IsNotifyActionOfWord what → IsPlain (notify_data format by core to what index)
notify_plain One by core to action.Nothing index utf8 small to_utf8 few word =
    (refl, refl, IsUtf8-are_ascii _ refl, (refl, refl, utf8, (refl, refl, small, (refl, refl, IsUtf8-are_ascii _ refl, (refl, refl, to_utf8, tt)))))
notify_plain One by core to (action.SetBits bits) index utf8 small to_utf8 few word = (
  refl,
  refl,
  IsUtf8-are_ascii _ refl,
  (
    refl,
    refl,
    utf8,
    (refl, refl, small, (refl, refl, IsUtf8-are_ascii _ refl, (refl, refl, to_utf8, (refl, refl, omega arith, tt)))),
  ),
)
notify_plain One by core to action.Increment index utf8 small to_utf8 few word =
    (refl, refl, IsUtf8-are_ascii _ refl, (refl, refl, utf8, (refl, refl, small, (refl, refl, IsUtf8-are_ascii _ refl, (refl, refl, to_utf8, tt)))))
notify_plain One by core to (action.Set value) index utf8 small to_utf8 few word = (
  refl,
  refl,
  IsUtf8-are_ascii _ refl,
  (
    refl,
    refl,
    utf8,
    (refl, refl, small, (refl, refl, IsUtf8-are_ascii _ refl, (refl, refl, to_utf8, (refl, refl, omega arith, tt)))),
  ),
)
notify_plain One by core to (action.SetNew value) index utf8 small to_utf8 few word = (
  refl,
  refl,
  IsUtf8-are_ascii _ refl,
  (
    refl,
    refl,
    utf8,
    (refl, refl, small, (refl, refl, IsUtf8-are_ascii _ refl, (refl, refl, to_utf8, (refl, refl, omega arith, tt)))),
  ),
)
notify_plain later by core to action.Nothing index utf8 small to_utf8 few word = (
  refl,
  refl,
  IsUtf8-are_ascii _ refl,
  (
    refl,
    refl,
    utf8,
    (refl, refl, small, (refl, refl, IsUtf8-are_ascii _ refl, (refl, refl, few, (refl, refl, to_utf8, tt)))),
  ),
)
notify_plain later by core to (action.SetBits bits) index utf8 small to_utf8 few word = (
  refl,
  refl,
  IsUtf8-are_ascii _ refl,
  (
    refl,
    refl,
    utf8,
    (refl, refl, small, (refl, refl, IsUtf8-are_ascii _ refl, (refl, refl, few, (refl, refl, to_utf8, (refl, refl, omega arith, tt))))),
  ),
)
notify_plain later by core to action.Increment index utf8 small to_utf8 few word = (
  refl,
  refl,
  IsUtf8-are_ascii _ refl,
  (
    refl,
    refl,
    utf8,
    (refl, refl, small, (refl, refl, IsUtf8-are_ascii _ refl, (refl, refl, few, (refl, refl, to_utf8, tt)))),
  ),
)
notify_plain later by core to (action.Set value) index utf8 small to_utf8 few word = (
  refl,
  refl,
  IsUtf8-are_ascii _ refl,
  (
    refl,
    refl,
    utf8,
    (refl, refl, small, (refl, refl, IsUtf8-are_ascii _ refl, (refl, refl, few, (refl, refl, to_utf8, (refl, refl, omega arith, tt))))),
  ),
)
notify_plain later by core to (action.SetNew value) index utf8 small to_utf8 few word = (
  refl,
  refl,
  IsUtf8-are_ascii _ refl,
  (
    refl,
    refl,
    utf8,
    (refl, refl, small, (refl, refl, IsUtf8-are_ascii _ refl, (refl, refl, few, (refl, refl, to_utf8, (refl, refl, omega arith, tt))))),
  ),
)

interrupt_plain : (format : Format) (core : ℕ) (to : List ℕ) (what : NotifyAction) (index : ℕ) → core < 2 ^ 64 → IsUtf8 to → index < 2 ^ 64 →
    IsNotifyActionOfWord what → IsPlain (interrupt_data format core to what index)
interrupt_plain One core to action.Nothing index small to_utf8 few word =
    (refl, refl, IsUtf8-are_ascii _ refl, (refl, refl, small, (refl, refl, IsUtf8-are_ascii _ refl, (refl, refl, to_utf8, tt))))
interrupt_plain One core to (action.SetBits bits) index small to_utf8 few word =
    (refl, refl, IsUtf8-are_ascii _ refl, (refl, refl, small, (refl, refl, IsUtf8-are_ascii _ refl, (refl, refl, to_utf8, (refl, refl, omega arith, tt)))))
interrupt_plain One core to action.Increment index small to_utf8 few word =
    (refl, refl, IsUtf8-are_ascii _ refl, (refl, refl, small, (refl, refl, IsUtf8-are_ascii _ refl, (refl, refl, to_utf8, tt))))
interrupt_plain One core to (action.Set value) index small to_utf8 few word =
    (refl, refl, IsUtf8-are_ascii _ refl, (refl, refl, small, (refl, refl, IsUtf8-are_ascii _ refl, (refl, refl, to_utf8, (refl, refl, omega arith, tt)))))
interrupt_plain One core to (action.SetNew value) index small to_utf8 few word =
    (refl, refl, IsUtf8-are_ascii _ refl, (refl, refl, small, (refl, refl, IsUtf8-are_ascii _ refl, (refl, refl, to_utf8, (refl, refl, omega arith, tt)))))
interrupt_plain later core to action.Nothing index small to_utf8 few word =
    (refl, refl, IsUtf8-are_ascii _ refl, (refl, refl, small, (refl, refl, IsUtf8-are_ascii _ refl, (refl, refl, few, (refl, refl, to_utf8, tt)))))
interrupt_plain later core to (action.SetBits bits) index small to_utf8 few word = (
  refl,
  refl,
  IsUtf8-are_ascii _ refl,
  (
    refl,
    refl,
    small,
    (refl, refl, IsUtf8-are_ascii _ refl, (refl, refl, few, (refl, refl, to_utf8, (refl, refl, omega arith, tt)))),
  ),
)
interrupt_plain later core to action.Increment index small to_utf8 few word =
    (refl, refl, IsUtf8-are_ascii _ refl, (refl, refl, small, (refl, refl, IsUtf8-are_ascii _ refl, (refl, refl, few, (refl, refl, to_utf8, tt)))))
interrupt_plain later core to (action.Set value) index small to_utf8 few word = (
  refl,
  refl,
  IsUtf8-are_ascii _ refl,
  (
    refl,
    refl,
    small,
    (refl, refl, IsUtf8-are_ascii _ refl, (refl, refl, few, (refl, refl, to_utf8, (refl, refl, omega arith, tt)))),
  ),
)
interrupt_plain later core to (action.SetNew value) index small to_utf8 few word = (
  refl,
  refl,
  IsUtf8-are_ascii _ refl,
  (
    refl,
    refl,
    small,
    (refl, refl, IsUtf8-are_ascii _ refl, (refl, refl, few, (refl, refl, to_utf8, (refl, refl, omega arith, tt)))),
  ),
)

wait_plain : (format : Format) (by : List ℕ) (core entry exit ticks index : ℕ) → IsUtf8 by → core < 2 ^ 64 → index < 2 ^ 64 → entry < 2 ^ 32 → exit < 2 ^ 32 →
    ticks < 2 ^ 32 → IsPlain (wait_data format by core entry exit ticks index)
wait_plain One by core entry exit ticks index utf8 small few entry_word exit_word ticks_word = (
  refl,
  refl,
  utf8,
  (
    refl,
    refl,
    small,
    (
      refl,
      refl,
      IsUtf8-are_ascii _ refl,
      (refl, refl, omega (arith, entry_word), (refl, refl, omega (arith, exit_word), (refl, refl, omega (arith, ticks_word), tt))),
    ),
  ),
)
wait_plain later by core entry exit ticks index utf8 small few entry_word exit_word ticks_word = (
  refl,
  refl,
  utf8,
  (
    refl,
    refl,
    small,
    (
      refl,
      refl,
      IsUtf8-are_ascii _ refl,
      (refl, refl, omega (arith, entry_word), (refl, refl, omega (arith, exit_word), (refl, refl, few, (refl, refl, omega (arith, ticks_word), tt)))),
    ),
  ),
)

take_plain : (format : Format) (by : List ℕ) (core : ℕ) (clear : Bool) (ticks index : ℕ) → IsUtf8 by → core < 2 ^ 64 → index < 2 ^ 64 → ticks < 2 ^ 32 → IsPlain
    (take_data format by core clear ticks index)
take_plain One by core clear ticks index utf8 small few word = (
  refl,
  refl,
  utf8,
  (refl, refl, tt, (refl, refl, small, (refl, refl, IsUtf8-are_ascii _ refl, (refl, refl, omega (arith, word), tt)))),
)
take_plain later by core clear ticks index utf8 small few word = (
  refl,
  refl,
  utf8,
  (refl, refl, tt, (refl, refl, small, (refl, refl, IsUtf8-are_ascii _ refl, (refl, refl, few, (refl, refl, omega (arith, word), tt))))),
)

state_clear_plain : (format : Format) (by : List ℕ) (core : ℕ) (to : List ℕ) (index : ℕ) → IsUtf8 by → core < 2 ^ 64 → IsUtf8 to → index < 2 ^ 64 → IsPlain
    (state_clear_data format by core to index)
state_clear_plain One by core to index utf8 small to_utf8 few = (
  refl,
  refl,
  utf8,
  (refl, refl, small, (refl, refl, IsUtf8-are_ascii _ refl, (refl, refl, to_utf8, tt))),
)
state_clear_plain later by core to index utf8 small to_utf8 few = (
  refl,
  refl,
  utf8,
  (refl, refl, small, (refl, refl, IsUtf8-are_ascii _ refl, (refl, refl, few, (refl, refl, to_utf8, tt)))),
)

value_clear_plain : (format : Format) (by : List ℕ) (core : ℕ) (to : List ℕ) (bits index : ℕ) → IsUtf8 by → core < 2 ^ 64 → IsUtf8 to → index < 2 ^ 64 → bits <
    2 ^ 32 → IsPlain (value_clear_data format by core to bits index)
value_clear_plain One by core to bits index utf8 small to_utf8 few word =
    (refl, refl, omega (arith, word), (refl, refl, utf8, (refl, refl, small, (refl, refl, IsUtf8-are_ascii _ refl, (refl, refl, to_utf8, tt)))))
value_clear_plain later by core to bits index utf8 small to_utf8 few word = (
  refl,
  refl,
  omega (arith, word),
  (
    refl,
    refl,
    utf8,
    (refl, refl, small, (refl, refl, IsUtf8-are_ascii _ refl, (refl, refl, few, (refl, refl, to_utf8, tt)))),
  ),
)

transfer_plain : (header : Header) (by : List ℕ) (core : ℕ) (word : List ℕ) (queue ticks : ℕ) → IsQueueThere header queue → IsUtf8 by → core < 2 ^ 64 →
    IsUtf8 word → ticks < 2 ^ 32 → IsPlain (transfer_data by core word queue ticks)
transfer_plain header by core word queue ticks there utf8 small word_utf8 ticks_word =
    (refl, refl, utf8, (refl, refl, small, (refl, refl, word_utf8, (refl, refl, omega (arith, there.few), (refl, refl, omega (arith, ticks_word), tt)))))

queue_interrupt_plain : (header : Header) (core queue : ℕ) (direction : Direction) → IsQueueThere header queue → core < 2 ^ 64 → IsPlain
    (queue_interrupt_data core queue direction)
queue_interrupt_plain header core queue Send there small = (refl, refl, small, (refl, refl, IsUtf8-are_ascii _ refl, (refl, refl, omega (arith, there.few), tt)))
queue_interrupt_plain header core queue Receive there small =
    (refl, refl, small, (refl, refl, IsUtf8-are_ascii _ refl, (refl, refl, omega (arith, there.few), tt)))

resume_interrupt_plain : (core : ℕ) (to : List ℕ) → core < 2 ^ 64 → IsUtf8 to → IsPlain (resume_interrupt_data core to)
resume_interrupt_plain core to small utf8 = (refl, refl, small, (refl, refl, IsUtf8-are_ascii _ refl, (refl, refl, utf8, tt)))

-- an index is a small number
few_index : (header : Header) (index : ℕ) → IsWithinLimits header → index < header.config.notes → index < 2 ^ 64
few_index header index h there = omega (arith, h.few_notes, there)

pub call_plain : (format : Format) (header : Header) (by : List ℕ) (core : ℕ) (made : Call) → IsWithinLimits header → AreNames header → HasTarget header made →
    IsUtf8 by → core < 2 ^ 64 → IsOfWords made → IsPlain (call_data format header by core made)
call_plain format header by core call.Yield h names target utf8 small words = bare_plain by core _ utf8 small (IsUtf8-are_ascii _ refl)
call_plain format header by core (call.Delay ticks) h names target utf8 small words =
    (refl, refl, utf8, (refl, refl, small, (refl, refl, IsUtf8-are_ascii _ refl, (refl, refl, omega arith, tt))))
call_plain format header by core (call.DelayUntil prev inc) h names target utf8 small words = (
  refl,
  refl,
  utf8,
  (
    refl,
    refl,
    small,
    (
      refl,
      refl,
      IsUtf8-are_ascii _ refl,
      (refl, refl, omega (arith, words.1), (refl, refl, omega (arith, words.0), tt)),
    ),
  ),
)
call_plain format header by core (call.PrioritySet task priority) h names target utf8 small words =
    (refl, refl, utf8, (refl, refl, small, (refl, refl, IsUtf8-are_ascii _ refl, (refl, refl, omega arith, (refl, refl, names task target.1 target.0, tt)))))
call_plain format header by core (call.AffinitySet task mask) h names target utf8 small words =
    (refl, refl, utf8, (refl, refl, small, (refl, refl, IsUtf8-are_ascii _ refl, (refl, refl, omega arith, (refl, refl, names task target.1 target.0, tt)))))
call_plain format header by core (call.PreemptOff task) h names target utf8 small words = for_plain by core _ _ utf8 small (IsUtf8-are_ascii _ refl)
    (names task target.1 target.0)
call_plain format header by core (call.PreemptOn task) h names target utf8 small words = for_plain by core _ _ utf8 small (IsUtf8-are_ascii _ refl)
    (names task target.1 target.0)
call_plain format header by core (call.Notify note) h names target utf8 small words = notify_plain format by core _ note.action note.index utf8 small
    (names note.task target.owner.1 target.owner.0) (few_index header note.index h target.index_there) words
call_plain format header by core (call.NotifyWait entry exit ticks index) h names target utf8 small words = wait_plain format by core entry exit ticks index
    utf8 small (few_index header index h target) words.0 words.1 words.2
call_plain format header by core (call.NotifyTake clear ticks index) h names target utf8 small words = take_plain format by core clear ticks index utf8 small
    (few_index header index h target) words
call_plain format header by core (call.StateClear task index) h names target utf8 small words = state_clear_plain format by core _ index utf8 small
    (names task target.owner.1 target.owner.0) (few_index header index h target.index_there)
call_plain format header by core (call.ValueClear task bits index) h names target utf8 small words = value_clear_plain format by core _ bits index utf8 small
    (names task target.owner.1 target.owner.0) (few_index header index h target.index_there) words
call_plain format header by core (call.MutexTake mutex ticks) h names target utf8 small words =
    (refl, refl, utf8, (refl, refl, small, (refl, refl, IsUtf8-are_ascii _ refl, (refl, refl, omega (arith, h.few_mutexes), (refl, refl, omega arith, tt)))))
call_plain format header by core (call.MutexGive mutex) h names target utf8 small words =
    (refl, refl, utf8, (refl, refl, small, (refl, refl, IsUtf8-are_ascii _ refl, (refl, refl, omega (arith, h.few_mutexes), tt))))
call_plain format header by core (call.QueueSend queue ticks) h names target utf8 small words = transfer_plain header by core _ queue ticks target utf8 small
    (IsUtf8-are_ascii _ refl) words
call_plain format header by core (call.QueueReceive queue ticks) h names target utf8 small words = transfer_plain header by core _ queue ticks target utf8
    small (IsUtf8-are_ascii _ refl) words
call_plain format header by core (call.Suspend task) h names target utf8 small words = for_plain by core _ _ utf8 small (IsUtf8-are_ascii _ refl)
    (names task target.owner.1 target.owner.0)
call_plain format header by core (call.Resume task) h names target utf8 small words = for_plain by core _ _ utf8 small (IsUtf8-are_ascii _ refl)
    (names task target.owner.1 target.owner.0)
call_plain format header by core call.Finish h names target utf8 small words = bare_plain by core _ utf8 small (IsUtf8-are_ascii _ refl)
call_plain format header by core call.HoldOpen h names target utf8 small words = bare_plain by core _ utf8 small (IsUtf8-are_ascii _ refl)
call_plain format header by core call.HoldClose h names target utf8 small words = bare_plain by core _ utf8 small (IsUtf8-are_ascii _ refl)

step_plain : (format : Format) (header : Header) (made : Step) → IsWithinLimits header → AreNames header → StepFits header made → IsStepOfWords made → IsPlain
    (step_data format header made)
step_plain format header step.Tick h names place words = (refl, refl, IsUtf8-are_ascii _ refl, tt)
step_plain format header (step.Switch core) h names place words = (refl, refl, omega (arith, h.few_cores), (refl, refl, IsUtf8-are_ascii _ refl, tt))
step_plain format header (step.Call core task made) h names place words = call_plain format header (task_name header task) core made h names place.target
    (names task place.caller.1 place.caller.0) (omega (arith, h.few_cores, place.core_there)) words
step_plain format header (step.Interrupt core note) h names place words = interrupt_plain format core _ note.action note.index
    (omega (arith, h.few_cores, place.core_there)) (names note.task place.target.owner.1 place.target.owner.0)
    (few_index header note.index h place.target.index_there) words
step_plain format header (step.QueueInterrupt core queue direction) h names place words = queue_interrupt_plain header core queue direction place.target
    (omega (arith, h.few_cores, place.core_there))
step_plain format header (step.ResumeInterrupt core task) h names place words = resume_interrupt_plain core _ (omega (arith, h.few_cores, place.core_there))
    (names task place.target.owner.1 place.target.owner.0)
step_plain format header (step.Pass units) h names place words = (refl, refl, IsUtf8-are_ascii _ refl, (refl, refl, omega (arith, words), tt))

steps_plain : (format : Format) (header : Header) (steps : List Step) → IsWithinLimits header → AreNames header → AllByRecursion
    (λ made. StepFits header made × IsStepOfWords made) steps → ArePlain (items_of (map (step_data format header) steps))
steps_plain format header [] h names each = tt
steps_plain format header (made ∷ steps) h names each = (
  step_plain format header made h names each.0.0 each.0.1,
  steps_plain format header steps h names
      each.1,
)

-- a task of a header with these settings
pub record IsTask (config : Config) (task : TaskArgs) : Type 0 where
  pub fits : has_valid_args config task ≡ true
  pub named : IsTrue (is_name task.name)
  pub mask : task.mask < 2 ^ 32

tasks_plain : (config : Config) (tasks : List TaskArgs) → config.priorities ≤ max_priorities → AllByRecursion (IsTask config) tasks → ArePlain
    (items_of (map task_data tasks))
tasks_plain config [] few each = tt
tasks_plain config (task ∷ tasks) few each =
    let priority : task.priority < config.priorities = grind (arith, nat_tests, each.0.fits) in
    (task_plain task each.0.named (omega arith) (omega (arith, each.0.mask)), tasks_plain config tasks few each.1)

queues_plain : (queues : List QueueArgs) → AllByRecursion IsQueueOfWords queues → ArePlain (items_of (map queue_data queues))
queues_plain [] each = tt
queues_plain (queue ∷ queues) each =
    ((refl, refl, omega (arith, each.0.most), (refl, refl, omega (arith, each.0.messages), tt)), queues_plain queues each.1)

-- what the proofs ask of a session
pub record IsWritable (header : Header) (steps : List Step) : Type 0 where
  pub limits : IsWithinLimits header
  pub tick : header.config.tick < 2 ^ 32
  pub units : AreUnits header
  pub each_task : AllByRecursion (IsTask header.config) header.tasks
  pub names : AreNames header
  pub each_queue : AllByRecursion IsQueueOfWords (unwrap_or header.queues [])
  pub each_step : AllByRecursion (λ made. StepFits header made × IsStepOfWords made) steps

-- a session of the third format, by whether a tick has one unit of time
third_plain : (header : Header) (steps : List Step) → IsWritable header steps → IsPlain (third_data header.config (queues_data header.queues)
    (steps_data Three header steps) (tasks_data header.tasks))
third_plain header steps h = from (header.config.units == 1) refl
  where
    limits : IsWithinLimits header
    limits = h.limits

    from : (b : Bool) → (header.config.units == 1) ≡ b → IsPlain (third_data header.config (queues_data header.queues) (steps_data Three header steps)
        (tasks_data header.tasks))
    from true one = rw one (
      refl,
      refl,
      omega (arith, limits.few_cores),
      (
        refl,
        refl,
        omega arith,
        (
          refl,
          refl,
          omega (arith, limits.few_mutexes),
          (
            refl,
            refl,
            omega (arith, limits.few_notes),
            (
              refl,
              refl,
              omega (arith, limits.few_priorities),
              (
                refl,
                refl,
                queues_plain (unwrap_or header.queues []) h.each_queue,
                (
                  refl,
                  refl,
                  tt,
                  (
                    refl,
                    refl,
                    steps_plain Three header steps limits h.names h.each_step,
                    (refl, refl, tasks_plain header.config header.tasks limits.few_priorities h.each_task, (refl, refl, omega (arith, h.tick), tt)),
                  ),
                ),
              ),
            ),
          ),
        ),
      ),
    )
    from false more = rw more (
      refl,
      refl,
      omega (arith, limits.few_cores),
      (
        refl,
        refl,
        omega arith,
        (
          refl,
          refl,
          omega (arith, limits.few_mutexes),
          (
            refl,
            refl,
            omega (arith, limits.few_notes),
            (
              refl,
              refl,
              omega (arith, limits.few_priorities),
              (
                refl,
                refl,
                queues_plain (unwrap_or header.queues []) h.each_queue,
                (
                  refl,
                  refl,
                  tt,
                  (
                    refl,
                    refl,
                    steps_plain Three header steps limits h.names h.each_step,
                    (
                      refl,
                      refl,
                      tasks_plain header.config header.tasks limits.few_priorities h.each_task,
                      (refl, refl, omega (arith, h.tick), (refl, refl, omega (arith, h.units.few), tt)),
                    ),
                  ),
                ),
              ),
            ),
          ),
        ),
      ),
    )

data_plain : (format : Format) (header : Header) (steps : List Step) → IsWritable header steps → IsPlain (data_in format header steps)
unfolding data_in
data_plain One header steps h =
    let limits = h.limits in (
      refl,
      refl,
      omega (arith, limits.few_cores),
      (
        refl,
        refl,
        omega arith,
        (
          refl,
          refl,
          omega (arith, limits.few_mutexes),
          (
            refl,
            refl,
            omega (arith, limits.few_priorities),
            (
              refl,
              refl,
              tt,
              (
                refl,
                refl,
                steps_plain One header steps limits h.names h.each_step,
                (refl, refl, tasks_plain header.config header.tasks limits.few_priorities h.each_task, (refl, refl, omega (arith, h.tick), tt)),
              ),
            ),
          ),
        ),
      ),
    )
data_plain Two header steps h =
    let limits = h.limits in (
      refl,
      refl,
      omega (arith, limits.few_cores),
      (
        refl,
        refl,
        omega arith,
        (
          refl,
          refl,
          omega (arith, limits.few_mutexes),
          (
            refl,
            refl,
            omega (arith, limits.few_notes),
            (
              refl,
              refl,
              omega (arith, limits.few_priorities),
              (
                refl,
                refl,
                tt,
                (
                  refl,
                  refl,
                  steps_plain Two header steps limits h.names h.each_step,
                  (refl, refl, tasks_plain header.config header.tasks limits.few_priorities h.each_task, (refl, refl, omega (arith, h.tick), tt)),
                ),
              ),
            ),
          ),
        ),
      ),
    )
data_plain Three header steps h = third_plain header steps h

pub session_plain : (header : Header) (steps : List Step) → IsWritable header steps → IsPlain (session_data header steps)
session_plain header steps h = data_plain (format_for header) header steps h

items_within : {A : Type 0} (data_of : A → Data) (n : ℕ) → ((x : A) → depth (data_of x) ≤ n) → (xs : List A) → items_depth (items_of (map data_of xs)) ≤ n
items_within data_of n each [] = omega arith
items_within data_of n each (x ∷ xs) = omega (arith, each x, items_within data_of n each xs)

notify_depth : (format : Format) (by : List ℕ) (core : ℕ) (to : List ℕ) (what : NotifyAction) (index : ℕ) → depth (notify_data format by core to what index) ≤ 1
notify_depth One by core to action.Nothing index = omega arith
notify_depth One by core to (action.SetBits bits) index = omega arith
notify_depth One by core to action.Increment index = omega arith
notify_depth One by core to (action.Set value) index = omega arith
notify_depth One by core to (action.SetNew value) index = omega arith
notify_depth later by core to action.Nothing index = omega arith
notify_depth later by core to (action.SetBits bits) index = omega arith
notify_depth later by core to action.Increment index = omega arith
notify_depth later by core to (action.Set value) index = omega arith
notify_depth later by core to (action.SetNew value) index = omega arith

interrupt_depth : (format : Format) (core : ℕ) (to : List ℕ) (what : NotifyAction) (index : ℕ) → depth (interrupt_data format core to what index) ≤ 1
interrupt_depth One core to action.Nothing index = omega arith
interrupt_depth One core to (action.SetBits bits) index = omega arith
interrupt_depth One core to action.Increment index = omega arith
interrupt_depth One core to (action.Set value) index = omega arith
interrupt_depth One core to (action.SetNew value) index = omega arith
interrupt_depth later core to action.Nothing index = omega arith
interrupt_depth later core to (action.SetBits bits) index = omega arith
interrupt_depth later core to action.Increment index = omega arith
interrupt_depth later core to (action.Set value) index = omega arith
interrupt_depth later core to (action.SetNew value) index = omega arith

call_depth : (format : Format) (header : Header) (by : List ℕ) (core : ℕ) (made : Call) → depth (call_data format header by core made) ≤ 1
call_depth format header by core call.Yield = omega arith
call_depth format header by core (call.Delay ticks) = omega arith
call_depth format header by core (call.DelayUntil prev inc) = omega arith
call_depth format header by core (call.PrioritySet task priority) = omega arith
call_depth format header by core (call.AffinitySet task mask) = omega arith
call_depth format header by core (call.PreemptOff task) = omega arith
call_depth format header by core (call.PreemptOn task) = omega arith
call_depth format header by core (call.Notify note) = notify_depth format by core (task_name header note.task) note.action note.index
call_depth One header by core (call.NotifyWait entry exit ticks index) = omega arith
call_depth later header by core (call.NotifyWait entry exit ticks index) = omega arith
call_depth One header by core (call.NotifyTake clear ticks index) = omega arith
call_depth later header by core (call.NotifyTake clear ticks index) = omega arith
call_depth One header by core (call.StateClear task index) = omega arith
call_depth later header by core (call.StateClear task index) = omega arith
call_depth One header by core (call.ValueClear task bits index) = omega arith
call_depth later header by core (call.ValueClear task bits index) = omega arith
call_depth format header by core (call.MutexTake mutex ticks) = omega arith
call_depth format header by core (call.MutexGive mutex) = omega arith
call_depth format header by core (call.QueueSend queue ticks) = omega arith
call_depth format header by core (call.QueueReceive queue ticks) = omega arith
call_depth format header by core (call.Suspend task) = omega arith
call_depth format header by core (call.Resume task) = omega arith
call_depth format header by core call.Finish = omega arith
call_depth format header by core call.HoldOpen = omega arith
call_depth format header by core call.HoldClose = omega arith

step_depth : (format : Format) (header : Header) (made : Step) → depth (step_data format header made) ≤ 1
step_depth format header step.Tick = omega arith
step_depth format header (step.Switch core) = omega arith
step_depth format header (step.Call core task made) = call_depth format header (task_name header task) core made
step_depth format header (step.Interrupt core note) = interrupt_depth format core (task_name header note.task) note.action note.index
step_depth format header (step.QueueInterrupt core queue direction) = omega arith
step_depth format header (step.ResumeInterrupt core task) = omega arith
step_depth format header (step.Pass units) = omega arith

third_depth : (header : Header) (steps : List Step) → depth
    (third_data header.config (queues_data header.queues) (steps_data Three header steps) (tasks_data header.tasks)) ≤ max_depth
third_depth header steps = from (header.config.units == 1) refl
  where
    each_step : items_depth (items_of (map (step_data Three header) steps)) ≤ 1
    each_step = items_within (step_data Three header) 1 (step_depth Three header) steps

    each_task : items_depth (items_of (map task_data header.tasks)) ≤ 1
    each_task = items_within task_data 1 (λ task. omega arith) header.tasks

    each_queue : items_depth (items_of (map queue_data (unwrap_or header.queues []))) ≤ 1
    each_queue = items_within queue_data 1 (λ queue. omega arith) (unwrap_or header.queues [])

    from : (b : Bool) → (header.config.units == 1) ≡ b → depth
        (third_data header.config (queues_data header.queues) (steps_data Three header steps) (tasks_data header.tasks)) ≤ max_depth
    from true one = rw one (omega (arith, each_step, each_task, each_queue))
    from false more = rw more (omega (arith, each_step, each_task, each_queue))

data_depth : (format : Format) (header : Header) (steps : List Step) → depth (data_in format header steps) ≤ max_depth
unfolding data_in
data_depth One header steps =
    omega (arith, items_within (step_data One header) 1 (step_depth One header) steps, items_within task_data 1 (λ task. omega arith) header.tasks)
data_depth Two header steps =
    omega (arith, items_within (step_data Two header) 1 (step_depth Two header) steps, items_within task_data 1 (λ task. omega arith) header.tasks)
data_depth Three header steps = third_depth header steps

pub session_depth : (header : Header) (steps : List Step) → depth (session_data header steps) ≤ max_depth
session_depth header steps = data_depth (format_for header) header steps
