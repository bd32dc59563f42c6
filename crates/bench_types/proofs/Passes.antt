-- What checks that passed say.
use Rattle.std.proofs.Common.{◌≡◌, ℕ, zero, ◌^◌, sym, ◌<◌, ◌≤◌, ◌==◌, Bool, true, false, not, ◌&&◌, cond, ltb, leb, List, [], ◌∷◌, length, Option, Some, None}
use Rattle.std.proofs.Common.{Result, Ok, Err, refl, ap, subst, arith}
use Rattle.std.specs.Prelude.{All, IfNone, is_none, option_map, unwrap_or}
use Rattle.std.specs.List.{list_all, AllByRecursion}
use Rattle.std.specs.Option.{option_or}
use Rattle.std.proofs.lemmas.Bool.{and_parts}
use Rattle.std.proofs.lemmas.List.Sums.{AllPass-from_list_all}
use Rattle.std.proofs.lemmas.Bool.Decides.{nat_tests}
use Rattle.bench_types.specs.declared.fault.Fault.{Fault}
use Rattle.bench_types.specs.declared.fault.Fault.TheVariants.{BadHeader}
use Rattle.bench_types.specs.declared.flaw.HeaderFlaw.{HeaderFlaw}
use Rattle.bench_types.specs.declared.flaw.HeaderFlaw.TheVariants.{Cores, Priorities, Mutexes, Notes, Queues, QueueLength, QueueMessages, Units, TaskCount, NoName, Priority, Mask, SharedName}
use Rattle.bench_types.specs.declared.header.Config.{Config}
use Rattle.bench_types.specs.declared.header.Header.{Header}
use Rattle.bench_types.specs.declared.header.QueueArgs.{QueueArgs}
use Rattle.bench_types.specs.declared.header.TaskArgs.{TaskArgs}
use Rattle.bench_types.specs.declared.kernel_data.Settings.{Settings}
use Rattle.bench_types.specs.declared.note.Note.{Note}
use Rattle.bench_types.specs.Flaw.{args_flaw, config_flaw, count_of_name, header_flaw, length_flaw, limits_flaw, location_of_length, location_of_messages, mask_flaw, messages_flaw, name_flaw, most_units, numbers_flaw, queue_list_flaw, queues_flaw, units_flaw, location_of_mask}
use Rattle.bench_types.specs.Flaw.{location_of_no_name, location_of_priority, location_of_shared_name, priority_flaw, shared_flaw}
use Rattle.bench_types.specs.Header.{header_check, is_header, has_valid_numbers, IsCheckedHeader}
use Rattle.bench_types.specs.Limits.{min_cores, max_cores, max_priorities, max_tasks, max_messages, max_mutexes, max_notes, max_queues}
use Rattle.bench_types.specs.Mask.{cores_of_mask}
use Rattle.bench_types.specs.Name.{is_name, is_within}
use Rattle.bench_types.specs.Step.{core_check, index_check, note_check, task_check, mutex_check, queue_check, queue_total, ◌>>◌}
use Rattle.bench_types.proofs.Positions.{passes_none, none_found, none_there}
use Rattle.bench_types.proofs.Repeats.{repeats_name, once_single, single_once}

-- two checks, one after the other
pub both_pass : {Why : Type 0} (one other : Result (Unit {0}) Why) → (one >> other) ≡ Ok tt → (one ≡ Ok tt) × (other ≡ Ok tt)
both_pass (Ok done) other passes = (refl, passes)
both_pass (Err why) other passes = absurd (cc)

pub checked_core : (settings : Settings) (core : ℕ) → core_check settings core ≡ Ok tt → core < settings.cores
checked_core settings core passes = at (ltb core settings.cores) refl
  where
    at : (b : Bool) → ltb core settings.cores ≡ b → core < settings.cores
    at true below = grind (arith, nat_tests, below)
    at false above = absurd (cc (passes, above))

-- a user task
pub checked_task : (settings : Settings) (task : ℕ) → task_check settings task ≡ Ok tt → (settings.cores ≤ task) × (task < settings.tasks)
checked_task settings task passes = at (leb settings.cores task) refl (ltb task settings.tasks) refl
  where
    at : (a : Bool) → leb settings.cores task ≡ a → (b : Bool) → ltb task settings.tasks ≡ b → (settings.cores ≤ task) × (task < settings.tasks)
    at true user true below = (grind (arith, nat_tests, user), grind (arith, nat_tests, below))
    at true user false above = absurd (cc (passes, user, above))
    at false idle true below = absurd (cc (passes, idle))
    at false idle false above = absurd (cc (passes, idle))

pub checked_mutex : (settings : Settings) (mutex : ℕ) → mutex_check settings mutex ≡ Ok tt → mutex < settings.mutexes
checked_mutex settings mutex passes = at (ltb mutex settings.mutexes) refl
  where
    at : (b : Bool) → ltb mutex settings.mutexes ≡ b → mutex < settings.mutexes
    at true below = grind (arith, nat_tests, below)
    at false above = absurd (cc (passes, above))

pub checked_queue : (settings : Settings) (queue : ℕ) → queue_check settings queue ≡ Ok tt → queue < queue_total settings
checked_queue settings queue passes = at (ltb queue (queue_total settings)) refl
  where
    at : (b : Bool) → ltb queue (queue_total settings) ≡ b → queue < queue_total settings
    at true below = grind (arith, nat_tests, below)
    at false above = absurd (cc (passes, above))

pub checked_index : (settings : Settings) (index : ℕ) → index_check settings index ≡ Ok tt → index < settings.notes
checked_index settings index passes = at (ltb index settings.notes) refl
  where
    at : (b : Bool) → ltb index settings.notes ≡ b → index < settings.notes
    at true below = grind (arith, nat_tests, below)
    at false above = absurd (cc (passes, above))

-- the task and the index of a notification
module _ (settings : Settings) (note : Note) (passes : note_check settings note ≡ Ok tt) where
  abbrev both : (task_check settings note.task ≡ Ok tt) × (index_check settings note.index ≡ Ok tt)
  both = both_pass (task_check settings note.task) (index_check settings note.index) passes

  pub noted_task : (settings.cores ≤ note.task) × (note.task < settings.tasks)
  noted_task = checked_task settings note.task both.0

  pub noted_index : note.index < settings.notes
  noted_index = checked_index settings note.index both.1

-- what a task may be created with
abbrev pub has_valid_args : Config → TaskArgs → Bool
has_valid_args config args = has_valid_numbers config args.priority args.mask

-- the names of all tasks are names
abbrev pub are_named : List TaskArgs → Bool
are_named tasks = list_all (λ task. is_name task.name) tasks

-- what a header that passes its check says of its numbers and names
pub record IsWithinLimits (header : Header) : Type 0 where
  pub some_core : 0 < header.config.cores
  pub enough_cores : min_cores ≤ header.config.cores
  pub few_cores : header.config.cores ≤ max_cores
  pub some_priority : 0 < header.config.priorities
  pub few_priorities : header.config.priorities ≤ max_priorities
  pub few_mutexes : header.config.mutexes ≤ max_mutexes
  pub some_note : 0 < header.config.notes
  pub few_notes : header.config.notes ≤ max_notes
  pub some_task : 0 < length header.tasks
  pub few_tasks : length header.tasks ≤ max_tasks
  pub named : are_named header.tasks ≡ true
  pub args : list_all (has_valid_args header.config) header.tasks ≡ true
  pub once : repeats_name header.tasks ≡ false

-- neither of two is there
neither : {A : Type 0} (one other : Option A) → option_or one other ≡ None → (one ≡ None) × (other ≡ None)
neither None other none = (refl, none)
neither (Some x) other none = absurd (cc none)

unmapped : {A B : Type 0} (f : A → B) (o : Option A) → option_map f o ≡ None → o ≡ None
unmapped f None none = refl
unmapped f (Some x) none = absurd (cc none)

within : (low high n : ℕ) (flaw : HeaderFlaw) → limits_flaw low high n flaw ≡ None → (low ≤ n) × (n ≤ high)
within low high n flaw none = at (is_within low high n) refl none
  where
    at : (b : Bool) → is_within low high n ≡ b → cond b None (Some flaw) ≡ None → (low ≤ n) × (n ≤ high)
    at true is none = (grind (arith, nat_tests, is), grind (arith, nat_tests, is))
    at false is none = absurd (cc none)

no_limits_flaw : (low high n : ℕ) (flaw : HeaderFlaw) → low ≤ n → n ≤ high → limits_flaw low high n flaw ≡ None
no_limits_flaw low high n flaw least most =
    let is : is_within low high n ≡ true = grind (arith, nat_tests, least, most) in
    rw is refl

all_named : (tasks : List TaskArgs) → passes_none (λ task. not (is_name task.name)) tasks ≡ true → are_named tasks ≡ true
all_named [] none = refl
all_named (task ∷ tasks) none =
    let both = and_parts (not (not (is_name task.name))) (passes_none (λ task. not (is_name task.name)) tasks) none in
    let later = all_named tasks both.1 in
    grind (arith, both.0, later)

named_all : (tasks : List TaskArgs) → are_named tasks ≡ true → passes_none (λ task. not (is_name task.name)) tasks ≡ true
named_all [] all = refl
named_all (task ∷ tasks) all =
    let both = and_parts (is_name task.name) (are_named tasks) all in
    let later = named_all tasks both.1 in
    grind (arith, both.0, later)

module _ (config : Config) where
  abbrev no_priority : TaskArgs → Bool
  no_priority task = leb config.priorities task.priority

  abbrev no_core : TaskArgs → Bool
  no_core task = cores_of_mask config.cores task.mask == 0

  all_valid : (tasks : List TaskArgs) → passes_none no_priority tasks ≡ true → passes_none no_core tasks ≡ true → list_all (has_valid_args config) tasks ≡ true
  all_valid [] priorities masks = refl
  all_valid (task ∷ tasks) priorities masks =
      let one = and_parts (not (no_priority task)) (passes_none no_priority tasks) priorities in
      let other = and_parts (not (no_core task)) (passes_none no_core tasks) masks in
      let low : ltb task.priority config.priorities ≡ true = grind (arith, nat_tests, one.0) in
      let some : ltb 0 (cores_of_mask config.cores task.mask) ≡ true = grind (arith, nat_tests, other.0) in
      rw (low, some, all_valid tasks one.1 other.1) refl

  valid_all : (tasks : List TaskArgs) → list_all (has_valid_args config) tasks ≡ true → (passes_none no_priority tasks ≡ true) ×
      (passes_none no_core tasks ≡ true)
  valid_all [] all = (refl, refl)
  valid_all (task ∷ tasks) all =
      let both = and_parts (has_valid_args config task) (list_all (has_valid_args config) tasks) all in
      let numbers = and_parts (ltb task.priority config.priorities) (ltb 0 (cores_of_mask config.cores task.mask)) both.0 in
      let priority : leb config.priorities task.priority ≡ false = grind (arith, nat_tests, numbers.0) in
      let mask : no_core task ≡ false = grind (arith, nat_tests, numbers.1) in
      let later = valid_all tasks both.1 in
      (rw (priority, later.0) refl, rw (mask, later.1) refl)

flawless : (header : Header) → is_header header ≡ true → header_flaw header ≡ None
flawless header is = from (header_flaw header) is
  where
    from : (flaw : Option HeaderFlaw) → is_none flaw ≡ true → flaw ≡ None
    from None is = refl
    from (Some flaw) is = absurd (cc is)

no_flaw_facts : (header : Header) → header_flaw header ≡ None → IsWithinLimits header
unfolding header_flaw
no_flaw_facts header none =
    let config = header.config in
    let tasks = header.tasks in
    let cores = limits_flaw min_cores max_cores config.cores (Cores config.cores) in
    let priorities = limits_flaw 1 max_priorities config.priorities (Priorities config.priorities) in
    let mutexes = limits_flaw 0 max_mutexes config.mutexes (Mutexes config.mutexes) in
    let notes = limits_flaw 1 max_notes config.notes (Notes config.notes) in
    let count = limits_flaw 1 max_tasks (length tasks) (TaskCount (length tasks)) in
    let names = name_flaw tasks in
    let low = priority_flaw config.priorities tasks in
    let masks = mask_flaw config.cores tasks in
    let whole = neither (numbers_flaw config header.queues (length tasks)) (args_flaw config tasks) none in
    let numbers = neither (option_or (option_or (config_flaw config) (queues_flaw header.queues)) (units_flaw config.units header.queues)) count whole.0 in
    let timed = neither (option_or (config_flaw config) (queues_flaw header.queues)) (units_flaw config.units header.queues) numbers.0 in
    let settings = neither (config_flaw config) (queues_flaw header.queues) timed.0 in
    let three = neither (option_or (option_or cores priorities) mutexes) notes settings.0 in
    let two = neither (option_or cores priorities) mutexes three.0 in
    let one = neither cores priorities two.0 in
    let in_cores = within min_cores max_cores config.cores (Cores config.cores) one.0 in
    let in_priorities = within 1 max_priorities config.priorities (Priorities config.priorities) one.1 in
    let in_mutexes = within 0 max_mutexes config.mutexes (Mutexes config.mutexes) two.1 in
    let in_notes = within 1 max_notes config.notes (Notes config.notes) three.1 in
    let in_count = within 1 max_tasks (length tasks) (TaskCount (length tasks)) numbers.1 in
    let last = neither (option_or (option_or names low) masks) (shared_flaw tasks) whole.1 in
    let third = neither (option_or names low) masks last.0 in
    let first = neither names low third.0 in
    let priority = none_there (no_priority config) tasks (unmapped (λ task. Priority task config.priorities) (location_of_priority config.priorities tasks)
    first.1) in
    let mask = none_there (no_core config) tasks (unmapped (λ task. Mask task config.cores) (location_of_mask config.cores tasks) third.1) in
    record {
      some_core = omega (arith, in_cores.0);
      enough_cores = in_cores.0;
      few_cores = in_cores.1;
      some_priority = omega (arith, in_priorities.0);
      few_priorities = in_priorities.1;
      few_mutexes = in_mutexes.1;
      some_note = omega (arith, in_notes.0);
      few_notes = in_notes.1;
      some_task = omega (arith, in_count.0);
      few_tasks = in_count.1;
      named = all_named tasks (none_there (λ task. not (is_name task.name)) tasks (unmapped NoName (location_of_no_name tasks) first.0));
      args = all_valid config tasks priority mask;
      once = single_once tasks (none_there (λ task. ltb 1 (count_of_name tasks task.name)) tasks (unmapped SharedName (location_of_shared_name tasks) last.1));
    }

pub header_facts : (header : Header) → is_header header ≡ true → IsWithinLimits header
header_facts header is = no_flaw_facts header (flawless header is)

-- a header within its limits, whose queues and units have no flaw, has none
pub header_from : (header : Header) → IsWithinLimits header → queues_flaw header.queues ≡ None → units_flaw header.config.units header.queues ≡ None → header_flaw header ≡ None
unfolding header_flaw
header_from header limits flawless timed =
    let config = header.config in
    let tasks = header.tasks in
    let args = valid_all config tasks limits.args in
    rw (
      no_limits_flaw min_cores max_cores config.cores (Cores config.cores) limits.enough_cores limits.few_cores,
      no_limits_flaw 1 max_priorities config.priorities (Priorities config.priorities) (omega (arith, limits.some_priority)) limits.few_priorities,
      no_limits_flaw 0 max_mutexes config.mutexes (Mutexes config.mutexes) (omega arith) limits.few_mutexes,
      no_limits_flaw 1 max_notes config.notes (Notes config.notes) (omega (arith, limits.some_note)) limits.few_notes,
      flawless,
      timed,
      no_limits_flaw 1 max_tasks (length tasks) (TaskCount (length tasks)) (omega (arith, limits.some_task)) limits.few_tasks,
      none_found (λ task. not (is_name task.name)) tasks (named_all tasks limits.named),
      none_found (no_priority config) tasks args.0,
      none_found (no_core config) tasks args.1,
      none_found (λ task. ltb 1 (count_of_name tasks task.name)) tasks (once_single tasks limits.once),
    ) refl

pub passes_whole : (header : Header) → header_check header ≡ Ok tt → is_header header ≡ true
passes_whole header passes = from (is_header header) refl
  where
    from : (b : Bool) → is_header header ≡ b → is_header header ≡ true
    from false fails = absurd (cc (passes, fails))
    from true all = all

-- a header that passes its check has no flaw, and the other way round
pub checked_flaw : (header : Header) → header_check header ≡ Ok tt → header_flaw header ≡ None
checked_flaw header passes = flawless header (passes_whole header passes)

pub flaw_checked : (header : Header) → header_flaw header ≡ None → header_check header ≡ Ok tt
flaw_checked header none = ap (λ (flaw : Option HeaderFlaw). cond (is_none flaw) (Ok tt) (Err BadHeader)) none

-- the queues of a header without a flaw have none
flawless_queues : (header : Header) → header_flaw header ≡ None → queues_flaw header.queues ≡ None
unfolding header_flaw
flawless_queues header none =
    let config = header.config in
    let count = length header.tasks in
    let whole = neither (numbers_flaw config header.queues count) (args_flaw config header.tasks) none in
    let units = units_flaw config.units header.queues in
    let numbers = neither (option_or (option_or (config_flaw config) (queues_flaw header.queues)) units) (limits_flaw 1 max_tasks count (TaskCount count)) whole.0 in
    let timed = neither (option_or (config_flaw config) (queues_flaw header.queues)) units numbers.0 in
    (neither (config_flaw config) (queues_flaw header.queues) timed.0).1

-- nor have those of a header that passes its check
pub checked_queues : (header : Header) → header_check header ≡ Ok tt → queues_flaw header.queues ≡ None
checked_queues header passes = flawless_queues header (checked_flaw header passes)

-- nor has the number of units
flawless_units : (header : Header) → header_flaw header ≡ None → units_flaw header.config.units header.queues ≡ None
unfolding header_flaw
flawless_units header none =
    let count = length header.tasks in
    let queues = option_or (config_flaw header.config) (queues_flaw header.queues) in
    let units = units_flaw header.config.units header.queues in
    let whole = neither (numbers_flaw header.config header.queues count) (args_flaw header.config header.tasks) none in
    let numbers = neither (option_or queues units) (limits_flaw 1 max_tasks count (TaskCount count)) whole.0 in
    (neither queues units numbers.0).1

pub checked_units : (header : Header) → header_check header ≡ Ok tt → units_flaw header.config.units header.queues ≡ None
checked_units header passes = flawless_units header (checked_flaw header passes)

-- there are not too many queues
few_in : (queues : List QueueArgs) → queue_list_flaw queues ≡ None → length queues ≤ max_queues
few_in queues none =
    let count = limits_flaw 0 max_queues (length queues) (Queues (length queues)) in
    let two = neither (option_or count (length_flaw queues)) (messages_flaw queues) none in
    (within 0 max_queues (length queues) (Queues (length queues)) (neither count (length_flaw queues) two.0).0).1

few_at : (queues : Option (List QueueArgs)) (some : List QueueArgs) → queues ≡ Some some → queues_flaw queues ≡ None → length some ≤ max_queues
few_at None some is none = absurd (cc is)
few_at (Some queues) some is none = let same : queues ≡ some = cc is in subst (λ list. length list ≤ max_queues) same (few_in queues none)

-- the queues of a header that was checked are not too many
pub few_queues : (header : Header) (queues : List QueueArgs) → header_check header ≡ Ok tt → header.queues ≡ Some queues → length queues ≤ max_queues
few_queues header queues passes is = few_at header.queues queues is (checked_queues header passes)

-- both numbers of a queue have 32 bits
pub record IsQueueOfWords (queue : QueueArgs) : Type 0 where
  pub most : queue.length < 2 ^ 32
  pub messages : queue.messages < 2 ^ 32

abbrev has_no_length : QueueArgs → Bool
has_no_length queue = not (is_within 1 max_messages queue.length)

abbrev has_too_many : QueueArgs → Bool
has_too_many queue = ltb queue.length queue.messages

queue_of_words : (queue : QueueArgs) → not (has_no_length queue) ≡ true → not (has_too_many queue) ≡ true → IsQueueOfWords queue
queue_of_words queue some few = at (is_within 1 max_messages queue.length) refl some
  where
    at : (b : Bool) → is_within 1 max_messages queue.length ≡ b → not (not b) ≡ true → IsQueueOfWords queue
    at false is never = absurd (cc never)
    at true is some =
        let most : queue.length ≤ max_messages = grind (arith, nat_tests, is) in
        let messages : queue.messages ≤ queue.length = grind (arith, nat_tests, few) in
        record { most = omega arith; messages = omega arith }

words_in : (queues : List QueueArgs) → passes_none has_no_length queues ≡ true → passes_none has_too_many queues ≡ true → AllByRecursion IsQueueOfWords queues
words_in [] lengths messages = tt
words_in (queue ∷ queues) lengths messages =
    let one = and_parts (not (has_no_length queue)) (passes_none has_no_length queues) lengths in
    let other = and_parts (not (has_too_many queue)) (passes_none has_too_many queues) messages in
    (queue_of_words queue one.0 other.0, words_in queues one.1 other.1)

words_at : (queues : Option (List QueueArgs)) → queues_flaw queues ≡ None → AllByRecursion IsQueueOfWords (unwrap_or queues [])
words_at None none = tt
words_at (Some queues) none =
    let count = limits_flaw 0 max_queues (length queues) (Queues (length queues)) in
    let two = neither (option_or count (length_flaw queues)) (messages_flaw queues) none in
    let one = neither count (length_flaw queues) two.0 in
    words_in queues (none_there has_no_length queues (unmapped QueueLength (location_of_length queues) one.1))
    (none_there has_too_many queues (unmapped QueueMessages (location_of_messages queues) two.1))

-- the numbers of the queues of a header that passes its check have 32 bits
pub queue_words : (header : Header) → header_check header ≡ Ok tt → AllByRecursion IsQueueOfWords (unwrap_or header.queues [])
queue_words header passes = words_at header.queues (checked_queues header passes)

pub checked_header : (header : Header) → header_check header ≡ Ok tt → IsWithinLimits header
checked_header header passes = header_facts header (passes_whole header passes)

-- the first flaw of a header is that of its numbers, or else that of its tasks, or of their names
-- before the rest
pub numbers_decide : (header : Header) (flaw : HeaderFlaw) → numbers_flaw header.config header.queues (length header.tasks) ≡ Some flaw → header_flaw header ≡ Some flaw
unfolding header_flaw
numbers_decide header flaw some = rw some refl

pub names_decide : (header : Header) (place : ℕ) → numbers_flaw header.config header.queues (length header.tasks) ≡ None → location_of_no_name header.tasks ≡ Some place →
    header_flaw header ≡ Some (NoName place)
unfolding header_flaw
names_decide header place none some = rw (none, some) refl

pub tasks_decide : (header : Header) → numbers_flaw header.config header.queues (length header.tasks) ≡ None → header_flaw header ≡ args_flaw header.config header.tasks
unfolding header_flaw
tasks_decide header none = rw none refl

-- what is known of a header besides that it has no flaw
pub checked_where : (header : Header) (flaw : Option HeaderFlaw) → flaw ≡ header_flaw header → header.config.tick < 2 ^ 32 → IfNone flaw
    (All (λ task. task.mask < 2 ^ 32) header.tasks) → IfNone flaw (IsCheckedHeader header)
checked_where header (Some flaw) is tick masks = tt
checked_where header None is tick masks =
    let named = AllPass-from_list_all (λ (task : TaskArgs). is_name task.name) header.tasks (no_flaw_facts header (sym is)).named in
    record {
      passes = flaw_checked header (sym is);
      tick = tick;
      names = named;
      masks = masks;
    }
