-- An accepted edit leaves a session.
use Rattle.std.proofs.Common.{◌≡◌, ℕ, zero, suc, ◌+◌, ◌-◌, ◌^◌, ◌<◌, ◌≤◌, Bool, true, false, ◌||◌, List, [], ◌∷◌, length, map, set, take, drop}
use Rattle.std.proofs.Common.{Result, Ok, Err, refl, sym, ap, subst, ◌∙◌, arith, bytes_eq}
use Rattle.std.specs.Prelude.{All, IsTrue, insert, remove, if◌then◌else◌}
use Rattle.std.specs.List.{list_all, list_any}
use Rattle.std.specs.Result.{result_map_both}
use Rattle.std.proofs.lemmas.Bool.{and_parts}
use Rattle.std.proofs.lemmas.Bool.Decides.{nat_tests}
use Rattle.std.proofs.lemmas.List.{length-append, length-set, length-take-le, length-drop, map-set, set-get_or}
use Rattle.std.proofs.lemmas.List.Folds.{list_all-map}
use Rattle.std.proofs.lemmas.List.Elements.{All-take, All-drop, All-set, All-append}
use Rattle.bench_types.specs.declared.edit.Edit.{Edit}
use Rattle.bench_types.specs.declared.edit.Edit.TheVariants.{Insert, Remove, Replace, ChangeTask}
use Rattle.bench_types.specs.declared.edit.EditFault.{EditFault}
use Rattle.bench_types.specs.declared.edit.EditFault.TheVariants.{Bench, NoPlace, TooLong}
use Rattle.bench_types.specs.declared.fault.Fault.{Fault}
use Rattle.bench_types.specs.declared.fault.Fault.TheVariants.{BadHeader}
use Rattle.bench_types.specs.declared.header.Config.{Config}
use Rattle.bench_types.specs.declared.header.Header.{Header}
use Rattle.bench_types.specs.declared.header.TaskArgs.{TaskArgs}
use Rattle.bench_types.proofs.Passes.{are_named, both_pass, checked_header, checked_queues, checked_task, checked_units, flaw_checked, has_valid_args, header_from, IsWithinLimits}
use Rattle.bench_types.proofs.Repeats.{is_taken, repeats_name}
use Rattle.bench_types.specs.Edit.{edit_check, numbers_check, IsEditOfWords}
use Rattle.bench_types.specs.Header.{header_check, has_valid_numbers, queue_count, IsCheckedHeader}
use Rattle.bench_types.specs.Name.{is_name}
use Rattle.bench_types.specs.Session.{Session, IsSession}
use Rattle.bench_types.specs.Step.{settings_of, task_check, IsCheckedStep, ◌>>◌}
use Rattle.bench_types.specs.Limits.{max_steps}
use Rattle.bench_model.specs.Edits.{has_place, has_room, accepted, args_of, changed, edited}

-- what an accepted edit has passed
pub record IsPassed (session : Session) (edit : Edit) : Type 0 where
  pub fits : edit_check session.header edit ≡ Ok tt
  pub place : has_place session.steps edit ≡ true
  pub room : has_room session.steps edit ≡ true

chosen : {Why : Type 0} → Bool → Why → Result (Unit {0}) Why
chosen b why = if b then Ok tt else Err why

chosen_passes : {Why : Type 0} (b : Bool) (why : Why) → chosen b why ≡ Ok tt → b ≡ true
unfolding chosen
chosen_passes true why passes = refl
chosen_passes false why passes = absurd (cc passes)

decided : Result (Unit {0}) Fault → Result (Unit {0}) EditFault
decided fits = result_map_both (λ _. tt) Bench fits

decided_passes : (fits : Result (Unit {0}) Fault) → decided fits ≡ Ok tt → fits ≡ Ok tt
unfolding decided
decided_passes (Ok done) passes = refl
decided_passes (Err why) passes = absurd (cc passes)

pub passed : (session : Session) (edit : Edit) → accepted session edit ≡ Ok tt → IsPassed session edit
unfolding chosen decided
passed session edit accepts =
    let fits = decided (edit_check session.header edit) in
    let place = chosen (has_place session.steps edit) NoPlace in
    let room = chosen (has_room session.steps edit) TooLong in
    let last = both_pass (fits >> place) room accepts in
    let first = both_pass fits place last.0 in
    record {
      fits = decided_passes (edit_check session.header edit) first.0;
      place = chosen_passes (has_place session.steps edit) NoPlace first.1;
      room = chosen_passes (has_room session.steps edit) TooLong last.1;
    }

module _ {X : Type 0} where
  pub length-insert : (xs : List X) (at : ℕ) (x : X) → at ≤ length xs → length (insert xs at x) ≡ suc (length xs)
  length-insert xs at x within = omega (arith, length-append (take at xs) (x ∷ drop at xs), length-take-le at xs within, length-drop at xs)

  pub length-remove : (xs : List X) (at : ℕ) → at < length xs → length (remove xs at) + 1 ≡ length xs
  length-remove xs at within =
      let early : at ≤ length xs = omega arith in
      omega (arith, length-append (take at xs) (drop (suc at) xs), length-take-le at xs early, length-drop (suc at) xs)

  All_one : (P : X → Type 0) (x : X) → P x → All P (x ∷ [])
  All_one P x holds zero d within = holds
  All_one P x holds (suc k) d within = absurd (omega arith)

  All-insert : (P : X → Type 0) (xs : List X) (at : ℕ) (x : X) → P x → All P xs → All P (insert xs at x)
  All-insert P xs at x here all = All-append P (take at xs) (x ∷ drop at xs) (All-take P at xs all)
      (All-append P (x ∷ []) (drop at xs) (All_one P x here) (All-drop P at xs all))

  All-remove : (P : X → Type 0) (xs : List X) (at : ℕ) → All P xs → All P (remove xs at)
  All-remove P xs at all = All-append P (take at xs) (drop (suc at) xs) (All-take P at xs all) (All-drop P (suc at) xs all)

  list_all-set : (p : X → Bool) (xs : List X) (i : ℕ) (x : X) → p x ≡ true → list_all p xs ≡ true → list_all p (set xs i x) ≡ true
  list_all-set p [] i x here all = refl
  list_all-set p (y ∷ ys) zero x here all = grind (arith, here, and_parts (p y) (list_all p ys) all)
  list_all-set p (y ∷ ys) (suc i) x here all =
      let parts = and_parts (p y) (list_all p ys) all in
      grind (arith, parts.0, list_all-set p ys i x here parts.1)

abbrev name_of : TaskArgs → List ℕ
name_of task = task.name

-- whether a name is repeated is said by the names alone
abbrev repeats : List (List ℕ) → Bool
repeats [] = false
repeats (name ∷ names) = list_any (bytes_eq name) names || repeats names

taken_by_name : (name : List ℕ) (tasks : List TaskArgs) → is_taken name tasks ≡ list_any (bytes_eq name) (map name_of tasks)
taken_by_name name [] = refl
taken_by_name name (task ∷ tasks) = ap (λ rest. bytes_eq name task.name || rest) (taken_by_name name tasks)

repeats_by_name : (tasks : List TaskArgs) → repeats_name tasks ≡ repeats (map name_of tasks)
repeats_by_name [] = refl
repeats_by_name (task ∷ tasks) = ap (λ taken. taken || repeats_name tasks) (taken_by_name task.name tasks) ∙ ap
    (λ rest. list_any (bytes_eq task.name) (map name_of tasks) || rest) (repeats_by_name tasks)

no_args : TaskArgs
no_args = record { name = []; priority = 0; mask = 0 }

names_stay : (header : Header) (task priority mask : ℕ) → map name_of (changed task priority mask header).tasks ≡ map name_of header.tasks
names_stay header task priority mask =
    let i = task - header.config.cores in
    let args = args_of header task in
    map-set name_of header.tasks i (record args { priority = priority; mask = mask }) ∙ sym (map-set name_of header.tasks i args) ∙ ap (map name_of)
    (set-get_or header.tasks i _)

are_named_by_name : (tasks : List TaskArgs) → are_named tasks ≡ list_all is_name (map name_of tasks)
are_named_by_name tasks = sym (list_all-map is_name name_of tasks)

changed_within : (header : Header) (task priority mask : ℕ) → IsWithinLimits header → has_valid_numbers header.config priority mask ≡ true → IsWithinLimits
    (changed task priority mask header)
changed_within header task priority mask limits numbers =
    let next = changed task priority mask header in
    let i = task - header.config.cores in
    let names = names_stay header task priority mask in
    let same_length : length next.tasks ≡ length header.tasks = length-set header.tasks i _ in
    record {
      some_core = limits.some_core;
      enough_cores = limits.enough_cores;
      few_cores = limits.few_cores;
      some_priority = limits.some_priority;
      few_priorities = limits.few_priorities;
      few_mutexes = limits.few_mutexes;
      some_note = limits.some_note;
      few_notes = limits.few_notes;
      some_task = omega (arith, same_length, limits.some_task);
      few_tasks = omega (arith, same_length, limits.few_tasks);
      named = are_named_by_name next.tasks ∙ ap (list_all is_name) names ∙ sym (are_named_by_name header.tasks) ∙ limits.named;
      args = list_all-set (has_valid_args header.config) header.tasks i _ numbers limits.args;
      once = repeats_by_name next.tasks ∙ ap repeats names ∙ sym (repeats_by_name header.tasks) ∙ limits.once;
    }

changed_fits : (header : Header) (task priority mask : ℕ) → header_check header ≡ Ok tt → has_valid_numbers header.config priority mask ≡ true → header_check
    (changed task priority mask header) ≡ Ok tt
changed_fits header task priority mask fits numbers =
    let next = changed task priority mask header in
    flaw_checked next (header_from next (changed_within header task priority mask (checked_header header fits) numbers) (checked_queues header fits)
    (checked_units header fits))

changed_settings : (header : Header) (task priority mask : ℕ) → settings_of (changed task priority mask header) ≡ settings_of header
changed_settings header task priority mask =
    ap (λ users. record {
      cores = header.config.cores;
      priorities = header.config.priorities;
      slicing = header.config.slicing;
      mutexes = header.config.mutexes;
      notes = header.config.notes;
      queues = queue_count header;
      units = header.config.units;
      tasks = header.config.cores + users;
    }) (length-set header.tasks (task - header.config.cores) _)

numbers_pass : (config : Config) (priority mask : ℕ) → numbers_check config priority mask ≡ Ok tt → has_valid_numbers config priority mask ≡ true
unfolding chosen
numbers_pass config priority mask passes = chosen_passes (has_valid_numbers config priority mask) BadHeader passes

-- the arguments that a header has for a user task have a name
args_named : (header : Header) (task : ℕ) → All (λ args. IsTrue (is_name args.name)) header.tasks → task_check (settings_of header) task ≡ Ok tt → IsTrue
    (is_name (args_of header task).name)
args_named header task names passes =
    let there = checked_task (settings_of header) task passes in
    names (task - header.config.cores) _ (omega (arith, there.0, there.1))

changed_header : (header : Header) (task priority mask : ℕ) → IsCheckedHeader header → mask < 2 ^ 32 → edit_check header (ChangeTask task priority mask) ≡ Ok tt
    → IsCheckedHeader (changed task priority mask header)
changed_header header task priority mask is word passes =
    let both = both_pass (task_check (settings_of header) task) (numbers_check header.config priority mask) passes in
    let at = task - header.config.cores in
    record {
      passes = changed_fits header task priority mask is.passes (numbers_pass header.config priority mask both.1);
      tick = is.tick;
      names = All-set (λ args. IsTrue (is_name args.name)) header.tasks at _ (args_named header task is.names both.0) is.names;
      masks = All-set (λ args. args.mask < 2 ^ 32) header.tasks at _ word is.masks;
    }

pub edited_session : (session : Session) (edit : Edit) → IsSession session → IsEditOfWords edit → accepted session edit ≡ Ok tt → IsSession
    (edited edit session)
edited_session session (Insert at step) is words accepts =
    let passes = passed session (Insert at step) accepts in
    record {
      header = is.header;
      steps = All-insert (IsCheckedStep (settings_of session.header)) session.steps at step (record { passes = passes.fits; words = words.1 }) is.steps;
    }
edited_session session (Remove at) is words accepts = record {
  header = is.header;
  steps = All-remove (IsCheckedStep (settings_of session.header)) session.steps at is.steps;
}
edited_session session (Replace at step) is words accepts =
    let passes = passed session (Replace at step) accepts in
    record {
      header = is.header;
      steps = All-set (IsCheckedStep (settings_of session.header)) session.steps at step (record { passes = passes.fits; words = words.1 }) is.steps;
    }
edited_session session (ChangeTask task priority mask) is words accepts =
    let passes = passed session (ChangeTask task priority mask) accepts in
    record {
      header = changed_header session.header task priority mask is.header words passes.fits;
      steps = subst (λ settings. All (IsCheckedStep settings) session.steps) (sym (changed_settings session.header task priority mask)) is.steps;
    }

pub edited_room : (session : Session) (edit : Edit) → length session.steps ≤ max_steps → accepted session edit ≡ Ok tt → length (edited edit session).steps ≤
    max_steps
edited_room session (Insert at step) few accepts =
    let passes = passed session (Insert at step) accepts in
    let within : at ≤ length session.steps = grind (arith, nat_tests, passes.place) in
    let room : length session.steps < max_steps = grind (arith, nat_tests, passes.room) in
    omega (arith, length-insert session.steps at step within)
edited_room session (Remove at) few accepts =
    let passes = passed session (Remove at) accepts in
    let within : at < length session.steps = grind (arith, nat_tests, passes.place) in
    omega (arith, length-remove session.steps at within, few)
edited_room session (Replace at step) few accepts = omega (arith, length-set session.steps at step, few)
edited_room session (ChangeTask task priority mask) few accepts = few
