use Rattle.std.proofs.Common.{◌≡◌, ℕ, zero, suc, ◌+◌, ◌-◌, ◌*◌, ◌<◌, ◌≤◌, ◌^◌, false, List, [], ◌++◌, length, map, replicate, Option, Some, None, Ok, refl, ap, sym, subst}
use Rattle.std.proofs.Common.{◌∙◌, arith}
use Rattle.std.specs.Prelude.{slice_index_or, option_map, unwrap_or}
use Rattle.std.specs.List.{AllByRecursion}
use Rattle.bench_types.specs.declared.kernel_data.Waiter.{Waiter}
use Rattle.std.proofs.lemmas.List.{length-map, length-replicate}
use Rattle.std.proofs.lemmas.List.FromFn.{length-map-range_with_len, get_or-map-range_with_len}
use Rattle.std.proofs.Math.Nat.{mul-le-mul}
use Rattle.bench_types.proofs.Passes.{checked_header, few_queues}
use Rattle.bench_types.specs.Header.{header_check}
use Rattle.bench_types.specs.Limits.{max_cores, max_mutexes, max_notes, max_queues, max_tasks}
use Rattle.bench_types.specs.Step.{queue_total, settings_of}
use Rattle.bench_types.specs.declared.header.Header.{Header}
use Rattle.bench_types.specs.declared.header.QueueArgs.{QueueArgs}
use Rattle.bench_types.specs.declared.kernel_data.CoreLook.{CoreLook}
use Rattle.bench_types.specs.declared.kernel_data.QueueLook.{QueueLook}
use Rattle.bench_types.specs.declared.kernel_data.Settings.{Settings}
use Rattle.bench_types.specs.declared.kernel_data.TaskControl.{TaskControl}
use Rattle.bench_types.specs.declared.note.Notification.{Notification}
use Rattle.bench_types.specs.declared.step.Unfinished.{Unfinished}
use Rattle.bench_model.specs.declared.row.TaskRow.{TaskRow}
use Rattle.bench_model.specs.Notes.{no_note}
use Rattle.list_orders.specs.Search.{numbers}
use Rattle.bench_model.specs.Start.{first_look, first_queue, ready_row, first_stamps, unstarted}
use Rattle.bench_model.specs.Table.{Table}
use Rattle.bench_model.specs.Waiters.{event_lists}
use Rattle.step_laws.proofs.Starts.{length_ranges}
use Rattle.order_laws.proofs.FirstBlocks.{first_tasks}
use Rattle.slow_replay.proofs.slow.unstarted.Goals as goal

abbrev no_look : CoreLook
no_look = record { current = 0; pend = false; asked = false }

none_at : (n mutex : ℕ) → slice_index_or {A = Option ℕ} (replicate n None) mutex None ≡ None
none_at zero mutex = refl
none_at (suc n) zero = refl
none_at (suc n) (suc mutex) = none_at n mutex

none_held : (n mutex task : ℕ) → slice_index_or {A = Option ℕ} (replicate n None) mutex None ≡ Some task → ⊥
none_held n mutex task held = cc (none_at n mutex, held)

-- a checked header has not too many notifications to be named
few_notes : (header : Header) (settings : Settings) → settings ≡ settings_of header → header.config.cores ≤ max_cores → length header.tasks ≤ max_tasks →
    header.config.notes ≤ max_notes → settings.tasks * settings.notes < 2 ^ 32
few_notes header settings same cores users notes =
    let most = mul-le-mul (let few : header.config.cores + length header.tasks ≤ max_cores + max_tasks = omega (arith, cores, users) in few) notes in
    let whole = ap (λ (s : Settings). s.tasks * s.notes) same in
    omega (arith, most, whole)

-- there is what each queue has
queues_length : (queues : Option (List QueueArgs)) → length (map first_queue (unwrap_or queues [])) ≡ unwrap_or (option_map length queues) 0
queues_length None = refl
queues_length (Some queues) = length-map queues first_queue

-- a checked header has not too many event lists to be named
few_lists : (header : Header) (settings : Settings) → settings ≡ settings_of header → header_check header ≡ Ok tt → event_lists settings < 2 ^ 32
few_lists header settings same passes =
    let mutexes : header.config.mutexes ≤ max_mutexes = (checked_header header passes).few_mutexes in
    subst (λ (s : Settings). event_lists s < 2 ^ 32) (sym same) (omega (arith, mutexes, few header.queues refl))
  where
    few : (queues : Option (List QueueArgs)) → header.queues ≡ queues → unwrap_or (option_map length queues) 0 ≤ max_queues
    few None is = omega arith
    few (Some queues) is = few_queues header queues passes is

pub invariant_of-result : goal.invariant_of-result
invariant_of-result c =
    let settings = c.settings_of-settings.result in
    let cores = ap (λ (s : Settings). s.cores) c.settings_of-settings.ensures in
    let tasks = ap (λ (s : Settings). s.tasks) c.settings_of-settings.ensures in
    let sum : settings.cores + (settings.tasks - settings.cores) ≡ settings.tasks = omega arith in
    record {
      few_cores = omega (arith, cores, c.requires.cores);
      cores = ap length c.in_ok-cores.ensures ∙ length-map-range_with_len _ 0 settings.cores;
      controls = ap length c.in_ok-tasks.ensures ∙ first_tasks c.args.header.now ∙ omega (arith, tasks);
      calls = ap length c.in_ok-calls.ensures ∙ length-replicate settings.tasks _;
      notes = ap length c.in_ok-notes.ensures ∙ length-replicate (settings.tasks * settings.notes) _;
      few_notes = few_notes c.args.header.now settings c.settings_of-settings.ensures c.requires.cores c.requires.tasks c.requires.notes;
      holders = ap length c.in_ok-holders.ensures ∙ length-replicate settings.mutexes _;
      queues = ap length c.in_ok-queues.ensures ∙ queues_length c.args.header.now.queues ∙ sym (ap queue_total c.settings_of-settings.ensures);
      few_lists = few_lists c.args.header.now settings c.settings_of-settings.ensures c.requires.passes;
      rows = ap length c.in_ok-rows.ensures ∙ length_ranges _ _ settings.cores (settings.tasks - settings.cores) ∙ sum;
      deadlines = ap length c.in_ok-deadlines.ensures ∙ length-replicate settings.tasks _;
      waiting_tasks = subst (AllByRecursion (λ (waiter : Waiter). waiter.task < settings.tasks)) (sym c.no_waiters-waiters.ensures) tt;
      held_by_tasks = λ mutex task held. absurd (none_held settings.mutexes mutex task
          (ap (λ holders. slice_index_or holders mutex None) (sym c.in_ok-holders.ensures) ∙ held));
      runs_tasks = λ core low.
          let look = ap (λ looks. slice_index_or looks core no_look) c.in_ok-cores.ensures ∙ get_or-map-range_with_len first_look 0 settings.cores core core
          no_look low (omega arith) in
          omega (arith, ap (λ (l : CoreLook). l.current) look, cores, tasks);
    }

abbrev table_of : Settings → List CoreLook → List TaskControl → List (Option Unfinished) → List Notification → List (Option ℕ) → List QueueLook → List TaskRow → List
    Waiter → List (Option ℕ) → List ℕ → ℕ → ℕ → Table
table_of settings cores tasks calls notes holders queues rows waiters deadlines values tick next = record {
  settings = settings;
  control = record { cores = cores; tasks = tasks };
  calls = calls;
  notes = notes;
  holders = holders;
  queues = queues;
  hold = None;
  orders = record { rows = rows; waiters = waiters; deadlines = deadlines; values = values; tick = tick; next = next };
}

same_table : {s t : Settings} {cs ds : List CoreLook} {bs es : List TaskControl} {us vs : List (Option Unfinished)} {ns ms : List Notification}
    {hs gs : List (Option ℕ)} {os ls : List QueueLook} {rs qs : List TaskRow} {ws vs₂ : List Waiter} {xs ys : List (Option ℕ)} {ps zs : List ℕ} {i j k l : ℕ}
    → s ≡ t → cs ≡ ds → bs ≡ es → us ≡ vs → ns ≡ ms → hs ≡ gs → os ≡ ls → rs ≡ qs → ws ≡ vs₂ → xs ≡ ys → ps ≡ zs → i ≡ j → k ≡ l
    → table_of s cs bs us ns hs os rs ws xs ps i k ≡ table_of t ds es vs ms gs ls qs vs₂ ys zs j l
same_table a b c d e f o g h w v i j = cc

abbrev rows_for : ℕ → ℕ → List TaskRow
rows_for cores users = map (λ core. ready_row (users + core)) (numbers cores) ++ map ready_row (numbers users)

pub returns : goal.returns
unfolding unstarted first_stamps
returns c =
    let header = c.args.header.now in
    let settings = c.settings_of-settings.result in
    let same = c.settings_of-settings.ensures in
    let cores : settings.cores ≡ header.config.cores = ap (λ (s : Settings). s.cores) same in
    let tasks : settings.tasks ≡ header.config.cores + length header.tasks = ap (λ (s : Settings). s.tasks) same in
    let users : settings.tasks - settings.cores ≡ length header.tasks = omega (arith, cores, tasks) in
    same_table same (c.in_ok-cores.ensures ∙ ap (λ n. map first_look (numbers n)) cores) c.in_ok-tasks.ensures
    (c.in_ok-calls.ensures ∙ ap (λ n. replicate n None) tasks)
    (c.in_ok-notes.ensures ∙ ap (λ (s : Settings). replicate (s.tasks * s.notes) no_note) same)
    (c.in_ok-holders.ensures ∙ ap (λ n. replicate n None) (ap (λ (s : Settings). s.mutexes) same))
    c.in_ok-queues.ensures
    (c.in_ok-rows.ensures ∙ ap (λ n. rows_for n (settings.tasks - settings.cores)) cores ∙ ap (rows_for header.config.cores) users)
    c.no_waiters-waiters.ensures
    (c.in_ok-deadlines.ensures ∙ ap (λ n. replicate n None) tasks)
    c.in_ok-values.ensures c.from.ensures (c.from-2.ensures ∙ tasks)
