-- The slow start and the slow replay, place by place.
use Rattle.std.proofs.Common.{◌≡◌, ℕ, zero, suc, ◌+◌, ◌*◌, ◌<◌, ◌≤◌, ◌^◌, List, [], ◌∷◌, ◌++◌, length, map, drop, Ok, refl, sym, ap, subst, ◌∙◌, arith}
use Rattle.std.specs.Prelude.{option_map, slice_get}
use Rattle.std.specs.List.{fold}
use Rattle.std.proofs.lemmas.List.FromFn.{length-range_with_len}
use Rattle.std.proofs.lemmas.List.{append_assoc, append-nil, map_push, drop_all}
use Rattle.std.specs.Global.{Vec}
use Rattle.bench_types.specs.declared.header.Header.{Header}
use Rattle.bench_types.specs.declared.reply.Reply.{Reply}
use Rattle.bench_types.specs.declared.step.Step.{Step}
use Rattle.bench_types.specs.declared.kernel_data.Settings.{Settings}
use Rattle.bench_types.specs.Header.{header_check}
use Rattle.bench_types.proofs.Passes.{checked_header}
use Rattle.bench_types.specs.Step.{settings_of, IsCheckedStep}
use Rattle.list_orders.specs.Search.{numbers}
use Rattle.bench_model.specs.Control.{running}
use Rattle.bench_model.specs.Seek.{after_switch}
use Rattle.bench_model.specs.Table.{Stamps, Table, stamp_queues}
use Rattle.bench_model.specs.Sound.{IsConsistent, IsSound}
use Rattle.bench_model.specs.Start.{first_stamps, unstarted, started, start}
use Rattle.bench_model.specs.Session.{step_of, outcome_at, run_results}
use Rattle.bench_types.specs.Reply.{shown}
use Rattle.bench_types.specs.Limits.{max_cores, max_tasks}
use Rattle.list_orders.proofs.Filters.{fold-append}
use Rattle.list_orders.proofs.Stamped.{numbers_more}
use Rattle.session_laws.proofs.Traces.{trace_at}
use Rattle.step_laws.proofs.Nears.{turned_next, turned_tick, turned_settings, after_near}
use Rattle.rule_laws.proofs.Seeks.{after_switch_sound, after_switch_length}
use Rattle.step_laws.proofs.Steps.{after_sound}
use Rattle.step_laws.proofs.Starts.{start_sound, first_sound, first_next, unstarted_cores}

-- the first cores of a start have switched
pub record IsStarting (header : Header) (core : ℕ) (table : Table) : Type 0 where
  pub so_far : table ≡ fold (λ table core. after_switch stamp_queues core table) (unstarted (first_stamps header) header) (numbers core)
  pub sound : IsConsistent table
  pub cores : length table.control.cores ≡ header.config.cores
  pub room : table.orders.next ≤ max_cores + max_tasks + core

pub starting_starts : (header : Header) (table : Table) → header_check header ≡ Ok tt → table ≡ unstarted (first_stamps header) header → IsStarting header 0
    table
unfolding unstarted
starting_starts header table passes first =
    let facts = checked_header header passes in
    subst (λ t. IsStarting header 0 t) (sym first) (record {
      so_far = refl;
      sound = first_sound header facts;
      cores = unstarted_cores header;
      room = omega (arith, facts.few_cores, facts.few_tasks, first_next header);
    })

pub starting_goes : (header : Header) (core : ℕ) (table next : Table) → IsStarting header core table → core < header.config.cores → next ≡ after_switch
    stamp_queues core table → IsStarting header (core + 1) next
starting_goes header core table next starting low goes =
    let turn = λ (table : Table) (core : ℕ). after_switch stamp_queues core table in
    let before = unstarted (first_stamps header) header in
    let cores = ap (fold turn before) (numbers_more core) ∙ fold-append turn before (numbers core) (core ∷ []) in
    subst (λ t. IsStarting header (core + 1) t) (sym goes) (record {
      so_far = ap (after_switch stamp_queues core) starting.so_far ∙ sym cores;
      sound = after_switch_sound table core starting.sound (omega (arith, starting.cores, starting.sound.sized.cores));
      cores = after_switch_length core table ∙ starting.cores;
      room = omega (arith, turned_next core table, starting.room);
    })

pub starting_ends : (header : Header) (table : Table) → IsStarting header header.config.cores table → table ≡ start header
unfolding started
starting_ends header table starting = starting.so_far

option_map-slice_get : {A B : Type 0} (f : A → B) (xs : List A) (i : ℕ) → option_map f (slice_get xs i) ≡ slice_get (map f xs) i
option_map-slice_get f [] i = refl
option_map-slice_get f (x ∷ xs) zero = refl
option_map-slice_get f (x ∷ xs) (suc i) = option_map-slice_get f xs i

-- the outcomes so far and what the rest of the steps gives are the whole trace
pub record IsReplaying (header : Header) (steps : List Step) (place : ℕ) (table : Table) (outcomes : List (Reply × Vec ℕ)) : Type 0 where
  pub whole : map shown outcomes ++ run_results table (drop place steps) ≡ run_results (start header) steps
  pub sound : IsSound table
  pub settings : table.settings ≡ settings_of header
  pub room : table.orders.next ≤ 2 * max_cores + max_tasks + (max_cores + max_tasks + 1) * place
  pub time : table.orders.tick ≤ header.config.tick + place

-- what a step of a replay needs
pub record CanStep (table : Table) : Type 0 where
  pub room : table.orders.next + length table.orders.rows + 1 < 2 ^ 128
  pub time : table.orders.tick + 2 ^ 32 < 2 ^ 128

turns_next : (cores : List ℕ) (table : Table) → (fold (λ table core. after_switch stamp_queues core table) table cores).orders.next ≤ table.orders.next + length
    cores
turns_next [] table = omega arith
turns_next (core ∷ cores) table = omega (arith, turns_next cores (after_switch stamp_queues core table), turned_next core table)

turns_tick : (cores : List ℕ) (table : Table) → (fold (λ table core. after_switch stamp_queues core table) table cores).orders.tick ≡ table.orders.tick
turns_tick [] table = refl
turns_tick (core ∷ cores) table = turns_tick cores (after_switch stamp_queues core table) ∙ turned_tick core table

turns_settings : (cores : List ℕ) (table : Table) → (fold (λ table core. after_switch stamp_queues core table) table cores).settings ≡ table.settings
turns_settings [] table = refl
turns_settings (core ∷ cores) table = turns_settings cores (after_switch stamp_queues core table) ∙ turned_settings core table

unstarted_orders : (header : Header) → ((unstarted (first_stamps header) header).orders ≡ first_stamps header) ×
    ((first_stamps header).tick ≡ header.config.tick) × ((unstarted (first_stamps header) header).settings ≡ settings_of header)
unfolding unstarted first_stamps
unstarted_orders header = (refl, refl, refl)

pub replaying_starts : (header : Header) (steps : List Step) (table : Table) (outcomes : List (Reply × Vec ℕ)) → header_check header ≡ Ok tt → table ≡ start
    header → outcomes ≡ [] → IsReplaying header steps 0 table outcomes
unfolding started
replaying_starts header steps table outcomes passes starts none =
    let facts = checked_header header passes in
    let cores = numbers header.config.cores in
    let before = unstarted (first_stamps header) header in
    let first = unstarted_orders header in
    let given = ap (λ (o : Stamps). o.next) first.0 in
    let ticks = ap (λ (o : Stamps). o.tick) first.0 in
    subst (λ t. IsReplaying header steps 0 t outcomes) (sym starts) (record {
      whole = ap (λ os. map shown os ++ run_results (start header) (drop 0 steps)) none;
      sound = start_sound header passes;
      settings = turns_settings cores before ∙ first.2;
      room = omega (arith, turns_next cores before, given, first_next header, facts.few_cores, facts.few_tasks, length-range_with_len 0 header.config.cores);
      time = omega (arith, turns_tick cores before, ticks, first.1);
    })

-- the outcome of a step before those of the rest
trace_cons : (table next : Table) (step : Step) (steps : List Step) (reply : Reply) (row : List ℕ) → reply ≡ (step_of step table).0 → next ≡
    (step_of step table).1 → row ≡ running next.control → (reply, row) ∷ run_results next steps ≡ run_results table (step ∷ steps)
trace_cons table next step steps reply row replied later runs =
    ap (λ r. (r, row) ∷ run_results next steps) replied ∙ ap (λ (ns : List ℕ). ((step_of step table).0, ns) ∷ run_results next steps) runs ∙ ap
    (λ (t : Table). ((step_of step table).0, running t.control) ∷ run_results t steps) later

rows_few : (header : Header) (table : Table) → header_check header ≡ Ok tt → IsConsistent table → table.settings ≡ settings_of header →
    (0 < length table.orders.rows) × (length table.orders.rows ≤ max_cores + max_tasks)
rows_few header table passes sound settings =
    let facts = checked_header header passes in
    let tasks = ap (λ (s : Settings). s.tasks) settings in
    (omega (arith, sound.sized.rows, tasks, facts.some_core), omega (arith, sound.sized.rows, tasks, facts.few_cores, facts.few_tasks))

pub can_step : (header : Header) (steps : List Step) (place : ℕ) (table : Table) (outcomes : List (Reply × Vec ℕ)) → header_check header ≡ Ok tt → IsReplaying
    header steps place table outcomes → place < 2 ^ 64 → header.config.tick < 2 ^ 32 → CanStep table
can_step header steps place table outcomes passes replaying early tick = record {
  room = omega (arith, replaying.room, (rows_few header table passes replaying.sound.consistent replaying.settings).1);
  time = omega (arith, replaying.time);
}

pub replaying_goes : (header : Header) (steps : List Step) (place : ℕ) (table next : Table) (outcomes : List (Reply × Vec ℕ)) (step : Step) (reply : Reply)
    (row : Vec ℕ) → header_check header ≡ Ok tt → IsReplaying header steps place table outcomes → drop place steps ≡ step ∷ drop (place + 1) steps →
    IsCheckedStep table.settings step → (reply, next) ≡ step_of step table → row.items ≡ running next.control → IsReplaying header steps (place + 1) next
    (outcomes ++ (reply, row) ∷ [])
replaying_goes header steps place table next outcomes step reply row passes replaying here fits goes runs =
    let later : next ≡ (step_of step table).1 = ap (λ (o : Reply × Table). o.1) goes in
    let replied : reply ≡ (step_of step table).0 = ap (λ (o : Reply × Table). o.0) goes in
    let few = rows_few header table passes replaying.sound.consistent replaying.settings in
    let rest = drop (place + 1) steps in
    let near = after_near step table few.0 in
    let nexts = ap (λ (t : Table). t.orders.next) later in
    let ticks = ap (λ (t : Table). t.orders.tick) later in
    record {
      whole = ap (λ os. os ++ run_results next rest) (map_push shown outcomes (reply, row)) ∙ append_assoc (map shown outcomes) (shown (reply, row) ∷ [])
          (run_results next rest)
          ∙ ap (λ os. map shown outcomes ++ os) (trace_cons table next step rest reply row.items replied later runs ∙ ap (run_results table) (sym here)) ∙
          replaying.whole;
      sound = subst IsSound (sym later) (after_sound step table replaying.sound fits);
      settings = ap (λ (t : Table). t.settings) later ∙ near.2 ∙ replaying.settings;
      room = omega (arith, nexts, near.0, few.1, replaying.room);
      time = omega (arith, ticks, near.1, replaying.time);
    }

pub replaying_ends : (header : Header) (steps : List Step) (place : ℕ) (table : Table) (outcomes : List (Reply × Vec ℕ)) → IsReplaying header steps place table
    outcomes → length steps ≤ place → (at : ℕ) → option_map shown (slice_get outcomes at) ≡ outcome_at header steps at
replaying_ends header steps place table outcomes replaying all at =
    let none : run_results table (drop place steps) ≡ [] = ap (run_results table) (drop_all place steps all) in
    let outcomes_all : map shown outcomes ≡ run_results (start header) steps = sym (append-nil (map shown outcomes)) ∙ ap (λ rest. map shown outcomes ++ rest)
    (sym none) ∙ replaying.whole in
    option_map-slice_get shown outcomes at ∙ ap (λ xs. slice_get xs at) outcomes_all ∙ trace_at header steps at
