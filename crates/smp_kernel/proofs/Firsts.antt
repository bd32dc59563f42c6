-- The parts of a start, what they keep, and the cores that select in turn.
use Rattle.std.proofs.Common.{◌≡◌, ℕ, ◌+◌, ◌*◌, ◌<◌, ◌≤◌, ◌%◌, ◌^◌, List, [], ◌∷◌, length, replicate, Option, None, Some, Ok, refl, sym, ap, ◌∙◌, arith}
use Rattle.std.specs.Prelude.{option_map, unwrap_or}
use Rattle.std.specs.List.{fold}
use Rattle.std.proofs.lemmas.List.{length-map, length-replicate}
use Rattle.std.proofs.lemmas.List.FromFn.{length-range_with_len}
use Rattle.bench_types.specs.declared.header.Header.{Header}
use Rattle.bench_types.specs.Header.{header_check}
use Rattle.bench_types.specs.Step.{settings_of}
use Rattle.bench_types.proofs.Passes.{checked_header, few_queues}
use Rattle.bench_types.specs.Limits.{max_mutexes, max_queues}
use Rattle.bench_types.specs.declared.header.QueueArgs.{QueueArgs}
use Rattle.list_orders.specs.Search.{numbers}
use Rattle.bench_model.specs.Cores.{cores_of}
use Rattle.bench_model.specs.Lists.{View, list_queues}
use Rattle.notify_core.specs.Parts.{fresh_notes}
use Rattle.bench_model.specs.Seek.{after_switch}
use Rattle.bench_model.specs.Start.{first_look, first_lists, first_queues, first_values, unstarted, started, start_seen}
use Rattle.list_orders.proofs.Filters.{fold-append}
use Rattle.order_laws.proofs.FirstBlocks.{first_tasks, first_values_length}
use Rattle.mutex_inherit.specs.Parts.{free_mutexes}
use Rattle.list_orders.proofs.Stamped.{numbers_more}
use Rattle.tick_delay.specs.Parts.{no_delays}
use Rattle.bench_model.specs.Waiters.{event_lists}
use Rattle.step_laws.proofs.Starts.{queues_length}
use Rattle.smp_kernel.specs.Kernel.{Parts, kernel_view, IsKernelShape}
use Rattle.smp_kernel.proofs.CoreMoves.{turned_settings}

-- one more core selects
pub in_turn : View → ℕ → View
in_turn view cores = fold (λ kernel core. after_switch list_queues core kernel) view (numbers cores)

pub in_turn_more : (view : View) (core : ℕ) → in_turn view (core + 1) ≡ after_switch list_queues core (in_turn view core)
unfolding in_turn
in_turn_more view core = ap (fold (λ kernel core. after_switch list_queues core kernel) view) (numbers_more core) ∙ fold-append
    (λ kernel core. after_switch list_queues core kernel) view (numbers core) (core ∷ [])

pub in_turn_none : (view : View) → in_turn view 0 ≡ view
unfolding in_turn
in_turn_none view = refl

pub in_turn_all : (header : Header) → in_turn (unstarted (first_lists header) header) header.config.cores ≡ start_seen header
unfolding in_turn started
in_turn_all header = refl

in_turn_settings_at : (cores : List ℕ) (view : View) → (fold (λ kernel core. after_switch list_queues core kernel) view cores).settings ≡ view.settings
in_turn_settings_at [] view = refl
in_turn_settings_at (core ∷ cores) view = in_turn_settings_at cores (after_switch list_queues core view) ∙ turned_settings core view

pub in_turn_settings : (header : Header) (core : ℕ) → (in_turn (unstarted (first_lists header) header) core).settings ≡ settings_of header
unfolding in_turn unstarted
in_turn_settings header core = in_turn_settings_at (numbers core) (unstarted (first_lists header) header)

-- there are few event lists
pub few_event_lists : (header : Header) → header_check header ≡ Ok tt → event_lists (settings_of header) ≤ max_mutexes + 2 * max_queues
few_event_lists header passes =
    let few = at header.queues refl in
    omega (arith, few, (checked_header header passes).few_mutexes)
  where
    at : (queues : Option (List QueueArgs)) → header.queues ≡ queues → unwrap_or (option_map length queues) 0 ≤ max_queues
    at None none = omega arith
    at (Some queues) some = few_queues header queues passes some

-- the parts of a start
abbrev pub first_parts : Header → Parts
first_parts header = let tasks = header.config.cores + length header.tasks in record {
  settings = settings_of header;
  cores = cores_of (unstarted (first_lists header) header);
  calls = replicate tasks None;
  notes = fresh_notes tasks header.config.notes;
  mutexes = free_mutexes tasks header.config.priorities header.config.mutexes (event_lists (settings_of header)) (first_values header);
  queues = first_queues header;
  delays = no_delays header.config.tick tasks;
  deadlines = replicate tasks None;
  hold = None;
}

-- they show the start over lists, before any core has selected
pub seen_unstarted : (header : Header) → header.config.tick < 2 ^ 32 → kernel_view (first_parts header) ≡ unstarted (first_lists header) header
unfolding unstarted first_lists
seen_unstarted header low =
    let cut : header.config.tick ≡ header.config.tick % 2 ^ 32 = omega (arith, low) in
    ap (λ tick. kernel_view (record (first_parts header) { delays = no_delays tick (header.config.cores + length header.tasks) })) cut

pub first_kernel_shape : (header : Header) → header_check header ≡ Ok tt → IsKernelShape (first_parts header)
unfolding unstarted
first_kernel_shape header passes = let tasks = header.config.cores + length header.tasks in record {
  priorities = refl;
  slicing = refl;
  few_cores = (checked_header header passes).few_cores;
  some_priority = (checked_header header passes).some_priority;
  cores = length-map (numbers header.config.cores) first_look ∙ length-range_with_len 0 header.config.cores;
  controls = first_tasks header;
  calls = length-replicate tasks None;
  note_tasks = refl;
  note_entries = refl;
  some_note = (checked_header header passes).some_note;
  mutexes = refl;
  mutex_priorities = refl;
  holders = length-replicate header.config.mutexes None;
  lists = refl;
  few_lists = omega (arith, few_event_lists header passes);
  queues = queues_length header.queues;
  delays = refl;
  deadlines = length-replicate tasks None;
  values = first_values_length header;
  undelayed = λ task found. refl;
  unqueued = λ task found. refl;
}

pub start_settings : (header : Header) → (start_seen header).settings ≡ settings_of header
start_settings header = ap (λ (view : View). view.settings) (sym (in_turn_all header)) ∙ in_turn_settings header header.config.cores
