-- The worked sessions and the equal tables, computed on the definitions.
use Rattle.std.proofs.Common.{◌≡◌, ℕ, ◌+◌, ◌-◌, ◌*◌, ◌<◌, ◌^◌, Option, Some, None, refl, sym, ap, true≢false, ◌∙◌, arith}
use Rattle.std.specs.Prelude.{option_map}
use Rattle.std.proofs.Math.ListN.{get_or-map}
use Rattle.bench_model.specs.declared.row.TaskState.{TaskState}
use Rattle.bench_model.specs.declared.row.TaskState.TheVariants.{Ready, Blocked}
use Rattle.bench_model.specs.declared.row.TaskRow.{TaskRow}
use Rattle.bench_model.specs.Alike.{SamePairwise, InOneReadyList, AreDelayedTogether, SameOrder}
use Rattle.list_orders.specs.Search.{best, by_stamp, placed, ranked}
use Rattle.bench_model.specs.Control.{runs_on}
use Rattle.bench_model.specs.Refusals.{refusal}
use Rattle.bench_model.specs.State.{after_select, yielded, blocked}
use Rattle.bench_model.specs.Notifying.{completed}
use Rattle.bench_model.specs.Steps.{ticked, called, performed, after, after_finish}
use Rattle.bench_model.specs.Seek.{core_to_yield, seek, wake, after_eviction, after_switch, sliced}
use Rattle.bench_model.specs.Table.{Table, row_at, stamp_of, stands_ready, wake_in, deadline_at, deadline_left, pick, add_to_ready_list, delay}
use Rattle.bench_model.specs.Table.{advance, due, forget_deadline, set_list_value}
use Rattle.bench_model.specs.Lists.{View, lists_of}
use Rattle.bench_model.specs.Start.{first_stamps, unstarted, started}
use Rattle.bench_model.specs.Session.{state_at, reply_at}
use Rattle.worked_examples.specs.Examples.{WorkedSessions, TimedSessions, EndlessWaits, EqualTables, AlikeTables, later, row_later, wake_later}

-- whoever names this computes with all of the definitions
unfoldable pub computed : ℕ
unfolding best by_stamp placed ranked completed after_finish runs_on core_to_yield seek wake after_eviction after_switch sliced forget_deadline refusal
    set_list_value
    after_select ticked yielded blocked called performed after pick add_to_ready_list delay advance due lists_of first_stamps unstarted started state_at
    reply_at
computed = 0

pub sessions : WorkedSessions
unfolding computed
sessions = record { starts = refl; first_run = refl; not_due = refl; starts_alone = refl; alone = refl; finishes = refl }

pub timed_sessions : TimedSessions
unfolding computed
timed_sessions = record {
  starts = refl;
  starts_alone = refl;
  starts_raised = refl;
  idle_in_turn = refl;
  in_turn = refl;
  not_due = refl;
  sleeps = refl;
  wakes_on_other = refl;
}

pub endless_waits : EndlessWaits
unfolding computed
endless_waits = record { begins = refl; passed_over = (refl, refl); waits_on = refl; other_is_woken = refl }

pub tables : EqualTables
unfolding computed
tables = record { other_stamps = refl; other_order = λ same. cc (ap (λ (view : View). view.orders.ready) same) }

-- ---- tables that differ in stamps and absolute times alone

row_so : (table : Table) (i : ℕ) → row_at (later table).orders i ≡ row_later (row_at table.orders i)
row_so table i = get_or-map row_later table.orders.rows i (record { stamp = 0; standing = Ready })

stamp_so : (table : Table) (i : ℕ) → stamp_of (later table).orders i ≡ 2 * stamp_of table.orders i
stamp_so table i = ap (λ (r : TaskRow). r.stamp) (row_so table i)

ready_so : (standing : TaskState) → stands_ready standing ≡ stands_ready (wake_later standing)
ready_so Ready = refl
ready_so (Blocked wake) = refl

left_so : (tick : ℕ) (end : Option ℕ) → option_map (λ end. end - tick) end ≡ option_map (λ end. end - (tick + 2 ^ 32)) (option_map (λ end. end + 2 ^ 32) end)
left_so tick None = refl
left_so tick (Some end) =
    let same : end - tick ≡ (end + 2 ^ 32) - (tick + 2 ^ 32) = omega arith in
    ap Some same

wake_so : (tick : ℕ) (standing : TaskState) → option_map (λ wake. wake - tick) (wake_in standing) ≡ option_map (λ wake. wake - (tick + 2 ^ 32))
    (wake_in (wake_later standing))
wake_so tick Ready = refl
wake_so tick (Blocked wake) = left_so tick wake

came_so : (together : Table → ℕ → ℕ → Type 0) (table : Table) → SameOrder together table (later table)
came_so together table i j low below stand = (
  λ h. omega (arith, stamp_so table i, stamp_so table j, h),
  λ h. omega
      (arith, stamp_so table i, stamp_so table j, h),
)

alike_later : (table : Table) → SamePairwise table (later table)
unfolding deadline_left
alike_later table = let tick = table.orders.tick in record {
  settings = refl;
  control = refl;
  calls = refl;
  notes = refl;
  holders = refl;
  queues = refl;
  hold = refl;
  ticks = omega arith;
  ready = λ i low. ready_so (row_at table.orders i).standing ∙ sym (ap (λ (r : TaskRow). stands_ready r.standing) (row_so table i));
  left = λ i low. wake_so tick (row_at table.orders i).standing ∙ sym (ap (λ (r : TaskRow). option_map (λ wake. wake - (tick + 2 ^ 32)) (wake_in r.standing))
      (row_so table i));
  waits = λ i low. refl;
  values = refl;
  wait_order = λ list i j low below both. refl;
  deadlines = λ i low. left_so tick (deadline_at table.orders i) ∙ sym (ap (option_map (λ end. end - (tick + 2 ^ 32)))
      (get_or-map (option_map (λ end. end + 2 ^ 32)) table.orders.deadlines i None));
  ready_order = came_so InOneReadyList table;
  delay_order = came_so AreDelayedTogether table;
}

-- of two stamps the lesser is not the greater too
crossed : (m n : ℕ) → m < n → (m < n → n < m) → ⊥
crossed m n first other = omega (arith, first, other first)

pub alike_tables : AlikeTables
unfolding computed
alike_tables = record {
  other_stamps = alike_later;
  other_ready_order = λ alike. crossed 1 2 (omega arith) (alike.ready_order 3 4 (omega arith) (omega arith) (refl, refl, refl)).0;
  other_delay_order = λ alike. crossed 7 8 (omega arith) (alike.delay_order 3 4 (omega arith) (omega arith) (refl, refl)).0;
  other_queue_order = λ alike. true≢false (alike.wait_order 0 3 4 (omega arith) (omega arith) (refl, refl));
}
