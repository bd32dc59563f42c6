-- Equality but for the tick counts is equality pair by pair but for them: one table is moved in time until the tick counts agree.
use Rattle.std.proofs.Common.{◌≡◌, ℕ, ◌+◌, ◌-◌, ◌<◌, ◌%◌, ◌^◌, Bool, true, Option, sym, ap, subst, ◌∙◌, arith}
use Rattle.std.specs.Prelude.{◌↔◌, option_map, IsSome}
use Rattle.bench_model.specs.Alike.{SamePairwise, CameBefore}
use Rattle.bench_model.specs.Control.{Control, task_at}
use Rattle.bench_model.specs.Equal.{Same}
use Rattle.bench_model.specs.Lists.{view_of}
use Rattle.bench_model.specs.Looks.{ticks_left}
use Rattle.bench_model.specs.Shifted.{SameShifted, shift_between}
use Rattle.bench_model.specs.Sound.{IsConsistent}
use Rattle.bench_model.specs.Table.{Table, row_at, stamp_of, is_ready, wake_in, deadline_left, deadline_at}
use Rattle.session_laws.proofs.Alike.{same_from_alike, alike_from_same}
use Rattle.shift_laws.specs.Later.{later}
use Rattle.shift_laws.specs.Shifts.{SamePairwiseShifted}
use Rattle.shift_laws.proofs.LaterTables.{consistent_later, deadline_at_later, deadline_later, is_ready_later, later_shifted, stamp_later, stands_later}
use Rattle.shift_laws.proofs.LaterTables.{wake_later}
use Rattle.shift_laws.proofs.Steps.{same_from_shifted, shifted_from_same}

-- all that is compared of single tasks, and by what their order is told
record TasksSeen : Type 0 where
  ready : ℕ → Bool
  left : ℕ → Option ℕ
  deadline : ℕ → Option ℕ
  stamp : ℕ → ℕ

abbrev tasks_seen : Table → TasksSeen
tasks_seen table = record {
  ready = λ i. is_ready i table.orders;
  left = λ i. ticks_left i table.orders;
  deadline = λ i. deadline_left i table.orders;
  stamp = stamp_of table.orders;
}

seen_later : (by : ℕ) (table : Table) → tasks_seen (later by table) ≡ tasks_seen table
unfolding later deadline_left
seen_later by table =
    let stamps = table.orders in
    let left = option_map (λ end. end - (stamps.tick + by)) in
    let wake = λ (i : ℕ). ap wake_in (stands_later by stamps i) ∙ wake_later by (row_at stamps i).standing in
    λ k. record {
      ready = λ i. is_ready_later by stamps i k;
      left = λ i. (ap left (wake i) ∙ deadline_later by stamps.tick (wake_in (row_at stamps i).standing)) k;
      deadline = λ i. (ap left (deadline_at_later by stamps i) ∙ deadline_later by stamps.tick (deadline_at stamps i)) k;
      stamp = λ i. stamp_later by stamps i k;
    }

-- tasks so seen are alike those of the table, pair by pair
record AreAlike (tasks : ℕ) (control : Control) (one : TasksSeen) (b : Table) : Type 0 where
  ready : (i : ℕ) → i < tasks → one.ready i ≡ is_ready i b.orders
  left : (i : ℕ) → i < tasks → one.left i ≡ ticks_left i b.orders
  deadlines : (i : ℕ) → i < tasks → one.deadline i ≡ deadline_left i b.orders
  ready_order :
      (i j : ℕ) → i < tasks → j < tasks → (one.ready i ≡ true) × (one.ready j ≡ true) × ((task_at control i).in_use ≡ (task_at control j).in_use)
      → ((one.stamp i < one.stamp j) ↔ CameBefore b i j)
  delay_order : (i j : ℕ) → i < tasks → j < tasks → IsSome (one.left i) × (one.left i ≡ one.left j) → ((one.stamp i < one.stamp j) ↔ CameBefore b i j)

-- a table that is moved in time is alike another just where the table is, but for the tick counts
to_pairs : (by : ℕ) (a b : Table) → SamePairwise (later by a) b → SamePairwiseShifted a b
unfolding later
to_pairs by a b alike =
    let moved : AreAlike a.settings.tasks a.control (tasks_seen (later by a)) b = record {
      ready = alike.ready;
      left = alike.left;
      deadlines = alike.deadlines;
      ready_order = alike.ready_order;
      delay_order = alike.delay_order;
    } in
    let tasks = subst (λ seen. AreAlike a.settings.tasks a.control seen b) (seen_later by a) moved in
    record {
      settings = alike.settings;
      control = alike.control;
      calls = alike.calls;
      notes = alike.notes;
      holders = alike.holders;
      queues = alike.queues;
      hold = alike.hold;
      ready = tasks.ready;
      left = tasks.left;
      waits = alike.waits;
      values = alike.values;
      wait_order = alike.wait_order;
      deadlines = tasks.deadlines;
      ready_order = tasks.ready_order;
      delay_order = tasks.delay_order;
    }

from_pairs : (by : ℕ) (a b : Table) → (a.orders.tick + by) % 2 ^ 32 ≡ b.orders.tick % 2 ^ 32 → SamePairwiseShifted a b → SamePairwise (later by a) b
unfolding later
from_pairs by a b ticks alike =
    let there : AreAlike a.settings.tasks a.control (tasks_seen a) b = record {
      ready = alike.ready;
      left = alike.left;
      deadlines = alike.deadlines;
      ready_order = alike.ready_order;
      delay_order = alike.delay_order;
    } in
    let tasks = subst (λ seen. AreAlike a.settings.tasks a.control seen b) (sym (seen_later by a)) there in
    record {
      settings = alike.settings;
      control = alike.control;
      calls = alike.calls;
      notes = alike.notes;
      holders = alike.holders;
      queues = alike.queues;
      hold = alike.hold;
      ticks = ticks;
      ready = tasks.ready;
      left = tasks.left;
      waits = alike.waits;
      values = alike.values;
      wait_order = alike.wait_order;
      deadlines = tasks.deadlines;
      ready_order = tasks.ready_order;
      delay_order = tasks.delay_order;
    }

-- the ticks between two tables lead from one to the other
between : (a b : Table) → (a.orders.tick + shift_between (a.orders.tick % 2 ^ 32) (b.orders.tick % 2 ^ 32)) % 2 ^ 32 ≡ b.orders.tick % 2 ^ 32
between a b = omega arith

pub pairs_from_shifted : (a b : Table) → IsConsistent a → IsConsistent b → SameShifted a b → SamePairwiseShifted a b
pairs_from_shifted a b first second same =
    let by = shift_between (view_of a).orders.tick (view_of b).orders.tick in
    to_pairs by a b (alike_from_same (later by a) b (consistent_later by a first) second (later_shifted by a ∙ sym (shifted_from_same a b same)))

pub shifted_from_pairs : (a b : Table) → IsConsistent a → IsConsistent b → SamePairwiseShifted a b → SameShifted a b
shifted_from_pairs a b first second alike =
    let by = shift_between (a.orders.tick % 2 ^ 32) (b.orders.tick % 2 ^ 32) in
    let same : Same (later by a) b = same_from_alike (later by a) b (consistent_later by a first) second (from_pairs by a b (between a b) alike) in
    same_from_shifted by a b (sym same ∙ later_shifted by a)
