-- The rules that seek no core: each of a table, seen as lists, is that of what was seen of the table before.
use Rattle.std.proofs.Common.{◌≡◌, ℕ, ◌<◌, Bool, true, false, cond, List, length, Option, Some, refl, sym, ap, ◌∙◌, arith}
use Rattle.std.specs.Prelude.{unwrap_or, slice_set}
use Rattle.std.specs.List.{AllByRecursion}
use Rattle.bench_types.specs.declared.step.Unfinished.{Unfinished}
use Rattle.bench_types.specs.declared.kernel_data.Hold.{Hold}
use Rattle.bench_types.specs.declared.kernel_data.EventWait.{EventWait}
use Rattle.bench_types.specs.declared.kernel_data.QueueLook.{QueueLook}
use Rattle.bench_types.specs.declared.kernel_data.Settings.{Settings}
use Rattle.bench_types.specs.declared.kernel_data.CoreLook.{CoreLook}
use Rattle.bench_types.specs.declared.note.Notification.{Notification}
use Rattle.bench_model.specs.declared.row.TaskState.TheVariants.{Ready}
use Rattle.list_orders.specs.Search.{numbers}
use Rattle.bench_model.specs.Control.{Control, current, run_on}
use Rattle.bench_model.specs.State.{State, after_select, yielded, blocked}
use Rattle.bench_model.specs.Table.{Stamps, Table, stamp_queues, wakes_at, is_ready, row_at, stamp_of, pick, add_to_ready_list, delay, advance, due}
use Rattle.bench_model.specs.Lists as seen
use Rattle.bench_model.specs.Lists.{Lists, list_queues, lists_of, view_of}
use Rattle.bench_model.specs.Sound.{IsStamped, WakesInTime}
use Rattle.list_orders.proofs.Stamped.{numbers_below, All-by_stamp}
use Rattle.order_laws.proofs.Restamps.{IsGiven, moved_length, moved_given, moved_once}
use Rattle.order_laws.proofs.SeenMoves.{is_ready_seen, pick_seen, add_to_ready_seen, delay_seen, advance_seen, due_seen, IsAhead, IsNotPast}

abbrev pub state_from : {Orders : Type 0} → Settings → Control → List (Option Unfinished) → List Notification → List (Option ℕ) → List QueueLook → Option Hold → Orders →
    State Orders
state_from settings control calls notes holders queues hold orders = record {
  settings = settings;
  control = control;
  calls = calls;
  notes = notes;
  holders = holders;
  queues = queues;
  hold = hold;
  orders = orders;
}

pub same_state : (settings : Settings) (control other : Control) (calls : List (Option Unfinished)) (notes : List Notification) (holders : List (Option ℕ))
    (queues : List QueueLook) (hold : Option Hold) (orders others : Lists) → control ≡ other → orders ≡ others →
    state_from settings control calls notes holders queues hold orders ≡ state_from settings other calls notes holders queues hold others
same_state settings control other calls notes holders queues hold orders others a b = cc

-- the orders do not read the cores
pub lists_of_cores : (control : Control) (cores : List CoreLook) (stamps : Stamps) → lists_of (record control { cores = cores }) stamps ≡ lists_of control
    stamps
unfolding lists_of
lists_of_cores control cores stamps = refl

-- the orders of a core's choice: its task goes to the end of its list where it is ready
abbrev pub queued : Stamps → ℕ → Stamps
queued stamps task = cond (is_ready task stamps) (add_to_ready_list task stamps) stamps

cond_seen : (control : Control) (b : Bool) (x y : Stamps) → lists_of control (cond b x y) ≡ cond b (lists_of control x) (lists_of control y)
cond_seen control true x y = refl
cond_seen control false x y = refl

cond_stamped : (b : Bool) (x y : Stamps) → IsStamped x → IsStamped y → IsStamped (cond b x y)
cond_stamped true x y one other = one
cond_stamped false x y one other = other

pub add_to_ready_once : (stamps : Stamps) (task : ℕ) → IsStamped stamps → task < length stamps.rows → IsStamped (add_to_ready_list task stamps)
unfolding add_to_ready_list
add_to_ready_once stamps task stamped below =
    let moved = moved_once stamps task Ready below stamped in
    record { given = moved.given; once = moved.once }

pub queued_once : (stamps : Stamps) (task : ℕ) → IsStamped stamps → task < length stamps.rows → IsStamped (queued stamps task)
queued_once stamps task stamped below = cond_stamped (is_ready task stamps) (add_to_ready_list task stamps) stamps (add_to_ready_once stamps task stamped below)
    stamped

abbrev seen_queue : Control → Stamps → ℕ → Lists
seen_queue control stamps task = cond (seen.is_ready task (lists_of control stamps)) (seen.add_to_ready_list control task (lists_of control stamps))
    (lists_of control stamps)

queued_seen : (control : Control) (stamps : Stamps) (task : ℕ) → IsGiven stamps → task < length stamps.rows → lists_of control (queued stamps task) ≡ cond
    (seen.is_ready task (lists_of control stamps)) (seen.add_to_ready_list control task (lists_of control stamps)) (lists_of control stamps)
queued_seen control stamps task given below =
    let moved = add_to_ready_seen control stamps task given below in
    let tested = is_ready_seen control stamps task given below in
    cond_seen control (is_ready task stamps) (add_to_ready_list task stamps) stamps ∙ cc (moved, tested)

pub after_select_seen : (core : ℕ) (table : Table) → IsStamped table.orders → current table.control core < length table.orders.rows → view_of
    (after_select stamp_queues core table) ≡ after_select list_queues core (view_of table)
unfolding after_select
after_select_seen core table stamped below =
    let left = current table.control core in
    let orders = queued table.orders left in
    let lists = queued_seen table.control table.orders left stamped.given below in
    let picked = pick_seen table.control core orders (queued_once table.orders left stamped below) in
    let chosen = ap (λ l. seen.pick table.control core l) lists in
    same_state table.settings (run_on core (unwrap_or (pick table.control core orders) left) table.control)
    (run_on core (unwrap_or (seen.pick table.control core (seen_queue table.control table.orders left)) left) table.control) table.calls table.notes
    table.holders table.queues table.hold _ _
    (ap (λ o. run_on core (unwrap_or o left) table.control) (sym picked ∙ chosen))
    (lists_of_cores table.control _ orders ∙ lists)

pub add_to_ready_given : (stamps : Stamps) (task : ℕ) → IsGiven stamps → task < length stamps.rows → IsGiven (add_to_ready_list task stamps)
unfolding add_to_ready_list
add_to_ready_given stamps task given below = moved_given stamps task Ready below given

pub add_to_ready_length : (stamps : Stamps) (task : ℕ) → task < length stamps.rows → length (add_to_ready_list task stamps).rows ≡ length stamps.rows
unfolding add_to_ready_list
add_to_ready_length stamps task below = moved_length stamps task Ready below

pub advanced_given : (stamps : Stamps) → IsGiven stamps → IsGiven (advance stamps)
unfolding advance
advanced_given stamps given = given

pub in_time_ahead : (stamps : Stamps) → WakesInTime stamps → IsAhead stamps
in_time_ahead stamps in_time i wake low waits = (in_time i wake low waits).0

pub advanced_near : (stamps : Stamps) → WakesInTime stamps → IsNotPast (advance stamps)
unfolding advance
advanced_near stamps in_time i wake low waits = omega (arith, (in_time i wake low waits).0)

pub due_below : (stamps : Stamps) → AllByRecursion (λ task. task < length stamps.rows) (due stamps)
unfolding due
due_below stamps = All-by_stamp (stamp_of stamps) (λ task. wakes_at stamps.tick (row_at stamps task).standing) (numbers (length stamps.rows))
    (λ task. task < length stamps.rows) stamps.next (numbers_below (length stamps.rows))

pub yielded_seen : (core : ℕ) (table : Table) → view_of (yielded stamp_queues core table) ≡ yielded list_queues core (view_of table)
unfolding yielded
yielded_seen core table = same_state table.settings _ _ table.calls table.notes table.holders table.queues table.hold _ _ refl (lists_of_cores table.control _ table.orders)

pub blocked_seen : (core task : ℕ) (call : Unfinished) (ticks : Option ℕ) (wait : Option EventWait) (table : Table) → IsGiven table.orders → task < length
    table.orders.rows → is_ready task table.orders ≡ true → view_of (blocked stamp_queues core task call ticks wait table) ≡ blocked list_queues core task call
    ticks wait (view_of table)
unfolding blocked
blocked_seen core task call ticks wait table given below ready =
    same_state table.settings _ _ (slice_set table.calls task (Some call)) table.notes table.holders table.queues table.hold _ _ refl
    (lists_of_cores table.control _ (delay task ticks wait table.orders) ∙ delay_seen table.control table.orders task ticks wait given below ready)

-- one tick more, and the tasks whose wake it is
pub advance_seen_lem : (control : Control) (stamps : Stamps) → WakesInTime stamps → (lists_of control (advance stamps) ≡ seen.advance (lists_of control stamps))
    × (seen.due (lists_of control (advance stamps)) ≡ due (advance stamps))
advance_seen_lem control stamps in_time = (
  advance_seen control stamps (in_time_ahead stamps in_time),
  due_seen control (advance stamps)
      (advanced_near stamps in_time),
)
