-- A switch of a due core leaves the due cores less weight, and all else of the work as it was.
use Rattle.std.proofs.Common.{◌≡◌, ℕ, suc, ◌+◌, ◌<◌, ◌≤◌, ◌≢◌, Bool, true, false, cond, not, eqb, ltb, ◌&&◌, ◌||◌, length, Option, Some, None, refl, sym, ap}
use Rattle.std.proofs.Common.{subst, ◌∙◌, inl, inr, arith}
use Rattle.std.specs.Prelude.{is_some, is_none, unwrap_or, slice_index_or}
use Rattle.std.specs.List.{sum_by}
use Rattle.std.specs.Option.{option_map_or}
use Rattle.std.proofs.lemmas.Bool.{cases_eq, and_parts}
use Rattle.std.proofs.lemmas.Bool.Decides.{nat_tests}
use Rattle.bench_types.specs.declared.kernel_data.CoreLook.{CoreLook}
use Rattle.bench_types.specs.declared.reply.Refusal.{Refusal}
use Rattle.bench_types.specs.declared.reply.Refusal.TheVariants.{Held, NotDue}
use Rattle.bench_types.specs.declared.reply.Reply.{Reply}
use Rattle.bench_types.specs.declared.reply.Reply.TheVariants.{Refused}
use Rattle.bench_types.specs.declared.step.Step.{Step}
use Rattle.bench_types.specs.declared.step.Step.TheVariants.{Switch}
use Rattle.list_orders.specs.Search.{numbers}
use Rattle.bench_model.specs.declared.row.TaskState.TheVariants.{Ready}
use Rattle.bench_model.specs.Control.{Control, current, is_due, task_at, core_at, ask, asked_by, run_on}
use Rattle.bench_model.specs.Refusals.{refusal}
use Rattle.bench_model.specs.Seek.{effective, is_running, core_to_yield, seek, may_move, after_eviction, after_switch}
use Rattle.bench_model.specs.Session.{step_of}
use Rattle.bench_model.specs.Sound.{IsSound}
use Rattle.bench_model.specs.State.{selected, queued, after_select}
use Rattle.bench_model.specs.Steps.{performed, after}
use Rattle.bench_model.specs.Table.{Stamps, Table, stamp_queues, is_ready, add_to_ready_list, stands_ready}
use Rattle.order_laws.specs.AskedCores.{IsAnswer}
use Rattle.order_laws.proofs.AskedCores.{best_core}
use Rattle.order_laws.proofs.SoundMutexes.{standing_same, standing_other}
use Rattle.order_laws.proofs.SoundSteps.{asked_is_due, asked_more, look_same, look_other, cores_length}
use Rattle.settled_runs.specs.Settled.{is_open}
use Rattle.settled_runs.specs.Work.{weight_at}
use Rattle.settled_runs.proofs.Sums.{one_sum}

-- a step that is not refused is performed
pub step_open : (table : Table) (step : Step) → is_open table step ≡ true → step_of step table ≡ performed stamp_queues step table
unfolding after is_open
step_open table step free = at (refusal stamp_queues step table) free
  where
    at : (o : Option Refusal) → is_none o ≡ true
        → option_map_or {U = Reply × Table} (λ why. (Refused why, table)) o (performed stamp_queues step table) ≡ performed stamp_queues step table
    at None none = refl
    at (Some why) none = absurd (cc (none))

pub none_refused : (table : Table) (step : Step) → is_open table step ≡ true → refusal stamp_queues step table ≡ None
unfolding is_open
none_refused table step free = at (refusal stamp_queues step table) free
  where
    at : (o : Option Refusal) → is_none o ≡ true → o ≡ None
    at None none = refl
    at (Some why) none = absurd (cc (none))

pub switch_due : (table : Table) (core : ℕ) → is_open table (Switch core) ≡ true → is_due table.control core ≡ true
unfolding is_open refusal
switch_due table core free = at (is_some table.hold) (is_due table.control core) free
  where
    at : (held due : Bool) → is_none (cond held (Some Held) (cond due None (Some NotDue))) ≡ true → due ≡ true
    at true due none = absurd (cc (none))
    at false true none = refl
    at false false none = absurd (cc (none))

-- a ready task at the end of its list is ready, and so are the others that were
pub ready_again : (stamps : Stamps) (task : ℕ) → task < length stamps.rows → is_ready task stamps ≡ true → (i : ℕ)
    → is_ready i (add_to_ready_list task stamps) ≡ is_ready i stamps
unfolding add_to_ready_list
ready_again stamps task below ready i = elim (cases_eq i task) [
  | inl here ↦
      subst (λ i. is_ready i (add_to_ready_list task stamps) ≡ is_ready i stamps) (sym here)
      (ap stands_ready (standing_same stamps task Ready below) ∙ sym ready)
  | inr away ↦ ap stands_ready (standing_other stamps task Ready below i away)
]

-- ---- weights

-- where as many cores and the same control blocks are, the tasks stand alike
same_standing : (control other : Control) → length other.cores ≡ length control.cores → other.tasks ≡ control.tasks → (task : ℕ)
    → effective other task ≡ effective control task
same_standing control other cores tasks task =
    λ i. cond (ltb task (cores i)) 0 (suc (slice_index_or (tasks i) task (record { base = 0; in_use = 0; mask = 0; preempt = false })).in_use)

same_weight : (control other : Control) (core : ℕ) → length other.cores ≡ length control.cores → other.tasks ≡ control.tasks
    → core_at other core ≡ core_at control core → weight_at other core ≡ weight_at control core
same_weight control other core cores tasks look =
    ap (λ (look : CoreLook). cond (look.pend || look.asked) (suc (effective other look.current)) 0) look
    ∙ ap (λ standing. cond (is_due control core) (suc standing) 0) (same_standing control other cores tasks (current control core))

weight_due : (control : Control) (core : ℕ) (due : Bool) → is_due control core ≡ due
    → weight_at control core ≡ cond due (suc (effective control (current control core))) 0
weight_due control core due is = ap (λ due. cond due (suc (effective control (current control core))) 0) is

abbrev pub weight : Control → ℕ → ℕ
weight control cores = sum_by (weight_at control) (numbers cores)

-- a core that runs a task is due no more
module _ (control : Control) (core task cores : ℕ) (below : core < length control.cores) (size : length control.cores ≡ cores) where
  run_cores : length (run_on core task control).cores ≡ length control.cores
  run_cores = cores_length control core (record { current = task; pend = false; asked = false })

  run_weight : is_due control core ≡ true → weight (run_on core task control) cores + suc (effective control (current control core)) ≡ weight control cores
  run_weight due =
      let look : CoreLook = record { current = task; pend = false; asked = false } in
      let here : weight_at (run_on core task control) core ≡ 0 =
      weight_due (run_on core task control) core false (ap (λ (look : CoreLook). look.pend || look.asked) (look_same control core look below)) in
      let was = weight_due control core true due in
      let others = λ (i : ℕ) (away : i ≢ core). sym (same_weight control (run_on core task control) i run_cores refl (look_other control core look i away)) in
      let sums = one_sum (weight_at control) (weight_at (run_on core task control)) core cores (omega (arith, below, size)) others in
      omega (arith, here, was, sums)

-- a core that is asked weighs as its task stands
ask_weight : (control : Control) (acting core cores : ℕ) → core < length control.cores → length control.cores ≡ cores → is_due control core ≡ false
    → weight (ask acting core control) cores ≡ weight control cores + suc (effective control (current control core))
ask_weight control acting core cores below size settled =
    let other = ask acting core control in
    let more = asked_more control acting core below in
    let asked = asked_by acting core (core_at control core) in
    let due : is_due other core ≡ true = ap (λ (look : CoreLook). look.pend || look.asked) (look_same control core asked below)
    ∙ asked_is_due acting core (core_at control core) in
    let stands = ap (effective other) (more.currents core) ∙ same_standing control other more.cores more.tasks (current control core) in
    let here = weight_due other core true due ∙ ap suc stands in
    let was = weight_due control core false settled in
    let others = λ (i : ℕ) (away : i ≢ core). sym (same_weight control other i more.cores more.tasks (look_other control core asked i away)) in
    let sums = one_sum (weight_at control) (weight_at other) core cores (omega (arith, below, size)) others in
    omega (arith, here, was, sums)

-- seeking a core for a task adds less than what a core weighs that the task had
seek_weight : (control : Control) (acting task cores : ℕ) (among : ℕ → Bool) → length control.cores ≡ cores
    → weight (seek acting task among control) cores ≤ weight control cores + effective control task
unfolding seek
seek_weight control acting task cores among size = at (is_running control task) (core_to_yield control task among) (best_core control task among)
  where
    asked : (core : ℕ) → IsAnswer control task among (Some core) → weight (ask acting core control) cores ≤ weight control cores + effective control task
    asked core answer =
        let gives = answer.0.2 in
        let both =
        and_parts (not (is_due control core) && (task_at control (current control core)).preempt)
        (ltb (effective control (current control core)) (effective control task)) gives in
        let settled = (and_parts (not (is_due control core)) (task_at control (current control core)).preempt both.0).0 in
        let lower : effective control (current control core) < effective control task = grind (arith, nat_tests, both.1) in
        let free : is_due control core ≡ false = not_true (is_due control core) settled in
        let more = ask_weight control acting core cores answer.0.0 size free in
        omega (arith, more, lower)
      where
        not_true : (b : Bool) → not b ≡ true → b ≡ false
        not_true true is = absurd (cc (is))
        not_true false is = refl

    at : (b : Bool) (o : Option ℕ) → IsAnswer control task among o
        → weight (cond b control (option_map_or (λ core. ask acting core control) o control)) cores ≤ weight control cores + effective control task
    at true o answer = omega arith
    at false None answer = omega arith
    at false (Some core) answer = asked core answer

-- ---- a switch

module _ (table : Table) (core : ℕ) (sound : IsSound table) (below : core < table.settings.cores) where
  low : core < length table.control.cores
  low = omega (arith, sound.consistent.sized.cores, below)

  loser : ℕ
  loser = current table.control core

  -- who is ready stays so
  queued_ready : (i : ℕ) → is_ready i (queued stamp_queues core table) ≡ is_ready i table.orders
  queued_ready i = at (is_ready (current table.control core) table.orders) refl
    where
      at : (b : Bool) → is_ready (current table.control core) table.orders ≡ b
          → is_ready i (cond b (add_to_ready_list (current table.control core) table.orders) table.orders) ≡ is_ready i table.orders
      at true ready = ready_again table.orders (current table.control core) (sound.consistent.in_place.is_task core low) ready i
      at false waits = refl

  select_ready : (i : ℕ) → is_ready i (after_select stamp_queues core table).orders ≡ is_ready i table.orders
  unfolding after_select
  select_ready i = queued_ready i

  select_calls : (after_select stamp_queues core table).calls ≡ table.calls
  unfolding after_select
  select_calls = refl

  -- the seek after it changes cores alone
  evicted_orders : (task : ℕ) (next : Table) → ((after_eviction stamp_queues core task next).orders ≡ next.orders)
      × ((after_eviction stamp_queues core task next).calls ≡ next.calls)
  unfolding after_eviction
  evicted_orders task next = at (not (eqb (current next.control core) task) && is_ready task next.orders)
    where
      at : (b : Bool)
          → ((cond b (record next { control = seek core task (may_move next.control task (current next.control core) core) next.control }) next).orders ≡
          next.orders)
          × ((cond b (record next { control = seek core task (may_move next.control task (current next.control core) core) next.control }) next).calls ≡
          next.calls)
      at true = (refl, refl)
      at false = (refl, refl)

  evicted_weight : (task cores : ℕ) (next : Table) → length next.control.cores ≡ cores
      → weight (after_eviction stamp_queues core task next).control cores ≤ weight next.control cores + effective next.control task
  unfolding after_eviction
  evicted_weight task cores next size = at (not (eqb (current next.control core) task) && is_ready task next.orders)
    where
      at : (b : Bool)
          → weight (cond b (record next { control = seek core task (may_move next.control task (current next.control core) core) next.control }) next).control
          cores ≤ weight next.control cores + effective next.control task
      at true = seek_weight next.control core task cores (may_move next.control task (current next.control core) core) size
      at false = omega arith

  pub switched_ready : (i : ℕ) → is_ready i (after_switch stamp_queues core table).orders ≡ is_ready i table.orders
  unfolding after_switch
  switched_ready i = ap (is_ready i) (evicted_orders (current table.control core) (after_select stamp_queues core table)).0 ∙ select_ready i

  pub switched_calls : (after_switch stamp_queues core table).calls ≡ table.calls
  unfolding after_switch
  switched_calls = (evicted_orders (current table.control core) (after_select stamp_queues core table)).1 ∙ select_calls

  pub switched_weight : is_due table.control core ≡ true
      → weight (after_switch stamp_queues core table).control table.settings.cores < weight table.control table.settings.cores
  unfolding after_switch after_select
  switched_weight due =
      let task = current table.control core in
      let winner = unwrap_or (selected stamp_queues core table) task in
      let next = run_on core winner table.control in
      let cores = table.settings.cores in
      let size : length table.control.cores ≡ cores = sound.consistent.sized.cores in
      let count = run_cores table.control core winner cores low size in
      let first = run_weight table.control core winner cores low size due in
      let second = evicted_weight task cores (after_select stamp_queues core table) (count ∙ size) in
      let stands = same_standing table.control next count refl task in
      omega (arith, first, second, stands)
