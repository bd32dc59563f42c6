-- A changed control block: what the others are, and the order of the other ready tasks.
use Rattle.std.proofs.Common.{◌≡◌, ◌≢◌, ℕ, ◌<◌, true, false, not, eqb, List, length, get_or, sym, ap, ◌∙◌, arith}
use Rattle.std.proofs.Math.ListN.{get_or-map}
use Rattle.std.proofs.Math.Path.{fun_ext}
use Rattle.std.proofs.Math.Seq.{map-set_same}
use Rattle.std.proofs.lemmas.Bool.Decides.{nat_tests}
use Rattle.std.proofs.lemmas.List.{get_or-set_same, get_or-set_other}
use Rattle.bench_types.specs.declared.kernel_data.TaskControl.{TaskControl}
use Rattle.list_orders.specs.Search.{ranked, without}
use Rattle.bench_model.specs.Control.{Control, task_at}
use Rattle.bench_model.specs.ControlFields.{with_task}
use Rattle.bench_model.specs.Lists.{outranks}
use Rattle.list_orders.proofs.Filters.{All-filter_passes}
use Rattle.list_orders.proofs.Ranks.{filter-ranked}
use Rattle.bench_model.proofs.Ranks.{outranks-IsRank}
use Rattle.list_orders.proofs.Ranks.{ranked_agrees}

abbrev no_task : TaskControl
no_task = record { base = 0; in_use = 0; mask = 0; preempt = false }

module _ (control : Control) (task : ℕ) (block : TaskControl) where
  pub block_same : task < length control.tasks → task_at (with_task task block control) task ≡ block
  block_same below = get_or-set_same control.tasks task block no_task below

  pub block_other : (i : ℕ) → i ≢ task → task_at (with_task task block control) i ≡ task_at control i
  block_other i away = get_or-set_other control.tasks task i block no_task away

  pub in_use_kept : block.in_use ≡ (task_at control task).in_use → (i : ℕ) → (task_at (with_task task block control) i).in_use ≡ (task_at control i).in_use
  in_use_kept kept i =
      let in_use = λ (t : TaskControl). t.in_use in
      sym (get_or-map in_use (with_task task block control).tasks i no_task) ∙ ap (λ numbers. get_or numbers i 0)
      (map-set_same in_use control.tasks task block no_task kept) ∙ get_or-map in_use control.tasks i no_task

  pub outranks_kept : block.in_use ≡ (task_at control task).in_use → outranks (with_task task block control) ≡ outranks control
  outranks_kept kept = fun_ext (λ i. fun_ext (λ j. cc (in_use_kept kept i, in_use_kept kept j)))

  -- the ready tasks without the changed one stand as they did
  pub others_stay : (queue : List ℕ) → without task (ranked (outranks (with_task task block control)) queue) ≡ without task (ranked (outranks control) queue)
  others_stay queue =
      let other = λ (i : ℕ). not (eqb i task) in
      let changed = with_task task block control in
      filter-ranked (outranks changed) (outranks-IsRank changed) other queue
      ∙ ranked_agrees (outranks control) (outranks changed) (λ i. other i ≡ true)
      (λ i j h k. cc (ap in_use (block_other i (away i h)), ap in_use (block_other j (away j k)))) (without task queue) (All-filter_passes other queue)
      ∙ sym (filter-ranked (outranks control) (outranks-IsRank control) other queue)
    where
      in_use : TaskControl → ℕ
      in_use block = block.in_use

      away : (i : ℕ) → not (eqb i task) ≡ true → i ≢ task
      away i h same = grind (arith, nat_tests, h, same)
