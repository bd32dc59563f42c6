-- Worked changes of a control block.
use Rattle.std.specs.Prelude.{◌≡◌, ℕ, List, [], ◌∷◌}
use Rattle.bench_model.specs.Control.{task_at}
use Rattle.bench_model.specs.Table.{stamp_queues}
use Rattle.bench_model.specs.ControlFields.{with_base, with_affinity, in_use_set}
use Rattle.bench_model.specs.Start.{start}
use Rattle.worked_examples.specs.Examples.{three_tasks, waiting}
use Rattle.rule_laws.specs.CoresLaws.{cores_seen}

-- the ready tasks after setting a priority in use, in the start of tasks 2, 3 and 4 with priorities
-- 2, 1 and 1
abbrev pub ready_after : ℕ → ℕ → List ℕ
ready_after task priority =
    (cores_seen (in_use_set stamp_queues task priority (start three_tasks))).ready

pub record WorkedChanges : Type 0 where
  pub before : (cores_seen (start three_tasks)).ready ≡ 2 ∷ 3 ∷ 4 ∷ 0 ∷ 1 ∷ []
  pub same_priority : ready_after 3 1 ≡ 2 ∷ 4 ∷ 3 ∷ 0 ∷ 1 ∷ []
  pub raised : ready_after 3 2 ≡ 2 ∷ 3 ∷ 4 ∷ 0 ∷ 1 ∷ []
  pub lowered : ready_after 2 1 ≡ 3 ∷ 4 ∷ 2 ∷ 0 ∷ 1 ∷ []
  pub lowest : ready_after 2 0 ≡ 3 ∷ 4 ∷ 0 ∷ 1 ∷ 2 ∷ []
  pub blocked_stays :
      (cores_seen (in_use_set stamp_queues 2 1 waiting)).ready ≡ (cores_seen waiting).ready
  pub cut_mask : (task_at (with_affinity 3 6 (start three_tasks).control) 3).mask ≡ 2
  pub base_alone :
      (task_at (with_base 3 4 (start three_tasks).control) 3)
      ≡ record (task_at (start three_tasks).control 3) { base = 4 }
