use Rattle.std.proofs.Common.{◌≡◌, ◌<◌, ℕ, length, not, true, false}
use Rattle.bench_model.specs.Control.{is_due}
use Rattle.ready_core.specs.Fields.{is_set}
use Rattle.ready_core.proofs.Slices.{sliced_where}
use Rattle.ready_core.proofs.cores.Cores.slice.Given as goal

-- of the cores that are not left, those whose task shares its time were asked; none that is left is due
abbrev pub invariant-loop-rest : goal.invariant-loop-rest
invariant-loop-rest l = record {
  so_far : l.self ≡ sliced_where (λ core. not (is_set l.rest core)) l.initial.self;
  left : (core : ℕ) → is_set l.rest core ≡ true → (core < length l.initial.self.control.cores) × (is_due l.initial.self.control core ≡ false);
}

abbrev pub decreases-loop-rest : goal.decreases-loop-rest
decreases-loop-rest l = l.rest
