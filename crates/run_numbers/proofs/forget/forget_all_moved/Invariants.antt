use Rattle.std.proofs.Common.{◌≡◌, ℕ, ◌<◌, ◌≤◌, ◌==◌}
use Rattle.std.specs.Prelude.{slice_index}
use Rattle.bench_model.specs.Control.{current}
use Rattle.run_numbers.specs.declared.look.Look.{Look}
use Rattle.run_numbers.specs.Looks.{IsKnown}
use Rattle.run_numbers.proofs.forget.forget_all_moved.Given as goal

abbrev pub invariant-loop-core : goal.invariant-loop-core
invariant-loop-core l = record {
  seen : (core : ℕ) → core < l.core → slice_index l.row core ≡ current l.after.control core;
  unseen : (core : ℕ) → l.core ≤ core → slice_index l.row core ≡ slice_index l.fn.row core;
  known : (task : ℕ) (look : Look) → IsKnown l.looks task look → IsKnown l.fn.looks task look
      × ((core : ℕ) → core < l.core → (slice_index l.fn.row core == task) ≡ (current l.after.control core == task));
}
