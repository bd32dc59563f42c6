use Rattle.std.proofs.Common.{◌≡◌, ◌++◌, ℕ, List, length, drop}
use Rattle.kept_runs.specs.Clocks.{Clocks}
use Rattle.kept_runs.specs.Works.{works_from}
use Rattle.keeping.specs.Works.{clock_at}
use Rattle.kept_works.specs.Works.{placed_by}
use Rattle.kept_works.proofs.works.push_calls.Given as goal

abbrev pub invariant-loop-index : goal.invariant-loop-index
invariant-loop-index l = record {
  many : length l.last ≡ length l.fn.last;
  works :
      (ends : Clocks) (tasks : List ℕ)
      → l.fn.unmade.items ++ works_from ends (clock_at l.fn.last) tasks (placed_by l.clocks l.items)
      ≡ l.unmade.items ++ works_from ends (clock_at l.last) tasks (placed_by (drop l.index l.clocks) (drop l.index l.items));
}
