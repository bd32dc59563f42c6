use Rattle.std.proofs.Common.{◌≡◌, drop}
use Rattle.std.specs.Prelude.{find}
use Rattle.core_loads.specs.Loads.{is_load}
use Rattle.core_loads.proofs.loads.figure_of.Given as goal

abbrev pub invariant-loop-figure : goal.invariant-loop-figure
invariant-loop-figure l =
    find (is_load l.load) l.figures ≡ find (is_load l.load) (drop l.figure-index l.figures)
