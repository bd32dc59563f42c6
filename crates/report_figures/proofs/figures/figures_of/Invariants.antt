use Rattle.std.proofs.Common.{◌≡◌, take, flat_map}
use Rattle.report_figures.specs.Figures.{figures_in}
use Rattle.report_figures.proofs.figures.figures_of.Given as goal

abbrev pub invariant-loop-one : goal.invariant-loop-one
invariant-loop-one l = l.figures.items ≡ flat_map figures_in (take l.one-index l.measured)
