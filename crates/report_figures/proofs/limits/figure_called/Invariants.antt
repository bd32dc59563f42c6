use Rattle.std.proofs.Common.{◌≡◌, drop}
use Rattle.std.specs.Prelude.{find}
use Rattle.report_figures.specs.Limits.{has_name}
use Rattle.report_figures.proofs.limits.figure_called.Given as goal

abbrev pub invariant-loop-figure : goal.invariant-loop-figure
invariant-loop-figure l =
    find (has_name l.header l.name) l.figures
    ≡ find (has_name l.header l.name) (drop l.figure-index l.figures)
