use Rattle.std.proofs.Common.{◌≡◌, ◌++◌, take, flat_map, string_bytes}
use Rattle.report_figures.specs.Table.{run_line}
use Rattle.report_figures.proofs.table.push_run_lines.Given as goal

abbrev pub invariant-loop-figure : goal.invariant-loop-figure
invariant-loop-figure l =
    string_bytes l.text
    ≡ string_bytes l.fn.text ++ flat_map (run_line l.header) (take l.figure-index l.figures)
