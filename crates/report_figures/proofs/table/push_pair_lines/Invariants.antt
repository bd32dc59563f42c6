use Rattle.std.proofs.Common.{◌≡◌, ◌++◌, flat_map, string_bytes}
use Rattle.list_orders.specs.Search.{numbers}
use Rattle.report_figures.specs.Table.{pair_line}
use Rattle.report_figures.proofs.table.push_pair_lines.Given as goal

abbrev pub invariant-loop-index : goal.invariant-loop-index
invariant-loop-index l =
    string_bytes l.text
    ≡ string_bytes l.fn.text ++ flat_map (pair_line l.header l.before l.after) (numbers l.index)
