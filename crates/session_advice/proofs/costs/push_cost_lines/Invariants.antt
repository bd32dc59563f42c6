use Rattle.std.proofs.Common.{◌≡◌, ◌++◌, flat_map, string_bytes}
use Rattle.list_orders.specs.Search.{numbers}
use Rattle.session_advice.specs.Basis.{basis_of}
use Rattle.session_advice.specs.Costs.{cost_line}
use Rattle.session_advice.proofs.costs.push_cost_lines.Given as goal

abbrev pub invariant-loop-index : goal.invariant-loop-index
invariant-loop-index l =
    string_bytes l.text
    ≡ string_bytes l.fn.text ++ flat_map (cost_line (basis_of l.base) l.after) (numbers l.index)
