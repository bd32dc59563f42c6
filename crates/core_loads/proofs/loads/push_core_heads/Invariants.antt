use Rattle.std.proofs.Common.{◌≡◌, ◌++◌, flat_map, string_bytes}
use Rattle.list_orders.specs.Search.{numbers}
use Rattle.core_loads.specs.Loads.{core_head}
use Rattle.core_loads.proofs.loads.push_core_heads.Given as goal

abbrev pub invariant-loop-core : goal.invariant-loop-core
invariant-loop-core l =
    string_bytes l.text ≡ string_bytes l.fn.text ++ flat_map core_head (numbers l.core)
