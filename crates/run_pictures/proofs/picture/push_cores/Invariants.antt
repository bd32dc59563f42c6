use Rattle.std.proofs.Common.{◌≡◌, ◌+◌, ◌*◌, ◌++◌, flat_map, string_bytes}
use Rattle.list_orders.specs.Search.{numbers}
use Rattle.run_pictures.specs.declared.frame.TheConstants.{CORE_ROW}
use Rattle.run_pictures.specs.CoreBands.{core_row}
use Rattle.run_pictures.proofs.picture.push_cores.Given as goal

abbrev pub invariant-loop-core : goal.invariant-loop-core
invariant-loop-core l = string_bytes l.text ≡ string_bytes l.initial.text ++ flat_map (λ core. core_row l.header l.frame (l.y + CORE_ROW * core) l.looks core)
    (numbers l.core)
