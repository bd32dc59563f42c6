use Rattle.std.proofs.Common.{◌≡◌, ◌++◌, flat_map, string_bytes}
use Rattle.list_orders.specs.Search.{numbers}
use Rattle.core_loads.specs.Loads.{task_row}
use Rattle.core_loads.proofs.loads.push_task_rows.Given as goal

abbrev pub invariant-loop-user : goal.invariant-loop-user
invariant-loop-user l =
    string_bytes l.text
    ≡ string_bytes l.fn.text ++ flat_map (task_row l.header l.figures) (numbers l.user)
