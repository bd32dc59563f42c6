use Rattle.std.proofs.Common.{◌≡◌, drop}
use Rattle.std.specs.Prelude.{nat_lt}
use Rattle.std.specs.List.{sum_by}
use Rattle.task_programs.specs.Limits.{max_items}
use Rattle.task_programs.specs.Programs.{item_count}
use Rattle.task_programs.proofs.workload.has_too_many_items.Given as goal

-- whether there are too many is left to the programs from here on
abbrev pub invariant-loop-program : goal.invariant-loop-program
invariant-loop-program l =
    nat_lt l.left (sum_by item_count (drop l.program-index l.programs)) ≡ nat_lt max_items (sum_by item_count l.programs)
