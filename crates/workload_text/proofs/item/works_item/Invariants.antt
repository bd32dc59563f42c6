use Rattle.std.proofs.Common.{◌≡◌, length, map, take}
use Rattle.task_programs.specs.declared.instruction.Instruction.TheVariants as instruction
use Rattle.workload_text.specs.Items.{further}
use Rattle.workload_text.proofs.item.works_item.Given as goal

abbrev pub invariant-loop-units : goal.invariant-loop-units
invariant-loop-units l =
    l.instructions.items ≡ map (λ units. instruction.Work units (further l.start (length l.works))) (take l.units-index l.works)
