use Rattle.std.proofs.Common.{◌≡◌, ◌∷◌, map, take}
use Rattle.task_programs.specs.declared.instruction.Instruction.TheVariants as instruction
use Rattle.workload_text.specs.Items.{led_out}
use Rattle.workload_text.proofs.item.loop_item.Given as goal

abbrev pub invariant-loop-instruction : goal.invariant-loop-instruction
invariant-loop-instruction l =
    l.instructions.items ≡ instruction.Enter l.fn.rounds l.end ∷ map (led_out l.end) (take l.instruction-index l.body)
