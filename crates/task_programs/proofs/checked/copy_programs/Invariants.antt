use Rattle.std.proofs.Common.{◌≡◌, take}
use Rattle.task_programs.proofs.checked.copy_programs.Given as goal

abbrev pub invariant-loop-program : goal.invariant-loop-program
invariant-loop-program l = l.copies.items ≡ take l.program-index l.programs
