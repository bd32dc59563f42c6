use Rattle.std.proofs.Common.{◌≡◌, ◌^◌, true, false, cond, ltb, ◌∙◌, ap, sym, arith}
use Rattle.std.proofs.lemmas.Bool.Decides.{nat_tests}
use Rattle.std.proofs.lemmas.Nat.{one_shl}
use Rattle.ready_core.proofs.first.first_seat.Goals as goal

pub returns-then-task-cores : goal.returns-then-task-cores
returns-then-task-cores c =
    let low = c.if-task-cores.true in
    let is : ltb c.args.task c.args.cores ≡ true = grind (arith, nat_tests, low) in
    one_shl c.args.task 32 (omega (arith, c.if-task-cores.true, c.requires)) ∙ ap (λ b. cond b (2 ^ c.args.task) 0) (sym is)

pub returns-else-task-cores : goal.returns-else-task-cores
returns-else-task-cores c =
    let over = c.if-task-cores.false in
    let is : ltb c.args.task c.args.cores ≡ false = grind (arith, nat_tests, over) in
    ap (λ b. cond b (2 ^ c.args.task) 0) (sym is)
