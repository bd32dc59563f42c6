use Rattle.std.proofs.Common.{◌*◌, ◌%◌, ◌^◌, ◌∙◌, ℕ, Bool, not, eqb, ◌&&◌, bit_and, w32, length, ap, arith}
use Rattle.std.specs.Int.{bit_not}
use Rattle.std.proofs.lemmas.Bool.Decides.{nat_tests}
use Rattle.bench_model.specs.Control.{current}
use Rattle.ready_core.proofs.Seats.{bit_cleared, some_bit}
use Rattle.ready_core.proofs.cores.Cores.is_elsewhere.Goals as goal

pub returns : goal.returns
returns c =
    let control = c.args.self.now.control in
    let n = length control.cores in
    let core = c.args.core in
    let seats = c.seats.result in
    let few = c.core_numbers-cores.ensures.few in
    let passes : ℕ → Bool = λ other. not (eqb other core) && eqb (current control other) c.args.task in
    some_bit (bit_and seats (bit_not w32 (1 * 2 ^ core % 4294967296))) n passes
    (λ d. bit_cleared seats core d (omega (arith, c.requires.core, few)) (λ over. c.seats.ensures d ∙ grind (arith, nat_tests, over, few))
    ∙ ap (λ b. not (eqb d core) && b) (c.seats.ensures d)
    ∙ grind arith)
