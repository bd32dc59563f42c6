use Rattle.std.proofs.Common.{ℕ, Bool, eqb, length}
use Rattle.bench_model.specs.Control.{current}
use Rattle.ready_core.proofs.Seats.{some_bit}
use Rattle.ready_core.proofs.cores.Cores.is_current.Goals as goal

pub returns : goal.returns
returns c =
    let control = c.args.self.now.control in
    let passes : ℕ → Bool = λ core. eqb (current control core) c.args.task in
    some_bit c.seats.result (length control.cores) passes c.seats.ensures
