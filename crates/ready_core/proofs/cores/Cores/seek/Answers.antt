use Rattle.std.proofs.Common.{◌≡◌, ap, arith}
use Rattle.bench_model.specs.Control.{Control}
use Rattle.ready_core.proofs.Asks.{asks_none}
use Rattle.ready_core.proofs.cores.Cores.seek.Goals as goal

pub returns-else-among-ne0 : goal.returns-else-among-ne0
returns-else-among-ne0 c =
    let none : c.args.among ≡ 0 = grind (arith, c.if-among-ne0.false) in
    ap (λ (control : Control). record c.args.self.now { control = control }) (asks_none c.args.acting c.args.task c.args.among c.args.self.now.control none)
