use Rattle.std.proofs.Common.{sym, subst}
use Rattle.bench_model.specs.Equal.{StandsFor}
use Rattle.shift_laws.specs.Later.{later}
use Rattle.shift_laws.proofs.LaterTables.{shifted_stands}
use Rattle.smp_kernel.proofs.kernel.Kernel.shift.Goals as goal

pub invariant_of-self : goal.invariant_of-self
invariant_of-self c =
    let table = c.self.invariant.0 in (
      later c.args.by table,
      subst (λ view. StandsFor view (later c.args.by table)) (sym c.shift.ensures)
          (shifted_stands c.args.by c.self.inside.scheduler table c.self.invariant.1),
    )
