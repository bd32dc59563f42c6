use Rattle.std.proofs.lemmas.Result.{IfOk-weaker}
use Rattle.simulating.proofs.Ends.{ends_known}
use Rattle.simulating.proofs.simulation.Simulation.ends.Goals as goal

pub returns : goal.returns
returns c =
    IfOk-weaker c.ends_at.result _ _
    (λ ends is. ends_known c.args.workload.now c.args.self.now c.requires c.programs.result.now c.deref.result.now ends.items c.programs.ensures.programs
    c.deref.ensures.value is) c.ends_at.ensures
