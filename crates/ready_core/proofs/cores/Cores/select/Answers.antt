use Rattle.std.proofs.Common.{◌∙◌, sym}
use Rattle.bench_model.specs.Cores.{has_core}
use Rattle.ready_core.proofs.Switches.{sought_after}
use Rattle.ready_core.proofs.cores.Cores.select.Goals as goal

pub returns-then-ready : goal.returns-then-ready
returns-then-ready c =
    c.seek.ensures
    ∙ sought_after c.args.core c.running-left.result c.running-runs.result (has_core c.cores_left.result) c.args.self.now c.switch.new.self
    c.switch.ensures.selected c.running-left.ensures.current c.running-runs.ensures.current c.if-runs-left.true (sym c.ready.ensures ∙ c.if-ready.true)
    c.cores_left.ensures
