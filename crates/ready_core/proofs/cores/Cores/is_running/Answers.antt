use Rattle.std.proofs.Common.{◌∙◌, sym}
use Rattle.ready_core.proofs.Seats.{not_running}
use Rattle.ready_core.proofs.cores.Cores.is_running.Goals as goal

pub returns-else-is_current : goal.returns-else-is_current
returns-else-is_current c =
    c.if-is_current.false ∙ sym (not_running c.args.self.now.control c.args.task (sym c.is_current.ensures ∙ c.if-is_current.false))
