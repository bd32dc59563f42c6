use Rattle.std.proofs.Common.{sym}
use Rattle.step_laws.proofs.Holds.{in_place}
use Rattle.slow_replay.proofs.slow.SlowTable.step.Goals as goal

pub perform-requires-clause-fits : goal.perform-requires-clause-fits
perform-requires-clause-fits c = in_place c.args.step c.args.self.now c.requires.sound c.requires.checked (sym c.in-None.ensures)
