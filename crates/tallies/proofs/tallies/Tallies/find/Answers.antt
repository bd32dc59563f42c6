use Rattle.std.proofs.Common.{sym}
use Rattle.tallies.proofs.Parts.{found_none, no_tick}
use Rattle.tallies.proofs.tallies.Tallies.find.Goals as goal

pub returns-in_default : goal.returns-in_default
returns-in_default c = sym (found_none c.args.kernel.now c.args.step.now c.args.self.now (no_tick c.args.step.now c.in_default.not-Tick))
