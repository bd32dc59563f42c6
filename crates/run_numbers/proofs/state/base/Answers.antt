use Rattle.run_numbers.proofs.Seen.{base_seen}
use Rattle.run_numbers.proofs.state.base.Goals as goal

pub returns : goal.returns
returns c = base_seen c.args.kernel.now c.args.task c.look.result c.requires.sound c.look.ensures
