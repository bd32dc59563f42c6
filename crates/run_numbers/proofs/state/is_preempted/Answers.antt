use Rattle.run_numbers.proofs.Seen.{preempt_seen}
use Rattle.run_numbers.proofs.state.is_preempted.Goals as goal

pub returns : goal.returns
returns c = preempt_seen c.args.kernel.now c.args.task c.look.result c.requires.sound c.look.ensures
