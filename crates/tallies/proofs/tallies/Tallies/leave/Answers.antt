use Rattle.std.proofs.Common.{length, ap, ◌∙◌}
use Rattle.tallies.proofs.Parts.{length_event}
use Rattle.tallies.proofs.tallies.Tallies.leave.Goals as goal

pub raise_tops-requires : goal.raise_tops-requires
raise_tops-requires c = ap length c.add_event.ensures ∙ length_event c.args.event c.self.inside.tasks ∙ ap length c.self.view_is ∙ c.requires.tasks
