use Rattle.std.proofs.Common.{length, ap, subst, sym, ◌∙◌}
use Rattle.tallies.specs.Tops.{HasOtherTops}
use Rattle.tallies.proofs.Parts.{length_event}
use Rattle.tallies.proofs.Tops.{event_tops}
use Rattle.tallies.proofs.tallies.Tallies.leave_next.Goals as goal

pub raise_top_of-requires-clause-tasks : goal.raise_top_of-requires-clause-tasks
raise_top_of-requires-clause-tasks c = ap length c.add_event.ensures ∙ length_event c.args.event c.self.inside.tasks ∙ ap length c.self.view_is ∙
    c.requires.tasks

pub raise_top_of-requires-clause-tops : goal.raise_top_of-requires-clause-tops
raise_top_of-requires-clause-tops c =
    let control = c.args.after.now.control in
    let tops = subst (HasOtherTops c.args.raised control) (sym c.self.view_is) c.requires.tops in
    subst (HasOtherTops c.args.raised control) (sym c.add_event.ensures) (event_tops c.args.raised control c.args.event c.self.inside.tasks tops)
