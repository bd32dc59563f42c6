use Rattle.std.proofs.Common.{ap, ◌∙◌}
use Rattle.bench_types.specs.declared.kernel_data.Delayed.{Delayed}
use Rattle.std.proofs.Common.{List}
use Rattle.bench_model.specs.Lists.{without_delay}
use Rattle.tick_delay.specs.Parts.{DelayView}
use Rattle.tick_delay.proofs.Pair.{shape_gone, seen_gone}
use Rattle.tick_delay.proofs.delays.Delays.cancel.Goals as goal

pub invariant_of-self : goal.invariant_of-self
invariant_of-self c = rw c.remove.ensures (shape_gone _ _ _ _ c.self.invariant c.args.task)

pub returns : goal.returns
returns c =
    rw c.remove.ensures
    (ap (λ (ds : List Delayed). record { tasks = c.self.inside.tasks; tick = c.self.inside.tick; turn = c.self.inside.turn; delayed = ds })
    (seen_gone _ _ _ _ c.self.invariant c.args.task)
    ∙ ap (λ (view : DelayView). record view { delayed = without_delay c.args.task view.delayed }) c.self.view_is)
