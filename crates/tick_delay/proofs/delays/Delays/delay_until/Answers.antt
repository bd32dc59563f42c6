use Rattle.std.proofs.Common.{◌≡◌, ap, sym, ◌∙◌, arith}
use Rattle.bench_model.proofs.Untils.{some_ticks_to}
use Rattle.tick_delay.specs.Parts.{DelayView}
use Rattle.tick_delay.proofs.delays.Delays.delay_until.Goals as goal

pub delay-requires-clause-some : goal.delay-requires-clause-some
delay-requires-clause-some c =
    let same : c.delay.inside.tick ≡ c.self.inside.tick = ap (λ (view : DelayView). view.tick) (c.delay.view_is ∙ sym c.self.view_is) in
    let ahead = sym c.is_ahead-waits.ensures ∙ c.if-waits.true in
    omega (arith, same, some_ticks_to _ _ _ (omega (arith, c.self.ranges)) (omega arith) ahead)
