use Rattle.std.proofs.Common.{◌≡◌, ℕ, ◌+◌, ◌-◌, ◌%◌, option_map, Some, ap, sym, ◌∙◌, arith}
use Rattle.bench_model.specs.Looks.{left_in}
use Rattle.bench_model.specs.Until.{ticks_to}
use Rattle.tick_delay.specs.Parts.{DelayView}
use Rattle.tick_delay.proofs.Pair.{left_by_key}
use Rattle.tick_delay.proofs.delays.Delays.left.Goals as goal

pub returns-in-Some : goal.returns-in-Some
returns-in-Some c =
    let tick_low = c.self.invariant.tick_low in
    let same : c.in-Some.wake + (4294967296 - c.self.inside.tick) ≡ c.in-Some.wake + 4294967296 - c.self.inside.tick = omega (arith, tick_low) in
    ap (λ (n : ℕ). Some (n % 4294967296)) same
    ∙ ap (option_map (ticks_to c.self.inside.tick)) (sym c.in-Some.is ∙ c.key_of.ensures.key)
    ∙ sym (left_by_key _ _ _ _ c.self.invariant c.args.task)
    ∙ ap (λ (view : DelayView). left_in c.args.task view.delayed) c.self.view_is

pub returns-in-None : goal.returns-in-None
returns-in-None c =
    ap (option_map (ticks_to c.self.inside.tick)) (sym c.in-None.is ∙ c.key_of.ensures.key)
    ∙ sym (left_by_key _ _ _ _ c.self.invariant c.args.task)
    ∙ ap (λ (view : DelayView). left_in c.args.task view.delayed) c.self.view_is
