use Rattle.std.proofs.Common.{◌<◌, ◌^◌, ap, ◌∙◌, arith}
use Rattle.tick_delay.specs.Parts.{DelayView, is_delayed, delayed_for}
use Rattle.tick_delay.proofs.Pair.{in_no_list, delayed_late, delayed_soon, seen_late, seen_soon}
use Rattle.tick_delay.proofs.delays.Delays.delay.Goals as goal
use Rattle.tick_delay.proofs.delays.Delays.delay.Goals.{then-wake-self, else-wake-self}

pub insert_sorted-requires-clause-free : goal.insert_sorted-requires-clause-free
insert_sorted-requires-clause-free c = in_no_list _ _ _ _ c.self.invariant c.args.task
    (ap (λ (view : DelayView). is_delayed c.args.task view.delayed) c.self.view_is ∙ c.requires.free)

pub invariant_of-self : goal.invariant_of-self
invariant_of-self c =
    let low : c.args.task < c.self.inside.tasks = omega (arith, c.requires.task, ap (λ (view : DelayView). view.tasks) c.self.view_is) in
    let free = ap (λ (view : DelayView). is_delayed c.args.task view.delayed) c.self.view_is ∙ c.requires.free in
    let few : c.args.ticks < 2 ^ 32 = omega (arith, c.ranges) in
    elim c.if-wake-self.branch [
      | then-wake-self w ↦ rw (c.insert_sorted.ensures.in_order (rw w.list-is c.self.invariant.turns.next_order), w.list-is)
          (delayed_late _ _ _ _ c.self.invariant c.args.task c.args.ticks low free few w.if-wake-self.true)
      | else-wake-self w ↦ rw (c.insert_sorted.ensures.in_order (rw w.list-is c.self.invariant.turns.this_order), w.list-is)
          (delayed_soon _ _ _ _ c.self.invariant c.args.task c.args.ticks low free few w.if-wake-self.false)
    ]

pub returns : goal.returns
returns c =
    let low : c.args.task < c.self.inside.tasks = omega (arith, c.requires.task, ap (λ (view : DelayView). view.tasks) c.self.view_is) in
    let free = ap (λ (view : DelayView). is_delayed c.args.task view.delayed) c.self.view_is ∙ c.requires.free in
    let few : c.args.ticks < 2 ^ 32 = omega (arith, c.ranges) in
    elim c.if-wake-self.branch [
      | then-wake-self w ↦ rw (c.insert_sorted.ensures.in_order (rw w.list-is c.self.invariant.turns.next_order), w.list-is)
          (seen_late _ _ _ _ c.self.invariant c.args.task c.args.ticks low free few w.if-wake-self.true ∙ ap (delayed_for c.args.task c.args.ticks) c.self.view_is)
      | else-wake-self w ↦ rw (c.insert_sorted.ensures.in_order (rw w.list-is c.self.invariant.turns.this_order), w.list-is)
          (seen_soon _ _ _ _ c.self.invariant c.args.task c.args.ticks low free few w.if-wake-self.false ∙ ap (delayed_for c.args.task c.args.ticks) c.self.view_is)
    ]
