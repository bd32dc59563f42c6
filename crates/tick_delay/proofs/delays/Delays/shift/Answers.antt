use Rattle.std.proofs.Common.{◌≡◌, sym, ap, ◌∙◌}
use Rattle.bench_model.specs.Shifted.{later_tick}
use Rattle.tick_delay.specs.Later.{all_later}
use Rattle.tick_delay.specs.Parts.{shifted_delays}
use Rattle.tick_delay.specs.Shape.{seen_delays}
use Rattle.tick_delay.proofs.Moved.{shape_later, seen_later}
use Rattle.tick_delay.proofs.Stays.{raised_where_they_stand}
use Rattle.tick_delay.proofs.delays.Delays.shift.Goals as goal
use Rattle.tick_delay.proofs.delays.Delays.shift.Goals.{After-raise_keys}

-- where no task leaves its list, each has its later wake where it stands
stayed : (c : After-raise_keys) → c.raise_keys.new.self ≡ all_later c.args.by (later_tick c.args.by c.self.inside.tick) c.self.inside.turn c.self.inside.lists
stayed c = c.raise_keys.ensures ∙ raised_where_they_stand c.args.by _ _ _ _ c.self.invariant (sym c.turns_stay.ensures ∙ c.if-turns_stay.true)

pub invariant_of-self : goal.invariant_of-self
invariant_of-self c = rw (stayed c) (shape_later c.args.by _ _ _ _ c.self.invariant)

pub invariant_of-self-else-turns_stay : goal.invariant_of-self-else-turns_stay
invariant_of-self-else-turns_stay c = rw c.make_all_later.ensures (shape_later c.args.by _ _ _ _ c.self.invariant)

pub returns-then-turns_stay : goal.returns-then-turns_stay
returns-then-turns_stay c =
    ap (seen_delays c.self.inside.tasks (later_tick c.args.by c.self.inside.tick) c.self.inside.turn) (stayed c)
    ∙ seen_later c.args.by _ _ _ _ c.self.invariant ∙ ap (shifted_delays c.args.by) c.self.view_is

pub returns-else-turns_stay : goal.returns-else-turns_stay
returns-else-turns_stay c =
    ap (seen_delays c.self.inside.tasks (later_tick c.args.by c.self.inside.tick) c.self.inside.turn) c.make_all_later.ensures
    ∙ seen_later c.args.by _ _ _ _ c.self.invariant ∙ ap (shifted_delays c.args.by) c.self.view_is
