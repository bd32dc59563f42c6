use Rattle.std.proofs.Common.{◌∙◌, ap, sym, subst, arith}
use Rattle.bench_model.specs.Control.{may_select}
use Rattle.bench_model.specs.Cores.{CoresView}
use Rattle.ready_core.proofs.Picks.{IsLeft, left_first, none_left, none_after, found_here, less_left}
use Rattle.ready_core.proofs.cores.Cores.pick.Goals as goal

pub loop-list-init : goal.loop-list-init
loop-list-init c =
    let passes = may_select c.args.self.now.control c.args.core in
    subst (λ (v : CoresView). IsLeft v passes 0 c.self.inside.listed) c.self.view_is
    (left_first _ c.self.inside.slicing _ _ _ _ _ c.self.invariant.shape passes)

pub returns-in_err-priority-clause-first : goal.returns-in_err-priority-clause-first
returns-in_err-priority-clause-first c =
    c.from_residual.ensures ∙ none_left c.args.self.now (may_select c.args.self.now.control c.args.core) c.loop-list._list c.loop-list.rest
    c.loop-list.invariant c.in_err-priority.ensures.none

pub returns-then-is_some-clause-first : goal.returns-then-is_some-clause-first
returns-then-is_some-clause-first c =
    let up = c.in_ok-priority.ensures in
    found_here c.args.self.now (may_select c.args.self.now.control c.args.core) c.loop-list._list c.loop-list.rest c.loop-list.invariant
    c.in_ok-priority.priority up.power_le up.next_power_gt up.bound c.pick_of-first.result c.pick_of-first.ensures.first
    (sym c.is_some.ensures ∙ c.if-is_some.true)

pub loop-list-preserved : goal.loop-list-preserved
loop-list-preserved c =
    let up = c.in_ok-priority.ensures in
    less_left c.args.self.now (may_select c.args.self.now.control c.args.core) c.loop-list._list c.loop-list.rest c.loop-list.invariant
    c.in_ok-priority.priority up.power_le up.next_power_gt up.bound c.pick_of-first.result c.pick_of-first.ensures.first
    (sym c.is_some.ensures ∙ c.if-is_some.false)

pub returns-clause-first : goal.returns-clause-first
returns-clause-first c =
    none_after c.args.self.now (may_select c.args.self.now.control c.args.core) c.loop-list._list c.loop-list.rest c.loop-list.invariant
    (omega (arith, c.loop-list-test.false, c.loop-list.auto._list-end, ap (λ (v : CoresView). v.priorities) c.self.view_is))
