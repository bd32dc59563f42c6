use Rattle.std.proofs.Common.{arith, ap}
use Rattle.run_views.proofs.Shown.{none_shown, more_shown}
use Rattle.run_views.proofs.look.cores_of.Goals as goal

pub loop-core-init : goal.loop-core-init
loop-core-init c = none_shown _ _ _ c.in_ok-cores.ensures.items

pub loop-core-preserved : goal.loop-core-preserved
loop-core-preserved c = more_shown c.core_look.result c.loop-core.invariant c.in_ok-push.ensures.items c.core_look.ensures

pub returns-clause-count : goal.returns-clause-count
returns-clause-count c =
    let settings = c.settings-count.ensures.settings in
    omega (arith, c.loop-core.invariant.many, ap (λ settings. settings.cores) settings)
