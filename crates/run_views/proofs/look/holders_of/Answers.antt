use Rattle.std.proofs.Common.{arith, ap}
use Rattle.run_views.proofs.Shown.{none_shown, more_shown}
use Rattle.run_views.proofs.look.holders_of.Goals as goal

pub loop-mutex-init : goal.loop-mutex-init
loop-mutex-init c = none_shown _ _ _ c.in_ok-holders.ensures.items

pub loop-mutex-preserved : goal.loop-mutex-preserved
loop-mutex-preserved c = more_shown c.holder.result c.loop-mutex.invariant c.in_ok-push.ensures.items c.holder.ensures.holder

pub returns-clause-count : goal.returns-clause-count
returns-clause-count c =
    let settings = c.settings-count.ensures.settings in
    omega (arith, c.loop-mutex.invariant.many, ap (λ settings. settings.mutexes) settings)
