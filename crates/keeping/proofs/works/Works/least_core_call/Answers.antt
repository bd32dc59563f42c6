use Rattle.std.proofs.Common.{◌∙◌, ap, arith, subst, sym}
use Rattle.bench_types.specs.declared.kernel_data.Settings.{Settings}
use Rattle.settling.proofs.Finds.{same_cores, same_settings}
use Rattle.keeping.specs.Works.{AreFit}
use Rattle.keeping.proofs.Dues.{least_core_finds, least_core_none}
use Rattle.keeping.proofs.works.Works.least_core_call.Goals as goal

pub returns-in-Some : goal.returns-in-Some
returns-in-Some c now stands holds timed =
    let settings = same_settings c.args.kernel.now now.table stands in
    let fit = subst (λ settings. AreFit settings c.args.self.now) (sym settings) c.requires.fit in
    let count = ap (λ (settings : Settings). settings.cores) c.settings-core-end.ensures.settings in
    least_core_finds c.args.self.now now stands.sound fit holds c.args.timed timed c.loop-core.core c.in-Some.step
    (omega (arith, same_cores c.args.kernel.now now.table stands, count, c.loop-core-test.true))
    (sym (c.due_call.ensures now.table stands) ∙ c.in-Some.is) (c.loop-core.invariant now.table stands)

pub returns : goal.returns
returns c now stands holds timed =
    let settings = same_settings c.args.kernel.now now.table stands in
    let fit = subst (λ settings. AreFit settings c.args.self.now) (sym settings) c.requires.fit in
    let count = ap (λ (settings : Settings). settings.cores) c.settings-core-end.ensures.settings in
    least_core_none c.args.self.now now stands.sound fit holds c.args.timed timed (λ less low.
    c.loop-core.invariant now.table stands less
    (omega (arith, low, same_cores c.args.kernel.now now.table stands, count, c.loop-core-test.false)))
