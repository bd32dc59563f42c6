use Rattle.std.proofs.Common.{◌≡◌, ap, arith, below_more, true, false}
use Rattle.bench_types.specs.declared.kernel_data.Settings.{Settings}
use Rattle.bench_types.specs.declared.step.Step.TheVariants.{Switch}
use Rattle.settled_runs.specs.Settled.{is_open}
use Rattle.settling.proofs.Finds.{no_switch_found, open_known, same_cores, switch_found}
use Rattle.settling.proofs.searches.due_switch.Goals as goal

pub returns-then-is_none : goal.returns-then-is_none
returns-then-is_none c table stands =
    let core = c.loop-core.core in
    let count = ap (λ (settings : Settings). settings.cores) c.settings-core-end.ensures.settings in
    switch_found table core (omega (arith, same_cores c.args.kernel.now table stands, count, c.loop-core-test.true))
    (open_known table (Switch core) c.refusal.result true (c.refusal.ensures table stands) c.if-is_none.ensures) (c.loop-core.invariant table stands)

pub loop-core-preserved : goal.loop-core-preserved
loop-core-preserved c table stands =
    let core = c.loop-core.core in
    below_more (λ k. is_open table (Switch k) ≡ false) core (c.loop-core.invariant table stands)
    (open_known table (Switch core) c.refusal.result false (c.refusal.ensures table stands) c.if-is_none.ensures)

pub returns : goal.returns
returns c table stands =
    let count = ap (λ (settings : Settings). settings.cores) c.settings-core-end.ensures.settings in
    let cores = same_cores c.args.kernel.now table stands in
    no_switch_found table (λ k low. c.loop-core.invariant table stands k (omega (arith, low, cores, count, c.loop-core-test.false)))
