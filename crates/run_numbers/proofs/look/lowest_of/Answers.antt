use Rattle.std.proofs.Common.{ap, arith}
use Rattle.bench_types.specs.declared.kernel_data.Settings.{Settings}
use Rattle.run_numbers.proofs.Seen.{cores_seen}
use Rattle.run_numbers.proofs.look.lowest_of.Goals as goal

pub returns-clause-lowest : goal.returns-clause-lowest
returns-clause-lowest c core low =
    let cores = cores_seen c.args.kernel.now c.settings-cores.ensures.sound in
    c.loop-core.invariant.least core (omega
    (arith, low, cores, c.loop-core-test.false, ap (λ (settings : Settings). settings.cores) c.settings-cores.ensures.settings))
