use Rattle.std.proofs.Common.{◌+◌, ◌-◌, ◌^◌, ◌<◌, length, ap, subst, sym, arith}
use Rattle.bench_types.specs.declared.kernel_data.Settings.{Settings}
use Rattle.tallies.proofs.Runs.{IsRunTo, kept_cores, kept_ticks, run_all, run_none, run_on}
use Rattle.tallies.proofs.TickLoop.{shape_length, shape_runs}
use Rattle.tallies.proofs.tallies.add_runs.Goals as goal

pub loop-core-init : goal.loop-core-init
loop-core-init c = run_none c.args.kernel.now.control c.args.tasks.now

pub add_run-requires-clause-task : goal.add_run-requires-clause-task
add_run-requires-clause-task c =
    omega (arith, c.running.ensures.task, c.loop-core.invariant.size, shape_length c.args.tasks.now c.args.kernel.now.settings c.requires.shape)

pub add_run-requires-clause-core : goal.add_run-requires-clause-core
add_run-requires-clause-core c =
    let kernel = c.args.kernel.now in
    let old = c.args.tasks.now in
    let task = c.running.result in
    let low : task < length old = omega (arith, c.running.ensures.task, shape_length old kernel.settings c.requires.shape) in
    kept_cores old c.loop-core.tasks kernel.control c.loop-core.core task c.loop-core.invariant low kernel.settings.cores
    (shape_runs old kernel.settings task c.requires.shape low)
    (omega (arith, c.loop-core-test.true, ap (λ (s : Settings). s.cores) c.settings-core-end.ensures.settings))

pub add_run-requires-clause-room : goal.add_run-requires-clause-room
add_run-requires-clause-room c =
    let kernel = c.args.kernel.now in
    let old = c.args.tasks.now in
    let task = c.running.result in
    let low : task < length old = omega (arith, c.running.ensures.task, shape_length old kernel.settings c.requires.shape) in
    kept_ticks old c.loop-core.tasks kernel.control c.loop-core.core task c.loop-core.invariant low (2 ^ 32 - 1) c.requires.room
    (omega (
      arith,
      c.loop-core-test.true,
      shape_runs old kernel.settings task c.requires.shape low,
      ap (λ (s : Settings). s.cores)
          c.settings-core-end.ensures.settings,
    ))

pub loop-core-preserved : goal.loop-core-preserved
loop-core-preserved c =
    let kernel = c.args.kernel.now in
    let old = c.args.tasks.now in
    let now = c.loop-core.tasks in
    let task = c.running.result in
    let core = c.loop-core.core in
    let low : task < length old = omega (arith, c.running.ensures.task, shape_length old kernel.settings c.requires.shape) in
    let inside = kept_cores old now kernel.control core task c.loop-core.invariant low kernel.settings.cores
    (shape_runs old kernel.settings task c.requires.shape low)
    (omega (arith, c.loop-core-test.true, ap (λ (s : Settings). s.cores) c.settings-core-end.ensures.settings)) in
    subst (IsRunTo kernel.control old (core + 1)) (sym c.add_run.ensures)
    (run_on kernel.control old now core task c.loop-core.invariant c.running.ensures.seen (omega (arith, low, c.loop-core.invariant.size)) inside)

pub returns : goal.returns
returns c =
    let kernel = c.args.kernel.now in
    let old = c.args.tasks.now in
    run_all kernel.control old c.loop-core.tasks c.loop-core.core c.loop-core.invariant
    (λ task low. omega (
      arith,
      c.loop-core-test.false,
      shape_runs old kernel.settings task c.requires.shape low,
      ap (λ (s : Settings). s.cores)
          c.settings-core-end.ensures.settings,
    ))
