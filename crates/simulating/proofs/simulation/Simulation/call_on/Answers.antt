use Rattle.std.proofs.Common.{ap, arith}
use Rattle.bench_types.specs.declared.kernel_data.Settings.{Settings}
use Rattle.simulating.proofs.Here.{many_tasks}
use Rattle.simulating.proofs.simulation.Simulation.call_on.Goals as goal

pub call_of_user-requires-clause-tasks : goal.call_of_user-requires-clause-tasks
call_of_user-requires-clause-tasks c = many_tasks c.args.workload.now c.args.self.now c.requires.here

pub call_of_user-requires-clause-user : goal.call_of_user-requires-clause-user
call_of_user-requires-clause-user c =
    let cores = ap (λ (settings : Settings). settings.cores) c.settings-settings.ensures.settings in
    omega (arith, cores, many_tasks c.args.workload.now c.args.self.now c.requires.here, c.running-task.ensures.task, c.if-settings-task.true)
