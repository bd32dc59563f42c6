use Rattle.std.proofs.Common.{◌≡◌, ◌∙◌, ap, arith, sym}
use Rattle.bench_types.specs.declared.kernel_data.Settings.{Settings}
use Rattle.settled_runs.specs.Settled.{is_timely}
use Rattle.workload_runs.specs.Rule.{call_on}
use Rattle.simulating.specs.Simulations.{now_in}
use Rattle.simulating.proofs.Calls.{program_call_known}
use Rattle.simulating.proofs.Here.{same_settings}
use Rattle.simulating.proofs.Searches.{passing_behind, passing_here, passing_no_more}
use Rattle.simulating.proofs.simulation.Simulation.program_call.Goals as goal

pub loop-core-preserved : goal.loop-core-preserved
loop-core-preserved c =
    let now = now_in c.args.workload.now c.args.self.now in
    let cores = ap (λ (settings : Settings). settings.cores) (same_settings c.args.workload.now c.args.self.now c.requires) in
    let count = ap (λ (settings : Settings). settings.cores) c.settings-core-end.ensures.settings in
    sym (passing_behind (is_timely now.table) (call_on c.args.workload.now now) c.loop-core.core now.table.settings.cores
    (omega (arith, cores, count, c.loop-core-test.true)) (sym c.timely_call.ensures ∙ c.in_default.is))
    ∙ c.loop-core.invariant

pub returns-in-Some : goal.returns-in-Some
returns-in-Some c =
    let now = now_in c.args.workload.now c.args.self.now in
    let cores = ap (λ (settings : Settings). settings.cores) (same_settings c.args.workload.now c.args.self.now c.requires) in
    let count = ap (λ (settings : Settings). settings.cores) c.settings-core-end.ensures.settings in
    program_call_known c.args.workload.now now _
    (sym (passing_here (is_timely now.table) (call_on c.args.workload.now now) c.loop-core.core now.table.settings.cores c.in-Some.step
    (omega (arith, cores, count, c.loop-core-test.true)) (sym c.timely_call.ensures ∙ c.in-Some.is))
    ∙ c.loop-core.invariant)

pub returns : goal.returns
returns c =
    let now = now_in c.args.workload.now c.args.self.now in
    let cores = ap (λ (settings : Settings). settings.cores) (same_settings c.args.workload.now c.args.self.now c.requires) in
    let count = ap (λ (settings : Settings). settings.cores) c.settings-core-end.ensures.settings in
    program_call_known c.args.workload.now now _
    (sym (passing_no_more (is_timely now.table) (call_on c.args.workload.now now) c.loop-core.core now.table.settings.cores
    (omega (arith, cores, count, c.loop-core-test.false)))
    ∙ c.loop-core.invariant)
