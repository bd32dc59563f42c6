use Rattle.std.proofs.Common.{◌≡◌, ◌∙◌, ◌≤◌, ◌&&◌, ap, arith, below_more, leb, true, false, Some}
use Rattle.std.proofs.lemmas.Bool.Decides.{nat_tests}
use Rattle.bench_types.specs.declared.kernel_data.Settings.{Settings}
use Rattle.bench_types.specs.declared.step.Step.TheVariants as steps
use Rattle.bench_types.specs.declared.step.Call.TheVariants.{Finish}
use Rattle.bench_model.specs.Control.{current}
use Rattle.settled_runs.specs.Settled.{is_open, finish_on, runs_user_task}
use Rattle.settling.proofs.Finds.{and_left, finish_found, no_finish_found, open_known, same_cores, user_known}
use Rattle.settling.proofs.searches.open_finish.Goals.{then-cores-task+else-is_none, else-cores-task}
use Rattle.settling.proofs.searches.open_finish.Goals as goal

pub returns-then-is_none : goal.returns-then-is_none
returns-then-is_none c table stands =
    let core = c.loop-core.core in
    let task = c.running-task.result in
    let count = ap (λ (settings : Settings). settings.cores) c.settings-cores.ensures.settings in
    let cores = same_cores c.args.kernel.now table stands in
    let runs = c.running-task.ensures.current table stands in
    let user : table.settings.cores ≤ task = omega (arith, cores, count, c.if-cores-task.true) in
    let free = open_known table (steps.Call core task Finish) c.refusal.result true (c.refusal.ensures table stands) c.if-is_none.ensures in
    let both : (runs_user_task table core && is_open table (finish_on table core)) ≡ true = user_known table core task true runs user free in
    ap (λ task. Some (steps.Call core task Finish)) runs
    ∙ finish_found table core (omega (arith, cores, count, c.loop-core-test.true)) both (c.loop-core.invariant table stands)

pub loop-core-preserved : goal.loop-core-preserved
loop-core-preserved c table stands =
    let core = c.loop-core.core in
    let task = c.running-task.result in
    let count = ap (λ (settings : Settings). settings.cores) c.settings-cores.ensures.settings in
    let cores = same_cores c.args.kernel.now table stands in
    let runs = c.running-task.ensures.current table stands in
    below_more (λ k. (runs_user_task table k && is_open table (finish_on table k)) ≡ false) core (c.loop-core.invariant table stands)
    (elim c.if-cores-task.branch [
      | then-cores-task+else-is_none w ↦
          let user : table.settings.cores ≤ task = omega (arith, cores, count, w.if-cores-task.true) in
          user_known table core task false runs user
          (open_known table (steps.Call core task Finish) w.refusal.result false (w.refusal.ensures table stands) w.if-is_none.ensures)
      | else-cores-task w ↦
          let idle : leb table.settings.cores (current table.control core) ≡ false = grind (arith, nat_tests, cores, count, runs, w.if-cores-task.false) in
          and_left _ (is_open table (finish_on table core)) idle
    ])

pub returns : goal.returns
returns c table stands =
    let count = ap (λ (settings : Settings). settings.cores) c.settings-cores.ensures.settings in
    let cores = same_cores c.args.kernel.now table stands in
    no_finish_found table (λ k low. c.loop-core.invariant table stands k (omega (arith, low, cores, count, c.loop-core-test.false)))
