use Rattle.std.proofs.Common.{ap, arith}
use Rattle.bench_types.specs.declared.kernel_data.Settings.{Settings}
use Rattle.bench_model.specs.Tallied.{tally_at}
use Rattle.tallies.specs.Counting.{top_tally, topped}
use Rattle.tallies.proofs.Additions.{nothing}
use Rattle.tallies.proofs.InPlace.{set_all}
use Rattle.tallies.proofs.tallies.raise_tops.Goals as goal

pub returns-clause-topped : goal.returns-clause-topped
unfolding topped
returns-clause-topped c =
    let control = c.args.kernel.now.control in
    set_all (λ task. top_tally control task (tally_at c.args.tasks.now task)) nothing c.args.tasks.now c.loop-task.tasks c.loop-task.task c.loop-task.invariant
    (omega (arith, c.loop-task-test.false, c.requires, ap (λ (s : Settings). s.tasks) c.settings-task-end.ensures.settings))
