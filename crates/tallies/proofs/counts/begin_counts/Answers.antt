use Rattle.std.proofs.Common.{map, ap, ◌∙◌, arith}
use Rattle.bench_types.specs.declared.kernel_data.Settings.{Settings}
use Rattle.list_orders.specs.Search.{numbers}
use Rattle.bench_model.specs.Tallied.{no_counts}
use Rattle.tallies.proofs.Begins.{first_counts}
use Rattle.tallies.proofs.InPlace.{set_all}
use Rattle.tallies.proofs.counts.begin_counts.Goals as goal

pub returns : goal.returns
returns c =
    let first = first_counts c.args.kernel.now.control in
    set_all first (no_counts 0) c.args.counts.now c.loop-task.counts c.loop-task.task c.loop-task.invariant
    (omega (arith, c.loop-task-test.false, c.requires, ap (λ (s : Settings). s.tasks) c.settings-task-end.ensures.settings))
    ∙ ap (λ n. map first (numbers n)) c.requires
