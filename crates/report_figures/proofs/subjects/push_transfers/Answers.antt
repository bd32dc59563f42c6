use Rattle.std.proofs.Common.{ap, ◌++◌, ◌∙◌}
use Rattle.report_figures.specs.Subjects.{transfers_at}
use Rattle.report_figures.proofs.Ranges.{next_items}
use Rattle.report_figures.proofs.subjects.push_transfers.Goals as goal

pub loop-queue-preserved : goal.loop-queue-preserved
loop-queue-preserved c =
    next_items (transfers_at c.args.task) c.args.subjects.now.items c.loop-queue.subjects.items _ c.loop-queue.queue c.loop-queue.invariant
    (c.in_ok-push_all.ensures ∙ ap (λ all. c.loop-queue.subjects.items ++ all) c.transfers_at.ensures)
