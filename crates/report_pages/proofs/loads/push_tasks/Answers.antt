use Rattle.std.proofs.Common.{ℕ, ◌+◌, string_bytes}
use Rattle.report_figures.proofs.Ranges.{next_items}
use Rattle.run_pages.specs.Page.{pieces_text}
use Rattle.report_pages.specs.LoadBars.{task_pieces}
use Rattle.report_pages.proofs.loads.push_tasks.Goals as goal

pub loop-user-preserved : goal.loop-user-preserved
loop-user-preserved c =
    next_items (λ (k : ℕ). pieces_text (task_pieces c.args.header.now c.args.figures.now k)) (string_bytes c.args.text.now) (string_bytes c.loop-user.text) _ c.loop-user.user
    c.loop-user.invariant c.in_ok-push_task.ensures
