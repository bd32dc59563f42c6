use Rattle.std.proofs.Common.{ℕ, ◌+◌, string_bytes}
use Rattle.report_figures.proofs.Ranges.{next_items}
use Rattle.run_pages.specs.Page.{pieces_text}
use Rattle.report_pages.specs.LoadBars.{core_pieces}
use Rattle.report_pages.proofs.loads.push_cores.Goals as goal

pub loop-core-preserved : goal.loop-core-preserved
loop-core-preserved c =
    next_items (λ (k : ℕ). pieces_text (core_pieces k)) (string_bytes c.args.text.now) (string_bytes c.loop-core.text) _ c.loop-core.core
    c.loop-core.invariant c.in_ok-push_core.ensures
