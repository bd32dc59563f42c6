use Rattle.std.proofs.Common.{ℕ, ◌+◌, string_bytes}
use Rattle.report_figures.proofs.Ranges.{next_items}
use Rattle.run_pages.specs.Page.{pieces_text}
use Rattle.report_pages.specs.ResponseBars.{row_pieces}
use Rattle.report_pages.proofs.responses.push_rows.Goals as goal

pub loop-interval-preserved : goal.loop-interval-preserved
loop-interval-preserved c =
    next_items (λ (k : ℕ). pieces_text (row_pieces c.args.all c.args.histogram.now k)) (string_bytes c.args.text.now) (string_bytes c.loop-interval.text) _ c.loop-interval.interval
    c.loop-interval.invariant c.in_ok-push_row.ensures
