use Rattle.std.proofs.Common.{◌≡◌, ℕ, ◌+◌, ◌++◌, flat_map, string_bytes}
use Rattle.list_orders.specs.Search.{numbers}
use Rattle.run_pages.specs.Page.{pieces_text}
use Rattle.report_pages.specs.ResponseBars.{row_pieces}
use Rattle.report_pages.proofs.responses.push_rows.Given as goal

abbrev pub invariant-loop-interval : goal.invariant-loop-interval
invariant-loop-interval l =
    string_bytes l.text ≡ string_bytes l.fn.text ++ flat_map (λ (k : ℕ). pieces_text (row_pieces l.all l.histogram k)) (numbers l.interval)
