use Rattle.std.proofs.Common.{◌≡◌, ℕ, ◌++◌, take, flat_map, string_bytes}
use Rattle.run_pages.specs.Page.{pieces_text}
use Rattle.report_pages.specs.LoadBars.{bar_of}
use Rattle.report_pages.proofs.loads.push_cells.Given as goal

abbrev pub invariant-loop-time : goal.invariant-loop-time
invariant-loop-time l =
    string_bytes l.text
    ≡ string_bytes l.fn.text ++ flat_map (λ (time : ℕ). pieces_text (bar_of l.run time)) (take l.time-index l.times)
