use Rattle.std.proofs.Common.{◌≡◌, ℕ, ◌+◌, ◌++◌, flat_map, string_bytes}
use Rattle.list_orders.specs.Search.{numbers}
use Rattle.run_pages.specs.Page.{pieces_text}
use Rattle.report_pages.specs.LoadBars.{core_pieces}
use Rattle.report_pages.proofs.loads.push_cores.Given as goal

abbrev pub invariant-loop-core : goal.invariant-loop-core
invariant-loop-core l =
    string_bytes l.text ≡ string_bytes l.fn.text ++ flat_map (λ (k : ℕ). pieces_text (core_pieces k)) (numbers l.core)
