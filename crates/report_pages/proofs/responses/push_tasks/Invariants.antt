use Rattle.std.proofs.Common.{◌≡◌, ℕ, ◌+◌, ◌++◌, flat_map, string_bytes}
use Rattle.list_orders.specs.Search.{numbers}
use Rattle.run_pages.specs.Page.{pieces_text}
use Rattle.report_pages.specs.ResponseBars.{task_pieces}
use Rattle.report_pages.proofs.responses.push_tasks.Given as goal

abbrev pub invariant-loop-user : goal.invariant-loop-user
invariant-loop-user l =
    string_bytes l.text ≡ string_bytes l.fn.text ++ flat_map (λ (k : ℕ). pieces_text (task_pieces l.header l.responses l.title (l.header.config.cores + k))) (numbers l.user)
