use Rattle.std.proofs.Common.{refl, ap, sym, ◌++◌, ◌∙◌, string_bytes}
use Rattle.run_comparisons.proofs.LastRows.{ends_printed}
use Rattle.run_comparisons.proofs.Outcomes.{on_ok_then}
use Rattle.run_comparisons.proofs.comparison.push_differences.Goals as goal

pub returns-in-len1-up : goal.returns-in-len1-up
returns-in-len1-up c =
    on_ok_then c.push_ends.result c.push_ends.ensures
    (λ printed. printed ∙ ap (λ all. string_bytes c.args.text.now ++ all)
    (sym (ends_printed c.args.refused.now c.args.rows.now _ _ _ _ c.in-len1-up.len_at_least refl refl)))
