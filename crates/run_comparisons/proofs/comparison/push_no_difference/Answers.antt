use Rattle.std.proofs.Common.{refl, ap, sym, ◌++◌, ◌∙◌, string_bytes}
use Rattle.std.proofs.lemmas.List.{take_rest}
use Rattle.run_comparisons.proofs.LastRows.{first_printed}
use Rattle.run_comparisons.proofs.Outcomes.{on_ok_then}
use Rattle.run_comparisons.proofs.comparison.push_no_difference.Goals as goal

pub returns-in-len1-up : goal.returns-in-len1-up
returns-in-len1-up c =
    on_ok_then c.push_not_made_line.result c.push_not_made_line.ensures
    (λ printed. printed ∙ ap (λ all. string_bytes c.args.text.now ++ all)
    (sym (first_printed c.args.refused.now _ _ _ c.in-len1-up.len_at_least refl (take_rest c.args.refused.now 1))))
