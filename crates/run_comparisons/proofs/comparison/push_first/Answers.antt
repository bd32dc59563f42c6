use Rattle.std.proofs.Common.{◌++◌, ap, ◌∙◌, append_assoc, codes, string_bytes}
use Rattle.run_comparisons.specs.Comparison.{first_text, places_text}
use Rattle.run_comparisons.proofs.Outcomes.{on_ok_then}
use Rattle.run_comparisons.proofs.comparison.push_first.Goals as goal

pub returns : goal.returns
unfolding first_text
returns c =
    on_ok_then c.push_places.result c.push_places.ensures
    (λ printed. printed ∙ ap (λ all. all ++ places_text c.args.row) c.in_ok-push_str.ensures.bytes ∙ append_assoc (string_bytes c.args.text.now)
    (codes "the runs differ first at") (places_text c.args.row))
