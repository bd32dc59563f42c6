use Rattle.std.proofs.Common.{◌++◌, ap, ◌∙◌, append_assoc, codes, decimal, flat_map, string_bytes}
use Rattle.run_comparisons.specs.Comparison.{further_text, not_made_text}
use Rattle.run_comparisons.proofs.Outcomes.{on_ok_then}
use Rattle.run_comparisons.proofs.comparison.push_not_made.Goals as goal

pub returns : goal.returns
unfolding not_made_text
returns c =
    let more = flat_map further_text c.args.places.now in
    on_ok_then c.push_further.result c.push_further.ensures
    (λ printed. printed ∙ ap (λ all. all ++ more) c.in_ok-write.ensures.bytes ∙ append_assoc (string_bytes c.args.text.now)
    (codes "no step differs; refused and not made: edit " ++ decimal c.args.place) more)
