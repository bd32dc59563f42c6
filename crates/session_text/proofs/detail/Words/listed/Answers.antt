use Rattle.std.proofs.Common.{◌∙◌, ◌++◌, ℕ, List, get_or, codes, flat_map, take, drop, length, Bor, ap, []}
use Rattle.std.specs.Prelude.{◌-◌}
use Rattle.session_text.proofs.Details.{listed_some}
use Rattle.session_text.proofs.detail.Words.listed.Goals as goal

pub returns-in_ok-push_others-in-len1-up : goal.returns-in_ok-push_others-in-len1-up
returns-in_ok-push_others-in-len1-up c =
    let words = c.args.words.now in
    let others = flat_map (λ (word : Bor (List ℕ)). codes ", " ++ word.now) (take (length words - 1) (drop 1 words)) in
    let first = c.in_ok-push_str-in-len1-up.ensures.bytes ∙ ap (λ (text : List ℕ). text ++ (get_or words 0 (record { ref_ptr = (0, 0); now = [] })).now)
    c.new-text.ensures.bytes in
    c.in_ok-push_others-in-len1-up.ensures ∙ ap (λ (text : List ℕ). text ++ others) first ∙ listed_some words (record { ref_ptr = (0, 0); now = [] })
    c.in-len1-up.len_at_least
