use Rattle.std.proofs.Common.{◌++◌, ◌∙◌, ap, append_assoc, codes, string_bytes, List, ℕ}
use Rattle.std.proofs.lemmas.Result.{on_ok_weaker}
use Rattle.program_io.specs.Hint.{quoted}
use Rattle.program_io.proofs.hint.push_no_name.Goals as goal

pub returns-in_ok-push_str-in-Text : goal.returns-in_ok-push_str-in-Text
returns-in_ok-push_str-in-Text c =
    let initial = c.in_ok-push_str-in-Text.ensures.bytes in
    let is = c.in-Text.is in
    let name = c.as_str.ensures in
    let there = string_bytes c.args.text.now in
    rw c.in-Text.is
    (on_ok_weaker c.push_quoted.result
    (λ pushed. pushed ∙ ap (λ (t : List ℕ). t ++ quoted c.as_str.result.now) initial ∙ append_assoc there (codes "no user task is named ")
    (quoted c.as_str.result.now)
    ∙ ap (λ (word : List ℕ). there ++ (codes "no user task is named " ++ quoted word)) name) c.push_quoted.ensures)
