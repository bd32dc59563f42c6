use Rattle.std.proofs.Common.{◌++◌, ◌∙◌, ap, append_assoc, codes, string_bytes, List, ℕ}
use Rattle.std.proofs.lemmas.Result.{on_ok_weaker}
use Rattle.program_io.specs.Hint.{member_text, words_text}
use Rattle.program_io.proofs.hint.push_unknown.Goals as goal

pub returns : goal.returns
returns c =
    let stray = c.args.stray.now in
    let words = words_text stray (codes "; these may stand here: ") in
    on_ok_weaker c.push_words.result
    (λ pushed. pushed ∙ ap (λ (t : List ℕ). t ++ words) c.in_ok-push_member.ensures ∙ append_assoc (string_bytes c.args.text.now) (member_text stray.text)
    words) c.push_words.ensures
