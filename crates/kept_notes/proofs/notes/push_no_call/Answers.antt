use Rattle.std.proofs.Common.{◌≡◌, ◌++◌, ℕ, List, OnOk, codes, decimal, string_bytes, append_assoc, subst, sym, ◌∙◌}
use Rattle.kept_notes.specs.Notes.{no_call_line}
use Rattle.kept_notes.proofs.notes.push_no_call.Goals as goal

-- a line in the order in which its parts are put together
in_order : (a b c d e : List ℕ) → a ++ (b ++ (c ++ (d ++ e))) ≡ (((a ++ b) ++ c) ++ d) ++ e
in_order a b c d e = sym (append_assoc ((a ++ b) ++ c) d e ∙ append_assoc (a ++ b) c (d ++ e) ∙ append_assoc a b (c ++ (d ++ e)))

pub returns : goal.returns
unfolding no_call_line
returns c =
    subst (λ (line : List ℕ). OnOk c.write.result (string_bytes c.write.new.self ≡ string_bytes c.args.text.now ++ line))
    (in_order (codes "edit ") (decimal c.args.index) (codes " refused J1: no call begins at step ") (decimal c.args.at) (codes "\n")) c.write.ensures.bytes
