use Rattle.std.proofs.Common.{◌++◌, ◌∙◌, ap, append_assoc, string_bytes, List, ℕ}
use Rattle.std.proofs.lemmas.Result.{on_ok_weaker}
use Rattle.program_io.specs.Hint.{nearest_name_text, no_name_text}
use Rattle.program_io.proofs.hint.push_no_task.Goals as goal

pub returns : goal.returns
returns c =
    let name = no_name_text c.args.name.now in
    let near = nearest_name_text c.args.nearest.now in
    on_ok_weaker c.push_nearest_name.result
    (λ pushed. pushed ∙ ap (λ (t : List ℕ). t ++ near) c.in_ok-push_no_name.ensures ∙ append_assoc (string_bytes c.args.text.now) name near)
    c.push_nearest_name.ensures
