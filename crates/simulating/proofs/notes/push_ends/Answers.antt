use Rattle.std.proofs.Common.{◌∙◌, string_bytes}
use Rattle.std.proofs.lemmas.Result.{IfOk-equal}
use Rattle.simulating.proofs.Told.{ends_told}
use Rattle.simulating.proofs.notes.push_ends.Goals as goal

pub returns : goal.returns
returns c =
    IfOk-equal c.push_line-2.result _ _ _ c.push_line-2.ensures
    (ends_told c.args.workload.now c.args.at_end.now c.header-header.result.now (string_bytes c.args.text.now) (string_bytes c.push_line.new.text)
    c.deref.result.now c.deref-2.result.now c.header-header.ensures.header (c.deref.ensures.value ∙ c.in_ok-ended.ensures)
    (c.deref-2.ensures.value ∙ c.in_ok-left.ensures) c.in_ok-push_line.ensures)
