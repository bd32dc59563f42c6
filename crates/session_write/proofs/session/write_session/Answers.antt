use Rattle.std.proofs.Common.{◌≡◌, ◌∙◌, ap, reverse}
use Rattle.json.specs.Print.{print}
use Rattle.session_text.specs.Session.{session}
use Rattle.session_write.specs.Tokens.{with_value}
use Rattle.session_write.specs.Written.{session_data, written}
use Rattle.session_write.proofs.Rereading.{written_reads_back}
use Rattle.session_write.proofs.Tokens.{text_of_value}
use Rattle.session_write.proofs.session.write_session.Goals as goal

pub returns : goal.returns
returns c =
    let header = c.args.header.now in
    let steps = c.args.steps.now in
    let whole = session_data header steps in
    let text : c.into_text.result.items ≡ written header steps = c.into_text.ensures
    ∙ ap (λ tokens. print (reverse tokens)) (c.in_ok-write_object.ensures ∙ ap (with_value whole) c.new-scribe.ensures)
    ∙ text_of_value whole in
    record { text = text; reads_back = ap session text ∙ written_reads_back header steps c.requires }
