use Rattle.std.proofs.Common.{◌++◌, codes, decimal, string_bytes}
use Rattle.session_edits.specs.Notes.{count_text, plural}
use Rattle.session_edits.proofs.Texts.{ending_printed}
use Rattle.session_edits.proofs.notes.push_count.Goals as goal

pub returns : goal.returns
unfolding count_text
returns c =
    ending_printed c.push_str.result (string_bytes c.args.text.now) _ _ (codes ": the session has " ++ decimal c.args.steps ++ codes " step")
    (plural c.args.steps) _
    c.in_ok-write.ensures.bytes c.push_str.ensures.bytes c.plural.ensures
