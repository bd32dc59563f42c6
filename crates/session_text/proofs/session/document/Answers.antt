use Rattle.std.proofs.Common.{Err, ap, ◌∙◌}
use Rattle.json_data.specs.Doubled.{first_doubled}
use Rattle.session_text.proofs.Documents.{document_read, refused_at_once, refused_reads}
use Rattle.session_text.proofs.session.document.Goals as goal

pub returns-in-Ok-clause-reading : goal.returns-in-Ok-clause-reading
returns-in-Ok-clause-reading c = document_read c.args.text.now _ c.in-Ok.ensures.ok.0 c.in-Ok.ensures.ok.1

pub returns-in-Ok-clause-doubled : goal.returns-in-Ok-clause-doubled
returns-in-Ok-clause-doubled c = ap first_doubled c.in-Ok.ensures.tokens

pub returns-in-Err-clause-reading : goal.returns-in-Err-clause-reading
returns-in-Err-clause-reading c =
    rw c.of_refused.ensures (refused_reads c.args.text.now c.in-Err.refused (λ is. c.in-Err.ensures.refused (ap Err is)))

pub returns-in-Err-clause-no_text : goal.returns-in-Err-clause-no_text
returns-in-Err-clause-no_text c no_text =
    ap Err (c.of_refused.ensures ∙ refused_at_once c.args.text.now c.in-Err.refused (λ is. (c.in-Err.ensures.memory (ap Err is)).0) no_text)
