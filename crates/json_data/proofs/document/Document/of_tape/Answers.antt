use Rattle.std.proofs.Common.{sym, ap, ◌∙◌}
use Rattle.serde_json.specs.Read.{max_depth}
use Rattle.json_data.specs.Reading.{are_in_range}
use Rattle.json_data.proofs.Documents.{accepted_tape}
use Rattle.json_data.proofs.document.Document.of_tape.Goals as goal

pub invariant_of-result : goal.invariant_of-result
invariant_of-result c =
    record { valid = accepted_tape c.args.tape c.requires (ap (are_in_range max_depth) (sym c.nodes.ensures.tokens) ∙ sym c.if-are_in_range.ensures) }
