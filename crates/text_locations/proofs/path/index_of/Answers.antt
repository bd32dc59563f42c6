use Rattle.std.proofs.Common.{sym, ◌∙◌}
use Rattle.text_locations.proofs.Paths.{index_refused}
use Rattle.text_locations.proofs.path.index_of.Goals as goal

pub returns-in-Err : goal.returns-in-Err
returns-in-Err c = index_refused c.args.digits.now c.in-Err.field-0 c.parse_u64.result (sym c.are_digits.ensures ∙ c.if-not-are_digits.false)
    c.parse_u64.ensures c.in-Err.is
