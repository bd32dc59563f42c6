use Rattle.run_comparisons.proofs.AlikePrinted.{alike_printed}
use Rattle.run_comparisons.proofs.row_words.are_made_alike.Goals as goal

pub returns-clause-alike : goal.returns-clause-alike
returns-clause-alike c = λ alike named.
    alike_printed c.args.before.now.header c.args.after.now.header c.in-Some.made c.in-Some-2.other c.in_ok-made.field-0 c.in_ok-other.field-0 _ _ named
    (c.is_alike.ensures alike) c.in-Some.is c.in-Some-2.is c.in_ok-made.ensures.made c.in_ok-other.ensures.made
