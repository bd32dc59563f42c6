use Rattle.std.proofs.Common.{◌∙◌, ap, arith}
use Rattle.std.proofs.lemmas.Bool.Decides.{nat_tests}
use Rattle.bench_model.specs.Tally.{is_call_of}
use Rattle.run_numbers.proofs.forget.forget_caller.Goals as goal

pub returns-in-Call : goal.returns-in-Call
returns-in-Call c task look known =
    let before = c.forget.ensures task look known in
    (before.0, ap (is_call_of task) c.in-Call.is ∙ grind (arith, nat_tests, before.1))
