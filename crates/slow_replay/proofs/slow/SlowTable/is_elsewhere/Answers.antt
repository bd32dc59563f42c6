use Rattle.std.proofs.Common.{not, eqb, ◌&&◌, length, rules, tests, arith}
use Rattle.std.proofs.lemmas.Iterator.{YieldsList-from_range}
use Rattle.std.proofs.lemmas.Iterator.Search.{any_from_yields_List}
use Rattle.bench_model.specs.Control.{current}
use Rattle.slow_replay.proofs.slow.SlowTable.is_elsewhere.Goals as goal

pub returns : goal.returns
returns c =
    let control = c.args.self.now.control in
    any_from_yields_List (λ other. not (eqb other c.args.core) && eqb (current control other) c.args.task) _ _ _ c.any.ensures.ran
    (YieldsList-from_range 0 (length control.cores) (length control.cores) c.core_numbers.ensures.numbers (omega arith)) (λ x b q k. search (rules, tests))
