use Rattle.std.proofs.Common.{not, eqb, ◌&&◌, length, rules, tests, arith, ◌∙◌, sym}
use Rattle.std.proofs.lemmas.Iterator.Adapters.{option_map_id}
use Rattle.std.proofs.lemmas.Iterator.{YieldsList-from_range}
use Rattle.std.proofs.lemmas.Iterator.Search.{find_from_yields_List}
use Rattle.bench_model.specs.Control.{core_at, current, runs_on}
use Rattle.slow_replay.proofs.slow.SlowTable.its_core.Goals as goal

pub returns-clause-core : goal.returns-clause-core
unfolding runs_on
returns-clause-core c =
    let control = c.args.self.now.control in
    let n = length control.cores in
    let found = find_from_yields_List (λ core. eqb (current control core) c.args.task && not (core_at control core).asked) _ _ c.find.result c.find.ensures.ran
    (YieldsList-from_range 0 n n c.core_numbers.ensures.numbers (omega arith)) (λ x b q k. search (rules, tests)) in
    sym (option_map_id c.find.result) ∙ found
