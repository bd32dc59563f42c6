use Rattle.std.proofs.Common.{◌&&◌, length, rules, tests, arith, ◌∙◌, sym}
use Rattle.std.proofs.lemmas.Iterator.Adapters.{option_map_id}
use Rattle.std.proofs.lemmas.Iterator.{YieldsList-from_range}
use Rattle.std.proofs.lemmas.Iterator.Search.{find_from_yields_List}
use Rattle.list_orders.specs.Search.{is_best, best, numbers}
use Rattle.bench_model.specs.Seek.{is_preemptible_by, yields_first, core_to_yield}
use Rattle.slow_replay.specs.SlowSeek.{may_go}
use Rattle.slow_replay.proofs.slow.SlowTable.core_to_yield.Goals as goal

pub returns-clause-asked : goal.returns-clause-asked
unfolding core_to_yield best
returns-clause-asked c =
    let control = c.args.self.now.control in
    let n = length control.cores in
    let test = is_best (λ d. may_go control c.args.task c.args.lost d && is_preemptible_by control c.args.task d) (yields_first control) (numbers n) in
    let found = find_from_yields_List test _ _ c.find.result c.find.ensures.ran (YieldsList-from_range 0 n n c.core_numbers.ensures.numbers (omega arith))
    (λ x b q k. search (rules, tests)) in
    sym (option_map_id c.find.result) ∙ found
