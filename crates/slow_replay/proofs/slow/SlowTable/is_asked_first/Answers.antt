use Rattle.std.proofs.Common.{ℕ, not, ◌&&◌, ◌||◌, length, rules, tests, arith}
use Rattle.std.proofs.lemmas.Iterator.{YieldsList-from_range}
use Rattle.std.proofs.lemmas.Iterator.Search.{all_from_yields_List}
use Rattle.bench_model.specs.Seek.{is_preemptible_by, yields_first}
use Rattle.slow_replay.specs.SlowSeek.{may_go}
use Rattle.slow_replay.proofs.slow.SlowTable.is_asked_first.Goals as goal

pub returns-then-is_candidate : goal.returns-then-is_candidate
returns-then-is_candidate c =
    let control = c.args.self.now.control in
    let n = length control.cores in
    let others = λ (d : ℕ). not (may_go control c.args.task c.args.lost d && is_preemptible_by control c.args.task d) || yields_first control c.args.core d in
    let all = all_from_yields_List others _ _ c.all.result c.all.ensures.ran (YieldsList-from_range 0 n n c.core_numbers.ensures.numbers (omega arith))
    (λ x b q k. search (rules, tests)) in
    grind (arith, all, c.is_candidate.ensures, c.if-is_candidate.true)
