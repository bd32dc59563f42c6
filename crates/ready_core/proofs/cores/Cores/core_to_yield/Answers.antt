use Rattle.std.proofs.Common.{◌≡◌, ℕ, ◌+◌, length, ap, subst, sym, arith}
use Rattle.std.specs.declared.ops.Range.{Range}
use Rattle.bench_model.specs.Cores.{has_core}
use Rattle.ready_core.proofs.Asks.{IsBestBelow, best_more, best_is_asked}
use Rattle.ready_core.proofs.cores.Cores.core_to_yield.Goals as goal

pub loop-core-preserved : goal.loop-core-preserved
loop-core-preserved c =
    let control = c.args.self.now.control in
    subst (IsBestBelow control c.args.task (has_core c.args.among) (c.loop-core.core + 1)) (sym c.better_core-best.ensures.better)
    (best_more control c.args.task (has_core c.args.among) c.loop-core.core c.loop-core.best c.loop-core.invariant)

pub returns-clause-asked : goal.returns-clause-asked
returns-clause-asked c =
    let control = c.args.self.now.control in
    let all : c.loop-core.core ≡ length control.cores = omega (
      arith,
      c.loop-core-test.false,
      c.loop-core.auto.core-end,
      ap (λ (r : Range ℕ). r.end)
          c.core_numbers-core-end.ensures.numbers,
    ) in
    best_is_asked control c.args.task (has_core c.args.among) c.loop-core.best
    (subst (λ n. IsBestBelow control c.args.task (has_core c.args.among) n c.loop-core.best) all c.loop-core.invariant)
