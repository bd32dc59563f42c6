use Rattle.std.proofs.Common.{ℕ, ◌≡◌, ◌∙◌, ◌++◌, ◌∷◌, [], sym, ap, arith, length}
use Rattle.std.proofs.lemmas.List.FromFn.{length-map-range_with_len, map-range_with_len_more}
use Rattle.bench_model.specs.History.{made_by}
use Rattle.core_rig.proofs.rig.count_by_core.Goals as goal

pub push-requires : goal.push-requires
push-requires c =
    let count : ℕ → ℕ = λ core. length (made_by core c.args.entries.now) in
    let counted : length c.loop-core.counts.items ≡ c.loop-core.core =
    ap length c.loop-core.invariant.1 ∙ length-map-range_with_len count 0 c.loop-core.core in
    (omega arith, (let below = c.loop-core-test.true in let few = c.requires in omega (arith, counted, below, few)))

pub loop-core-preserved : goal.loop-core-preserved
loop-core-preserved c =
    let count : ℕ → ℕ = λ core. length (made_by core c.args.entries.now) in
    let below = c.loop-core-test.true in (
      omega (arith, below),
      c.push.ensures.items
          ∙ (λ i. c.loop-core.invariant.1 i ++ c.count_of.ensures i ∷ [])
          ∙ sym (map-range_with_len_more count 0 c.loop-core.core c.loop-core.core (omega arith)),
    )
