use Rattle.std.proofs.Common.{◌++◌, ◌∷◌, [], List, ℕ, ap₂, sym, ◌∙◌, arith}
use Rattle.std.proofs.lemmas.List.FromFn.{map-range_with_len_more}
use Rattle.core_loads.specs.declared.loads.Load.TheVariants.{OfIdle}
use Rattle.core_loads.specs.Loads.{time_of}
use Rattle.core_loads.proofs.loads.times_of_idle.Goals as goal

pub loop-core-preserved : goal.loop-core-preserved
loop-core-preserved c =
    let core = c.loop-core.core in
    c.in_ok-push.ensures.items ∙ ap₂ (λ (times : List ℕ) (time : ℕ). times ++ time ∷ []) c.loop-core.invariant c.time_of.ensures
    ∙ sym (map-range_with_len_more (λ core. time_of c.args.figures.now (OfIdle core)) 0 core core (omega arith))
