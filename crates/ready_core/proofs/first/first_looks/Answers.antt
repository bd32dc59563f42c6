use Rattle.std.proofs.Common.{◌∷◌, [], ◌++◌, ◌∙◌, ap, sym}
use Rattle.bench_model.specs.Start.{first_look}
use Rattle.ready_core.proofs.Firsts.{looks_more}
use Rattle.ready_core.proofs.first.first_looks.Goals as goal

pub loop-core-preserved : goal.loop-core-preserved
loop-core-preserved c =
    c.in_ok-push.ensures.items ∙ ap (λ looks. looks ++ first_look c.loop-core.core ∷ []) c.loop-core.invariant ∙ sym (looks_more c.loop-core.core)
