use Rattle.std.proofs.Common.{◌∙◌, sym, ap}
use Rattle.smp_kernel.specs.Deadlines.{lefts}
use Rattle.smp_kernel.proofs.deadlines.Deadlines.same.Goals as goal

pub returns : goal.returns
returns c =
    let mine = ap (lefts c.self.inside.passed) c.deref.ensures.value ∙ c.self.view_is in
    let others = ap (lefts c.other.inside.passed) c.deref-2.ensures.value ∙ c.other.view_is in
    (λ yes. sym mine ∙ c.are_same.ensures.0 yes ∙ others, λ same. c.are_same.ensures.1 (mine ∙ same ∙ sym others))
