use Rattle.std.proofs.Common.{◌∙◌, ap, Option, List, ℕ, slice_set}
use Rattle.std.proofs.lemmas.List.{map-set}
use Rattle.smp_kernel.specs.Deadlines.{left_after}
use Rattle.smp_kernel.proofs.deadlines.Deadlines.set.Goals as goal

pub returns : goal.returns
returns c =
    let inside = c.self.inside in
    let end = c.end_after.result in
    map-set (left_after inside.passed) inside.ends.items c.args.task end
    ∙ ap (λ (lefts : List (Option ℕ)). slice_set lefts c.args.task (left_after inside.passed end)) c.self.view_is
    ∙ ap (λ (left : Option ℕ). slice_set c.args.self.now c.args.task left) c.end_after.ensures.left
