use Rattle.std.proofs.Common.{◌∙◌, None, Some, ap}
use Rattle.std.specs.Prelude.{slice_get}
use Rattle.keeping.proofs.Going.{outside_known}
use Rattle.keeping.proofs.keeping.Keeping.outside_step.Goals as goal

pub returns-in-Some : goal.returns-in-Some
returns-in-Some c now holds =
    ap Some (c.cut.ensures now holds)
    ∙ outside_known now (Some c.in-Some.next) (c.in-Some.ensures ∙ ap (λ outside. slice_get outside 0) holds.rest.outside)

pub returns-in-None : goal.returns-in-None
returns-in-None c now holds = outside_known now None (c.in-None.ensures ∙ ap (λ outside. slice_get outside 0) holds.rest.outside)
