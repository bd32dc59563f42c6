use Rattle.std.proofs.Common.{sym, ap, ◌∙◌}
use Rattle.std.proofs.lemmas.Bool.Decides.{Decides-eqb}
use Rattle.std.proofs.lemmas.Slice.Eq.{slice_eq-Decides}
use Rattle.mutex_inherit.specs.Parts.{MutexPart}
use Rattle.mutex_inherit.proofs.mutexes.Mutexes.has_same_values.Goals as goal

pub returns : goal.returns
returns c =
    let values = slice_eq-Decides Decides-eqb c.self.inside.values.items c.other.inside.values.items c.eq.result c.eq.ensures in
    let mine = ap (λ (view : MutexPart). view.values) c.self.view_is in
    let theirs = ap (λ (view : MutexPart). view.values) c.other.view_is in
    (λ yes. sym mine ∙ values.0 yes ∙ theirs, λ same. values.1 (mine ∙ same ∙ sym theirs))
