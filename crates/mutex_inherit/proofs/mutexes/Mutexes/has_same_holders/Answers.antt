use Rattle.std.proofs.Common.{sym, ap, ◌∙◌}
use Rattle.std.proofs.lemmas.Bool.Decides.{Decides-eqb}
use Rattle.std.proofs.lemmas.Slice.Eq.{slice_eq-Decides}
use Rattle.bench_types.proofs.Equalities.{option_decides}
use Rattle.mutex_inherit.specs.Parts.{MutexPart}
use Rattle.mutex_inherit.proofs.mutexes.Mutexes.has_same_holders.Goals as goal

pub returns : goal.returns
returns c =
    let holders = slice_eq-Decides (option_decides Decides-eqb) c.self.inside.holders.items c.other.inside.holders.items c.eq.result c.eq.ensures in
    let mine = ap (λ (view : MutexPart). view.holders) c.self.view_is in
    let theirs = ap (λ (view : MutexPart). view.holders) c.other.view_is in
    (λ yes. sym mine ∙ holders.0 yes ∙ theirs, λ same. holders.1 (mine ∙ same ∙ sym theirs))
