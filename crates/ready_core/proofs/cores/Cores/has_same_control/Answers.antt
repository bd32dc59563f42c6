use Rattle.std.proofs.Common.{◌≡◌, List, ◌∙◌, ap, sym}
use Rattle.std.proofs.lemmas.Slice.Eq.{slice_eq-Decides}
use Rattle.bench_types.specs.declared.kernel_data.CoreLook.{CoreLook}
use Rattle.bench_types.specs.declared.kernel_data.TaskControl.{TaskControl}
use Rattle.bench_types.proofs.Equalities.{block_decides, look_decides}
use Rattle.bench_model.specs.Control.{Control}
use Rattle.bench_model.specs.Cores.{CoresView}
use Rattle.ready_core.specs.Fields.{control_from}
use Rattle.ready_core.proofs.cores.Cores.has_same_control.Goals as goal

same_control : (cores others : List CoreLook) (tasks blocks : List TaskControl) → cores ≡ others → tasks ≡ blocks → control_from cores tasks ≡ control_from
    others blocks
same_control cores others tasks blocks a b = cc

pub returns-then-eq : goal.returns-then-eq
returns-then-eq c =
    let cores = slice_eq-Decides look_decides c.self.inside.cores.items c.other.inside.cores.items c.eq.result c.eq.ensures in
    let tasks = slice_eq-Decides block_decides c.self.inside.tasks.items c.other.inside.tasks.items c.eq-then-eq.result c.eq-then-eq.ensures in
    let mine = ap (λ (v : CoresView). v.control) c.self.view_is in
    let theirs = ap (λ (v : CoresView). v.control) c.other.view_is in (
      λ yes. sym mine ∙ same_control _ _ _ _ (cores.0 c.if-eq.true) (tasks.0 yes) ∙ theirs,
      λ same. tasks.1
          (ap (λ (control : Control). control.tasks) (mine ∙ same ∙ sym theirs)),
    )

pub returns-else-eq : goal.returns-else-eq
returns-else-eq c =
    let cores = slice_eq-Decides look_decides c.self.inside.cores.items c.other.inside.cores.items c.eq.result c.eq.ensures in
    let mine = ap (λ (v : CoresView). v.control) c.self.view_is in
    let theirs = ap (λ (v : CoresView). v.control) c.other.view_is in
    (λ yes. absurd (cc (yes, c.if-eq.false)), λ same. cores.1 (ap (λ (control : Control). control.cores) (mine ∙ same ∙ sym theirs)))
