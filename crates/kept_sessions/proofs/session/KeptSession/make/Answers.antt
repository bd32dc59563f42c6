use Rattle.std.proofs.Common.{All, List, ap, sym, subst, ◌∙◌}
use Rattle.bench_types.specs.declared.edit.Edit.{Edit}
use Rattle.bench_types.specs.Edit.{IsCheckedEdit}
use Rattle.kept_edits.specs.declared.edit.KeptEdit.{KeptEdit}
use Rattle.kept_edits.specs.Edits.{plain_edits}
use Rattle.kept_sessions.proofs.Made.{plain_checked}
use Rattle.kept_sessions.proofs.session.KeptSession.make.Goals as goal

pub make-requires : goal.make-requires
make-requires c =
    subst (λ (edits : List Edit). All (IsCheckedEdit c.args.session.header) edits)
    (sym (c.in_ok-plain.ensures ∙ ap (λ (edits : List KeptEdit). plain_edits edits) c.as_slice.ensures.value))
    (plain_checked c.args.session.header c.args.edits.items c.requires)
