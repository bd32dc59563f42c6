use Rattle.std.proofs.Common.{sym, subst}
use Rattle.std.specs.Prelude.{All}
use Rattle.bench_types.specs.Edit.{IsCheckedEdit}
use Rattle.bench_types.specs.Session.{Session}
use Rattle.kept_edits.specs.Edits.{plain_edits}
use Rattle.kept_sessions.proofs.Made.{plain_checked}
use Rattle.view_commands.proofs.kept.refused_edits.Goals as goal

pub refused_kept-requires : goal.refused_kept-requires
refused_kept-requires c =
    subst (λ (session : Session). All (IsCheckedEdit session.header) (plain_edits c.edits.result.now)) (sym c.session.ensures)
    (plain_checked c.args.made.now.session.header c.edits.result.now c.edits.ensures.checked)
