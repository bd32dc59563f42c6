use Rattle.std.proofs.Common.{◌≡◌, ◌++◌, All, Global, List, Option, Vec, map, ap, sym, subst, ◌∙◌}
use Rattle.std.specs.Option.{option_to_list}
use Rattle.std.proofs.lemmas.List.{append-nil}
use Rattle.bench_types.specs.declared.edit.Edit.{Edit}
use Rattle.bench_types.specs.declared.header.Header.{Header}
use Rattle.bench_types.specs.Session.{IsCheckedSession, Session}
use Rattle.kept_edits.specs.declared.edit.KeptEdit.{KeptEdit}
use Rattle.kept_edits.specs.declared.edit.KeptEdit.TheVariants.{Plain}
use Rattle.kept_runs.specs.Items.{edited_session}
use Rattle.kept_edits.specs.Edits.{IsKeptEdit}
use Rattle.ranked_changes.specs.Changed.{changed_kept, edit_of}
use Rattle.ranked_changes.proofs.KeptChanges.{edits_checked}
use Rattle.ranked_changes.proofs.changed.changed_kept.Goals.{in-Some+in_ok-push, in_default}
use Rattle.ranked_changes.proofs.changed.changed_kept.Goals as goal

pub make-requires : goal.make-requires
make-requires c =
    let made = c.args.made.now in
    let change = c.args.change in
    let after = edited_session made.session made.edits in
    let own = c.in_ok-edits.ensures.items ∙ c.edits.ensures.edits in
    let header = c.header.ensures.header ∙ ap (λ (session : Session). session.header) c.edited.ensures in
    let told : edit_of after.header change ≡ c.edit_of.result = sym (c.edit_of.ensures ∙ ap (λ (header : Header). edit_of header change) header) in
    let items : c.match-edit_of.edits.items ≡ (changed_kept made change).edits = elim c.match-edit_of.branch [
      | in-Some+in_ok-push w ↦
          ap (λ (edits : Vec KeptEdit Global). edits.items) w.edits-is ∙ w.in_ok-push.ensures.items
          ∙ (λ i. own i ++ map Plain (option_to_list (sym (told ∙ w.in-Some.is) i)))
      | in_default w ↦
          ap (λ (edits : Vec KeptEdit Global). edits.items) w.edits-is ∙ own ∙ sym (append-nil made.edits)
          ∙ ap (λ (edit : Option Edit). made.edits ++ map Plain (option_to_list edit)) (sym (told ∙ w.in_default.is))
    ] in
    let checked = subst (λ (session : Session). IsCheckedSession session) c.edited.ensures c.header.ensures.checked in
    let all = subst (λ (edits : List KeptEdit). All (IsKeptEdit made.session.header) edits) c.edits.ensures.edits c.edits.ensures.checked in
    let same = c.in_ok-copy.ensures ∙ c.session.ensures in
    subst (λ (edits : List KeptEdit). All (IsKeptEdit c.in_ok-copy.field-0.header) edits) (sym items)
    (subst (λ (session : Session). All (IsKeptEdit session.header) (changed_kept made change).edits) (sym same)
    (edits_checked made change checked.checked c.requires all))
