use Rattle.std.proofs.Common.{◌≡◌, codes, sym, ap, ◌∙◌}
use Rattle.serde_json.specs.Data.{object}
use Rattle.serde_json.specs.View.{members_view, view}
use Rattle.serde_json.proofs.Views.{view-Object}
use Rattle.workload_edits.specs.Edits.{new_item, without}
use Rattle.workload_edits.proofs.Values.{members_view_without}
use Rattle.workload_edits.proofs.parts.new_item.Goals as goal

pub returns-in-Object : goal.returns-in-Object
returns-in-Object c =
    let first = c.in-Object.members.entries in
    let second = c.remove.new.self.entries in
    let third = c.remove-in-Object.new.self.entries in
    let gone = ap members_view c.remove.ensures.entries ∙ members_view_without (codes "edit") first in
    let twice = ap members_view c.remove-in-Object.ensures.entries ∙ members_view_without (codes "task") second ∙ ap (without (codes "task")) gone in
    let thrice = ap members_view c.remove-in-Object-2.ensures.entries ∙ members_view_without (codes "item") third ∙ ap (without (codes "item")) twice in
    let same = sym (view-Object c.in-Object.members) ∙ ap view (sym c.in-Object.is) ∙ c.in_ok-other.ensures.cases in
    view-Object c.remove-in-Object-2.new.self ∙ ap object thrice ∙ ap new_item same
