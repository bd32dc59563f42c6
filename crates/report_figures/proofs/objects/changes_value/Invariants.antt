use Rattle.std.proofs.Common.{◌≡◌}
use Rattle.std.specs.Prelude.{fold}
use Rattle.list_orders.specs.Search.{numbers}
use Rattle.serde_json.specs.Data.{no_members}
use Rattle.serde_json.specs.View.{members_view}
use Rattle.report_figures.specs.Objects.{with_change}
use Rattle.report_figures.proofs.objects.changes_value.Given as goal

abbrev pub invariant-loop-index : goal.invariant-loop-index
invariant-loop-index l =
    members_view l.object.entries
    ≡ fold (with_change l.header l.before l.after) no_members (numbers l.index)
