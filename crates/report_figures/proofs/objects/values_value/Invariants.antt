use Rattle.std.proofs.Common.{◌≡◌, take}
use Rattle.std.specs.Prelude.{fold}
use Rattle.serde_json.specs.Data.{no_members}
use Rattle.serde_json.specs.View.{members_view}
use Rattle.report_figures.specs.Objects.{with_value}
use Rattle.report_figures.proofs.objects.values_value.Given as goal

abbrev pub invariant-loop-figure : goal.invariant-loop-figure
invariant-loop-figure l =
    members_view l.object.entries
    ≡ fold (with_value l.header) no_members (take l.figure-index l.figures)
