use Rattle.std.proofs.Common.{ap}
use Rattle.json_data.specs.ObjectView.{members_view}
use Rattle.json_data.proofs.Members.{none_if_known}
use Rattle.session_text.specs.Member.{none_unknown}
use Rattle.session_text.specs.Node.{location_of}
use Rattle.session_text.specs.Step.{members_of}
use Rattle.session_text.proofs.step.only_known.Goals as goal

pub returns-then-has_only_known : goal.returns-then-has_only_known
returns-then-has_only_known c =
    let names = members_of c.args.format c.args.step.now in
    let ms = members_view c.args.members.now in
    ap (none_unknown (location_of c.args.node.now) names)
    (none_if_known names ms (c.has_only_known.ensures c.if-has_only_known.true))
