use Rattle.std.proofs.Common.{map, ◌∙◌}
use Rattle.json_data.specs.ObjectView.{members_view}
use Rattle.json_data.proofs.Members.{known_if_none, known_where_none}
use Rattle.json_data.proofs.object.Object.has_only.Goals as goal

pub returns-then-holds_only : goal.returns-then-holds_only
returns-then-holds_only c =
    c.if-holds_only.true
    ∙ known_if_none (map (λ name. name.now) c.args.names.now) (members_view c.args.self.now)
    (c.holds_only.ensures c.if-holds_only.true)

pub returns-else-holds_only : goal.returns-else-holds_only
returns-else-holds_only c =
    known_where_none (map (λ name. name.now) c.args.names.now) (members_view c.args.self.now)
    c.least_unknown.result c.is_none.result c.is_none.ensures c.least_unknown.ensures
