use Rattle.std.proofs.Common.{sym, ◌∙◌}
use Rattle.json_data.specs.ObjectView.{members_view}
use Rattle.session_text.specs.declared.format.Format.TheVariants.{Two}
use Rattle.session_text.proofs.Known.{known_in}
use Rattle.session_text.proofs.step.has_only_in_format_2.Goals as goal

pub returns-in_default : goal.returns-in_default
returns-in_default c is =
    known_in Two c.args.step.now (members_view c.args.members.now)
    (sym c.has_only_in_format_1-in_default.ensures ∙ is)
