use Rattle.view_commands.proofs.OneView.{one_view}
use Rattle.view_commands.proofs.input.law_of_views.Goals as goal

pub returns : goal.returns
returns c = one_view
