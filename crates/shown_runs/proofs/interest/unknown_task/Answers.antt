use Rattle.std.proofs.Common.{sym, ◌∙◌}
use Rattle.std.specs.Prelude.{is_none}
use Rattle.shown_runs.specs.Interests.{task_named}
use Rattle.shown_runs.proofs.NamesFound.{position_mapped}
use Rattle.shown_runs.proofs.interest.unknown_task.Goals as goal

pub returns-clause-value : goal.returns-clause-value
returns-clause-value c = c.first_unknown.ensures.value ∙ sym (position_mapped (λ name. is_none (task_named c.args.header.now name)) c.args.names.now)
