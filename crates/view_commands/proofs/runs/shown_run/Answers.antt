use Rattle.view_commands.specs.EditedSources.{after_of}
use Rattle.view_commands.proofs.ShownSources.{short_of_one}
use Rattle.view_commands.proofs.runs.shown_run.Goals as goal

pub returns-clause-short : goal.returns-clause-short
returns-clause-short c = short_of_one (after_of c.args.source.now) c.in_ok-made.ensures.short
