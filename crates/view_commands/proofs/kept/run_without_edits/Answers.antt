use Rattle.std.proofs.Common.{OnOk, subst}
use Rattle.kept_sessions.specs.Sessions.{KeptView}
use Rattle.run_sources.specs.declared.source.Source.TheVariants as source
use Rattle.run_sources.specs.Sources.{IsSourceTooLong}
use Rattle.view_commands.proofs.kept.run_without_edits.Goals as goal

pub returns-clause-short : goal.returns-clause-short
returns-clause-short c =
    subst (λ (one : KeptView). OnOk c.kept_run_of.result (¬ IsSourceTooLong (source.Kept one c.args.order))) c.in_ok-before.ensures c.kept_run_of.ensures.short
