use Rattle.std.proofs.Common.{rules, ◌≡◌, OnOk, subst, sym}
use Rattle.run_sources.specs.declared.source.Source.{Source}
use Rattle.run_sources.specs.declared.source.Source.TheVariants as source
use Rattle.run_sources.specs.Sources.{IsSourceTooLong}
use Rattle.view_commands.specs.declared.edited.EditedSource.{EditedSource}
use Rattle.view_commands.specs.EditedSources.{before_of}
use Rattle.view_commands.proofs.runs.run_before.Goals as goal

pub returns-in-Settled-clause-short : goal.returns-in-Settled-clause-short
returns-in-Settled-clause-short c =
    let same : source.Settled c.session-in-Settled.result.now ≡ before_of c.args.source.now = search rules in
    subst (λ (one : Source). OnOk c.settled_run.result (¬ IsSourceTooLong one)) same c.settled_run.ensures.short

pub returns-in-Kept-clause-short : goal.returns-in-Kept-clause-short
returns-in-Kept-clause-short c =
    subst (λ (origin : EditedSource). OnOk c.run_without_edits.result (¬ IsSourceTooLong (before_of origin))) (sym c.in-Kept.is)
    c.run_without_edits.ensures.short
