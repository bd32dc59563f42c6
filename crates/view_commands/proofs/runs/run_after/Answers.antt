use Rattle.std.proofs.Common.{rules, ◌≡◌, OnOk, subst, sym}
use Rattle.run_sources.specs.declared.source.Source.{Source}
use Rattle.run_sources.specs.declared.source.Source.TheVariants as source
use Rattle.run_sources.specs.Sources.{IsSourceTooLong}
use Rattle.view_commands.specs.declared.edited.EditedSource.{EditedSource}
use Rattle.view_commands.specs.EditedSources.{after_of}
use Rattle.view_commands.proofs.runs.run_after.Goals as goal

pub returns-in_ok-run-in-Settled-clause-short : goal.returns-in_ok-run-in-Settled-clause-short
returns-in_ok-run-in-Settled-clause-short c =
    let same : source.Settled c.edited-in-Settled.result.now ≡ after_of c.args.source.now = search rules in
    subst (λ (one : Source). ¬ IsSourceTooLong one) same c.in_ok-run-in-Settled.ensures.short

pub returns-in-Kept-clause-short : goal.returns-in-Kept-clause-short
returns-in-Kept-clause-short c =
    subst (λ (origin : EditedSource). OnOk c.kept_run.result (¬ IsSourceTooLong (after_of origin))) (sym c.in-Kept.is) c.kept_run.ensures.short
