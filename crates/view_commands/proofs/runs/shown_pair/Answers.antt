use Rattle.std.proofs.Common.{string_bytes, sym, subst}
use Rattle.session_runs.specs.Run.{RunView}
use Rattle.view_commands.specs.Answers.{AreEnds}
use Rattle.view_commands.specs.EditedSources.{after_of, before_of}
use Rattle.view_commands.proofs.ShownSources.{short_of_both}
use Rattle.view_commands.proofs.runs.shown_pair.Goals as goal

pub returns-clause-short : goal.returns-clause-short
returns-clause-short c =
    short_of_both (before_of c.args.source.now) (after_of c.args.source.now) c.in_ok-before.ensures.short c.in_ok-made.ensures.short

pub returns-clause-ends : goal.returns-clause-ends
returns-clause-ends c =
    subst (λ (run : RunView). AreEnds c.args.documents (after_of c.args.source.now) run (string_bytes c.in_ok-made.made.ends)) (sym c.in_ok-pair.ensures.after)
    c.in_ok-made.ensures.ends
