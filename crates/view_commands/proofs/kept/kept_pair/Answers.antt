use Rattle.std.proofs.Common.{List, ℕ, IfOk, sym, subst}
use Rattle.bench_model.specs.Edits.{after_edits}
use Rattle.kept_notes.specs.Refused.{places_of, refused_kept}
use Rattle.run_comparisons.specs.Pairs.{IsKeptPair}
use Rattle.run_comparisons.specs.Shared.{AreMomentsOf}
use Rattle.session_edits.specs.Edited.{EditedView}
use Rattle.view_commands.proofs.kept.kept_pair.Goals as goal

pub of_kept-requires-clause-before : goal.of_kept-requires-clause-before
of_kept-requires-clause-before c =
    subst (λ (one : EditedView). AreMomentsOf one.session.steps c.args.before.session.steps) (sym c.plain.ensures) c.requires.before

pub of_kept-requires-clause-after : goal.of_kept-requires-clause-after
of_kept-requires-clause-after c =
    subst (λ (one : EditedView). AreMomentsOf (after_edits one.session one.edits).steps c.args.after.session.steps) (sym c.plain.ensures) c.requires.after

pub returns : goal.returns
returns c =
    let made = c.args.made.now in
    let plain = c.plain.result.now in
    subst (λ (one : EditedView). IfOk c.of_kept.result (λ pair. IsKeptPair one.session one.edits (places_of (refused_kept made.session made.edits)) c.args.known
    c.args.before c.args.after pair)) c.plain.ensures
    (subst (λ (places : List ℕ). IfOk c.of_kept.result (λ pair. IsKeptPair plain.session plain.edits places c.args.known c.args.before c.args.after pair))
    c.in_ok-refused.ensures c.of_kept.ensures)
