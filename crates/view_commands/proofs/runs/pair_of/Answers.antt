use Rattle.view_commands.proofs.ShownSources.{kept_is_pair, kept_pair_after, moments_after, moments_before}
use Rattle.view_commands.proofs.runs.pair_of.Goals as goal

pub kept_pair-requires-clause-before : goal.kept_pair-requires-clause-before
kept_pair-requires-clause-before c =
    moments_before c.args.source.now c.in-Kept.made c.in-Kept.field-1 c.args.before c.in-Kept.is c.requires.before

pub kept_pair-requires-clause-after : goal.kept_pair-requires-clause-after
kept_pair-requires-clause-after c =
    moments_after c.args.source.now c.in-Kept.made c.in-Kept.field-1 c.args.after c.in-Kept.is c.requires.after

pub returns-in-Kept-clause-pair : goal.returns-in-Kept-clause-pair
returns-in-Kept-clause-pair c =
    kept_is_pair c.args.source.now c.in-Kept.made c.in-Kept.field-1 c.args.before c.args.after c.args.known c.kept_pair.result c.in-Kept.is c.requires.before
    c.requires.known c.kept_pair.ensures

pub returns-in-Kept-clause-after : goal.returns-in-Kept-clause-after
returns-in-Kept-clause-after c = kept_pair_after c.in-Kept.made c.args.before c.args.after c.args.known c.kept_pair.result c.kept_pair.ensures
