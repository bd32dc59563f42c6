use Rattle.std.proofs.Common.{sym, arith}
use Rattle.run_pictures.specs.Same.{are_same_hindrances}
use Rattle.run_pictures.proofs.Hindering.{apart_by_length}
use Rattle.run_pictures.proofs.hindrance.are_same_lists.Goals as goal

pub returns-then-hindrances-others : goal.returns-then-hindrances-others
returns-then-hindrances-others c = sym (apart_by_length are_same_hindrances c.args.hindrances.now c.args.others.now
    (λ e. omega (arith, e, c.if-hindrances-others.true)))
