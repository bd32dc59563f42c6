use Rattle.std.proofs.Common.{rules}
use Rattle.run_pictures.proofs.Tiling.{tiled_by}
use Rattle.run_pictures.proofs.stretch.stretches_of.Goals as goal

pub returns-clause-tiles : goal.returns-clause-tiles
returns-clause-tiles g c = tiled_by g.T.StretchValue.same g.met.T.StretchValue.tells c.args.first c.args.values.items c.from.result.items (search rules)
