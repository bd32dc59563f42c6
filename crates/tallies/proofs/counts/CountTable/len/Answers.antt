use Rattle.std.proofs.Common.{arith}
use Rattle.tallies.proofs.Tables.{seen_length}
use Rattle.tallies.proofs.counts.CountTable.len.Goals as goal

pub returns : goal.returns
returns c = let h = c.len.ensures in omega (
  arith,
  c.self.inside.counts.ok.0,
  seen_length c.self.inside.cores c.self.inside.runs.items
      c.self.inside.counts.items c.args.self.now c.self.view_is,
)
