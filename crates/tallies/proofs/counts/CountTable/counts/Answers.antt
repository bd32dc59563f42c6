use Rattle.std.proofs.Common.{arith}
use Rattle.tallies.proofs.Tables.{read_counts, seen_task}
use Rattle.tallies.proofs.counts.CountTable.counts.Goals as goal

pub index-requires : goal.index-requires
index-requires c = omega (
  arith,
  c.self.inside.counts.ok.0,
  seen_task c.self.inside.cores c.self.inside.runs.items c.self.inside.counts.items c.args.self.now
      c.self.view_is c.args.task c.requires,
)

pub returns : goal.returns
returns c = read_counts c.self.inside.cores c.self.inside.runs.items c.self.inside.counts.items c.args.self.now c.self.view_is c.args.task c.index.result.now
    c.requires c.index.ensures
