use Rattle.std.proofs.Common.{arith}
use Rattle.tallies.proofs.Tables.{read_run, seen_place}
use Rattle.tallies.proofs.counts.CountTable.run_on.Goals as goal

pub index-requires : goal.index-requires
index-requires c =
    omega (
      arith,
      c.self.inside.runs.ok.0,
      c.place_of.ensures,
      seen_place c.self.inside.cores c.self.inside.runs.items c.self.inside.counts.items
          c.args.self.now c.self.view_is c.args.task c.args.core c.self.invariant.size c.requires.task c.requires.core,
    )

pub returns : goal.returns
returns c =
    read_run c.self.inside.cores c.self.inside.runs.items c.self.inside.counts.items c.args.self.now c.self.view_is c.args.task c.args.core c.place_of.result
    c.index.result.now c.self.invariant.size c.requires.task c.requires.core c.place_of.ensures c.index.ensures
