use Rattle.std.proofs.Common.{arith}
use Rattle.tallies.proofs.Tables.{read_run, run_changed, seen_place}
use Rattle.tallies.proofs.counts.CountTable.add_run.Goals as goal

pub index_mut-requires : goal.index_mut-requires
index_mut-requires c =
    omega (
      arith,
      c.self.inside.runs.ok.0,
      c.place_of-place.ensures,
      seen_place c.self.inside.cores c.self.inside.runs.items c.self.inside.counts.items
          c.args.self.now c.self.view_is c.args.task c.args.core c.self.invariant.size c.requires.task c.requires.core,
    )

pub overflow_add-index_mut : goal.overflow_add-index_mut
overflow_add-index_mut c =
    omega (
      arith,
      c.requires.room,
      read_run c.self.inside.cores c.self.inside.runs.items c.self.inside.counts.items c.args.self.now c.self.view_is c.args.task
          c.args.core c.place_of-place.result c.index_mut.result.now c.self.invariant.size c.requires.task c.requires.core c.place_of-place.ensures
          c.index_mut.ensures.value,
    )

pub returns : goal.returns
returns c =
    run_changed c.self.inside.cores c.self.inside.runs.items c.self.inside.counts.items c.args.self.now c.self.view_is c.args.task c.args.core
    c.place_of-place.result c.index_mut.result.now 1 c.self.invariant.size c.requires.task c.requires.core c.place_of-place.ensures
    c.index_mut.ensures.value
