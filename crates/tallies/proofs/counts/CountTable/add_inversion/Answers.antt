use Rattle.std.proofs.Common.{◌+◌, ap, ◌∙◌, arith}
use Rattle.std.specs.Prelude.{slice_set}
use Rattle.bench_types.specs.declared.tally.Tally.{Tally}
use Rattle.bench_model.specs.Tallied.{tally_at}
use Rattle.tallies.proofs.Rooms.{one_at_most}
use Rattle.tallies.proofs.Tables.{counts_changed, read_counts, seen_task}
use Rattle.tallies.proofs.TickCounts.{number_of}
use Rattle.tallies.proofs.counts.CountTable.add_inversion.Goals as goal

pub index_mut-requires : goal.index_mut-requires
index_mut-requires c =
    omega (
      arith,
      c.self.inside.counts.ok.0,
      seen_task c.self.inside.cores c.self.inside.runs.items c.self.inside.counts.items c.args.self.now c.self.view_is
          c.args.task c.requires.task,
    )

pub overflow_add-index_mut : goal.overflow_add-index_mut
overflow_add-index_mut c =
    let is = read_counts c.self.inside.cores c.self.inside.runs.items c.self.inside.counts.items c.args.self.now c.self.view_is c.args.task
    c.index_mut.result.now c.requires.task c.index_mut.ensures.value in
    omega (arith, c.requires.room, ap (λ (t : Tally). t.inverted) is, c.from.ensures, number_of c.args.inverted, one_at_most c.args.inverted)

pub returns : goal.returns
returns c =
    let old = c.args.self.now in
    let task = c.args.task in
    counts_changed c.self.inside.cores c.self.inside.runs.items c.self.inside.counts.items c.args.self.now c.self.view_is
    (λ (t : Tally). record t { inverted = t.inverted + c.from.result }) task c.index_mut.result.now c.requires.task c.index_mut.ensures.value
    ∙ ap (λ n. slice_set old task (record (tally_at old task) {
      counts = record (tally_at old task).counts
          { inverted = (tally_at old task).counts.inverted + n };
    })) (c.from.ensures ∙ number_of c.args.inverted)
