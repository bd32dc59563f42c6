use Rattle.std.proofs.Common.{max, ap, ◌∙◌, arith}
use Rattle.std.specs.Prelude.{slice_set}
use Rattle.bench_types.specs.declared.tally.Tally.{Tally}
use Rattle.tallies.specs.Counting.{top_tally}
use Rattle.tallies.specs.Tables.{tallies_in}
use Rattle.tallies.proofs.Tables.{counts_changed, seen_task}
use Rattle.bench_model.specs.Control.{task_at}
use Rattle.tallies.proofs.counts.CountTable.raise_top.Goals as goal

pub index_mut-counts-requires : goal.index_mut-counts-requires
index_mut-counts-requires c =
    omega (
      arith,
      c.self.inside.counts.ok.0,
      seen_task c.self.inside.cores c.self.inside.runs.items c.self.inside.counts.items c.args.self.now c.self.view_is
          c.args.task c.requires.task,
    )

pub returns : goal.returns
unfolding top_tally
returns c =
    let inside = c.self.inside in
    let task = c.args.task in
    let x = c.index_mut-counts.result.now in
    let in_use = (task_at c.args.kernel.now.control task).in_use in
    ap (λ top. tallies_in inside.cores inside.runs.items (slice_set inside.counts.items task (record x { top = top })))
    (c.max-counts.ensures ∙ ap (max x.top) c.in_use.ensures)
    ∙ counts_changed c.self.inside.cores c.self.inside.runs.items c.self.inside.counts.items c.args.self.now c.self.view_is
    (λ (t : Tally). record t { top = max t.top in_use }) task x c.requires.task c.index_mut-counts.ensures.value
