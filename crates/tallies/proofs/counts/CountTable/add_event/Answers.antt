use Rattle.std.proofs.Common.{◌≡◌, [], get_or, ap, ◌∙◌, subst, sym, arith}
use Rattle.std.specs.Prelude.{Some, slice_set}
use Rattle.bench_types.specs.declared.tally.Tally.{Tally}
use Rattle.tallies.specs.Counting.{event_tally, task_of, HasEventRoom}
use Rattle.tallies.specs.Tables.{tallies_in}
use Rattle.tallies.proofs.Tables.{counts_changed, read_counts, seen_task}
use Rattle.tallies.proofs.counts.CountTable.add_event.Goals as goal

pub index_mut-requires : goal.index_mut-requires
index_mut-requires c =
    omega (
      arith,
      c.self.inside.counts.ok.0,
      c.task.ensures,
      seen_task c.self.inside.cores c.self.inside.runs.items c.self.inside.counts.items c.args.self.now
          c.self.view_is (task_of c.args.event) c.requires.task,
    )

pub count_event-requires : goal.count_event-requires
count_event-requires c =
    let x = c.index_mut.result.now in
    let there : x ≡ get_or c.self.inside.counts.items (task_of c.args.event) x = c.index_mut.ensures.value ∙ ap (λ i. get_or c.self.inside.counts.items i x)
    c.task.ensures in
    let is = read_counts c.self.inside.cores c.self.inside.runs.items c.self.inside.counts.items c.args.self.now c.self.view_is (task_of c.args.event) x
    c.requires.task there in
    subst (λ (t : Tally). HasEventRoom (record { run = []; counts = t })) (sym is) (record {
      switched = c.requires.room.switched;
      displaced = c.requires.room.displaced;
      timeouts = c.requires.room.timeouts;
    })

pub returns : goal.returns
unfolding event_tally
returns c =
    let event = c.args.event in
    let inside = c.self.inside in
    let x = c.index_mut.result.now in
    let there : x ≡ get_or inside.counts.items (task_of event) x = c.index_mut.ensures.value ∙ ap (λ i. get_or inside.counts.items i x) c.task.ensures in
    ap (λ i. tallies_in inside.cores inside.runs.items (slice_set inside.counts.items i c.count_event.new.counts)) c.task.ensures
    ∙ ap (λ t. tallies_in inside.cores inside.runs.items (slice_set inside.counts.items (task_of event) t)) c.count_event.ensures
    ∙ counts_changed c.self.inside.cores c.self.inside.runs.items c.self.inside.counts.items c.args.self.now c.self.view_is
    (λ (t : Tally). (event_tally (Some event) (task_of event) (record { run = []; counts = t })).counts) (task_of event) x c.requires.task there
