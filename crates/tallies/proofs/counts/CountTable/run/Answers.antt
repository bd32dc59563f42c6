use Rattle.std.proofs.Common.{◌≡◌, ◌*◌, drop, length, take, ap, sym, ◌∙◌, arith}
use Rattle.bench_model.specs.Tally.{TaskTally}
use Rattle.tallies.proofs.Tables.{part_there, part_within, seen_at, seen_task}
use Rattle.tallies.proofs.counts.CountTable.run.Goals as goal

pub part-requires : goal.part-requires
part-requires c =
    let inside = c.self.inside in
    omega (
      arith,
      c.place_of.ensures,
      c.self.invariant.size,
      ap length c.deref.ensures.value,
      part_within inside.cores (length inside.counts.items) c.args.task
          (seen_task c.self.inside.cores c.self.inside.runs.items c.self.inside.counts.items c.args.self.now c.self.view_is c.args.task c.requires),
    )

pub returns : goal.returns
returns c =
    let inside = c.self.inside in
    let task = c.args.task in
    let from : c.place_of.result ≡ task * inside.cores = omega (arith, c.place_of.ensures) in
    c.part.ensures ∙ ap (λ ns. take inside.cores (drop c.place_of.result ns)) c.deref.ensures.value
    ∙ ap (λ n. take inside.cores (drop n inside.runs.items)) from
    ∙ part_there inside.cores inside.runs.items (length inside.counts.items) task c.self.invariant.size
    (seen_task c.self.inside.cores c.self.inside.runs.items c.self.inside.counts.items c.args.self.now c.self.view_is task c.requires)
    ∙ sym (ap (λ (t : TaskTally). t.run) (seen_at c.self.inside.cores c.self.inside.runs.items c.self.inside.counts.items c.args.self.now c.self.view_is task
    c.requires))
