use Rattle.std.proofs.Common.{ℕ, ◌+◌, List, length, ap, ◌∙◌, arith}
use Rattle.std.proofs.lemmas.List.FromFn.{length-map-range_with_len}
use Rattle.core_loads.specs.declared.loads.Load.TheVariants.{OfTask}
use Rattle.core_loads.specs.Loads.{time_of}
use Rattle.report_pages.proofs.loads.push_task.Goals as goal

pub push_row-requires-clause-few : goal.push_row-requires-clause-few
push_row-requires-clause-few c =
    let cores = c.args.header.now.config.cores in
    omega (
      arith,
      c.requires.user,
      ap (λ (times : List ℕ). length times) (c.as_slice.ensures.value ∙ c.in_ok-times.ensures),
      length-map-range_with_len (λ core. time_of c.args.figures.now (OfTask (cores + c.args.user) core)) 0 cores,
    )
