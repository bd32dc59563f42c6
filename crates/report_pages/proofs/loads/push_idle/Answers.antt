use Rattle.std.proofs.Common.{ℕ, List, length, ap, ◌∙◌, arith}
use Rattle.std.proofs.lemmas.List.FromFn.{length-map-range_with_len}
use Rattle.core_loads.specs.declared.loads.Load.TheVariants.{OfIdle}
use Rattle.core_loads.specs.Loads.{time_of}
use Rattle.report_pages.proofs.loads.push_idle.Goals as goal

pub push_row-requires-clause-few : goal.push_row-requires-clause-few
push_row-requires-clause-few c =
    omega (
      arith,
      ap (λ (times : List ℕ). length times) (c.as_slice.ensures.value ∙ c.in_ok-times.ensures),
      length-map-range_with_len (λ core. time_of c.args.figures.now (OfIdle core)) 0 c.args.header.now.config.cores,
    )
