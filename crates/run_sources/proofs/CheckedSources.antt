-- What is known of a checked source.
use Rattle.std.proofs.Common.{◌≤◌, length, arith}
use Rattle.bench_types.specs.Header.{IsCheckedHeader}
use Rattle.bench_types.specs.Limits.{max_steps}
use Rattle.run_sources.specs.declared.source.Source.{Source}
use Rattle.run_sources.specs.declared.source.Source.TheVariants as source
use Rattle.run_sources.specs.Sources.{header_of, steps_of, IsCheckedSource}

pub header_checked : (source : Source) → IsCheckedSource source → IsCheckedHeader (header_of source)
header_checked (source.Session session) is = is.checked.header
header_checked (source.Settled session) is = is.checked.header
header_checked (source.Workload workload) is = is.header
header_checked (source.Kept made order) is = is.1.checked.header

pub steps_few : (source : Source) → IsCheckedSource source → length (steps_of source) ≤ max_steps
steps_few (source.Session session) is = is.few
steps_few (source.Settled session) is = is.few
steps_few (source.Workload workload) is = omega arith
steps_few (source.Kept made order) is = omega arith
