-- What the fields of a segment keep, and those of several.
use Rattle.std.specs.Prelude.{◌≡◌, ℕ, ◌<◌, ◌≤◌, ◌^◌, List, length, All}
use Rattle.bench_types.specs.declared.step.Step.{Step}
use Rattle.bench_types.specs.Limits.{max_cores, max_steps}
use Rattle.bench_types.specs.Step.{IsCheckedStep}
use Rattle.bench_model.specs.Lists.{View}
use Rattle.segment_laws.specs.Segments.{SegmentView, all_steps, lengths, starts}
use Rattle.smp_kernel.specs.Kernel.{StandsForSome}

-- a kernel, and steps that it can make
pub record MayBeReplayed (kernel : View) (steps : List Step) : Type 0 where
  pub stands : StandsForSome kernel
  pub few_cores : kernel.settings.cores ≤ max_cores
  pub checked : All (IsCheckedStep kernel.settings) steps
  pub few_steps : length steps ≤ max_steps

-- there is room for the replies and the current tasks of as many steps
pub record HasRoom (steps : List Step) (replies currents : ℕ) : Type 0 where
  pub of_replies : length steps ≤ replies
  pub of_currents : length steps ≤ currents

-- the places where the segments begin; there is a first one
pub record ArePlaced (places : List ℕ) (segments : List SegmentView) : Type 0 where
  pub begin : places ≡ starts 0 (lengths segments)
  pub some : 0 < length segments
  pub few_steps : length (all_steps segments) < 2 ^ 32
