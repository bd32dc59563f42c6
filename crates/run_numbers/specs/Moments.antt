-- Tests of the steps of a session.
use Rattle.std.specs.Prelude.{ℕ, Bool, false, List}
use Rattle.std.specs.Option.{option_map_or}
use Rattle.bench_types.specs.declared.header.Header.{Header}
use Rattle.bench_types.specs.declared.step.Step.{Step}
use Rattle.bench_model.specs.Table.{Stamps}
use Rattle.bench_model.specs.Tally.{Moment, moment_at}

-- the step at the place passes
abbrev pub passes_at : Header → List Step → (Moment Stamps → Bool) → ℕ → Bool
passes_at header steps passes place =
    option_map_or passes (moment_at header steps place) false
