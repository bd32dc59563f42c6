-- What the search for the core that is asked answers, in words of its candidates.
use Rattle.std.specs.Prelude.{◌≡◌, ℕ, ◌<◌, Bool, true, length, Option, Some, None}
use Rattle.bench_model.specs.Control.{Control}
use Rattle.bench_model.specs.Seek.{is_preemptible_by, yields_first}

-- a core among these that gives way to the task
abbrev pub IsCandidate : Control → ℕ → (ℕ → Bool) → ℕ → Type 0
IsCandidate control task among core =
    (core < length control.cores) × (among core ≡ true)
    × (is_preemptible_by control task core ≡ true)

-- what the search answers: a candidate that is asked before every other, or that there is none
abbrev pub IsAnswer : Control → ℕ → (ℕ → Bool) → Option ℕ → Type 0
IsAnswer control task among (Some core) =
    IsCandidate control task among core
    × ((other : ℕ) → IsCandidate control task among other → yields_first control core other ≡ true)
IsAnswer control task among None = (core : ℕ) → IsCandidate control task among core → ⊥
