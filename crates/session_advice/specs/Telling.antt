-- What is told on the way of how many changes were tried.
use Rattle.std.specs.Prelude.{◌≡◌, ℕ}
use Rattle.run_sources.specs.declared.fault.RunFault.{RunFault}
use Rattle.run_sources.specs.declared.fault.RunFault.TheVariants.{SettledTooLong, SimulatedTooLong, KeptTooLong, NoMemory}
use Rattle.ranked_changes.specs.Tellings.{TellsSome, TellsUpTo}
use Rattle.session_advice.specs.declared.question.AdviceStatus.{AdviceStatus}
use Rattle.session_advice.specs.declared.question.AdviceStatus.TheVariants.{Given, Unknown}

-- to the end where advice is given; nothing where none has the name
abbrev pub TellsByStatus : {P : Type 0} → (P → ℕ → ℕ → P → Type 0) → AdviceStatus → ℕ → P → P
    → Type 0
TellsByStatus tells Given all old new = TellsUpTo tells all all old new
TellsByStatus tells Unknown all old new = new ≡ old

-- up to some of all where memory was refused; nothing of a source that is too long
abbrev pub TellsByFault : {P : Type 0} → (P → ℕ → ℕ → P → Type 0) → RunFault → ℕ → P → P
    → Type 0
TellsByFault tells NoMemory all old new = TellsSome tells all old new
TellsByFault tells SettledTooLong all old new = new ≡ old
TellsByFault tells (SimulatedTooLong caller) all old new = new ≡ old
TellsByFault tells KeptTooLong all old new = new ≡ old
