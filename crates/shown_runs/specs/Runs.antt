-- Runs that are shown.
use Rattle.std.specs.Prelude.{Bool, true, false}
use Rattle.session_runs.specs.Run.{RunView}
use Rattle.shown_runs.specs.declared.ask.Making.{Making}
use Rattle.shown_runs.specs.declared.ask.Making.TheVariants.{AsWritten, Settled, Simulated, Kept}
use Rattle.shown_runs.specs.declared.shown.Shown.{Shown}
use Rattle.shown_runs.specs.declared.shown.Shown.TheVariants.{One, Two}

-- the run, or that after the edits
abbrev pub last_of : Shown → RunView
last_of (One run) = run
last_of (Two pair) = pair.after

abbrev pub is_two : Shown → Bool
is_two (One run) = false
is_two (Two pair) = true

-- they are told as settled ones
abbrev pub is_settled : Making → Bool
is_settled AsWritten = false
is_settled Settled = true
is_settled Simulated = false
is_settled Kept = true
