-- The parts of an answer, and what is told of them.
use Rattle.std.specs.Prelude.{◌≡◌, ℕ, ◌+◌, ◌-◌, ◌^◌, min, Bool, true, false}
use Rattle.shown_runs.specs.declared.ask.Ask.{Ask}
use Rattle.shown_runs.specs.declared.ask.Ask.TheVariants as ask
use Rattle.shown_runs.specs.declared.parts.Part.{Part}

abbrev pub one_if : Bool → ℕ
one_if true = 1
one_if false = 0

-- By whether there are two runs. A document is written with no pass over a run; a page has a
-- picture, a report and a trace, and of two runs a comparison.
abbrev pub ask_parts : Ask → Bool → ℕ
ask_parts (ask.Trace selection) is_two = 1
ask_parts ask.Session is_two = 0
ask_parts ask.Compare is_two = 1
ask_parts (ask.Timeline extent) is_two = 1
ask_parts (ask.Report form) is_two = 1
ask_parts (ask.Check wanted) is_two = 1
ask_parts (ask.Page extent) is_two = 3 + one_if is_two

-- one part more, up to the end of 64 bits
abbrev pub number_after : ℕ → ℕ
number_after begun = min (begun + 1) (2 ^ 64 - 1)

-- by whether the work is long, it is told that the part begins, or nothing
abbrev pub TellsPart : {P : Type 0} → (P → Part → ℕ → ℕ → P → Type 0) → Bool → Part → ℕ → ℕ → P
    → P → Type 0
TellsPart begins true part number all old new = begins old part number all new
TellsPart begins false part number all old new = new ≡ old
