-- What a bar stands for: the style of the picture draws each in its own colour.
use Rattle.std.specs.Prelude.{ℕ, ◌-◌, ◌%◌, ◌==◌, List, ◌++◌, nat_lt, codes, decimal, if◌then◌else◌}
use Rattle.run_pictures.specs.declared.ink.Ink.{Ink}
use Rattle.run_pictures.specs.declared.ink.Ink.TheVariants.{EvenTick, OddTick, Idle, Runs, Ready, Waits, Suspended, Due, Held, Inherited, Off, Taken, Messages, Clear}

abbrev pub tick_ink : ℕ → Ink
tick_ink tick = if tick % 2 == 0 then EvenTick else OddTick

-- the ink of a task that runs, where there are so many cores
abbrev pub task_ink : ℕ → ℕ → Ink
task_ink cores task = if nat_lt task cores then Idle else Runs (task - cores)

-- the name by which the style knows it; of tasks, every eighth has the same colour
abbrev pub ink_text : Ink → List ℕ
ink_text EvenTick = codes "t"
ink_text OddTick = codes "t v"
ink_text Idle = codes "i"
ink_text (Runs user) = codes "c" ++ decimal (user % 8)
ink_text (Ready user) = codes "r c" ++ decimal (user % 8)
ink_text Waits = codes "w"
ink_text Suspended = codes "i"
ink_text Due = codes "d"
ink_text Held = codes "h"
ink_text Inherited = codes "u"
ink_text Off = codes "p"
ink_text (Taken user) = codes "m c" ++ decimal (user % 8)
ink_text (Messages count) = codes "q"
ink_text Clear = codes "z"
