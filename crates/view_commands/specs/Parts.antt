-- The parts of a command.
use Rattle.std.specs.Prelude.{ℕ, ◌+◌, length, Bool, nat_le}
use Rattle.shown_runs.specs.declared.ask.Making.{Making}
use Rattle.shown_runs.specs.declared.ask.Making.TheVariants.{AsWritten, Settled, Simulated, Kept}
use Rattle.shown_runs.specs.Parts.{ask_parts, one_if}
use Rattle.view_commands.specs.declared.edited.EditedSource.{EditedSource}
use Rattle.view_commands.specs.declared.edited.EditedSource.TheVariants as edited
use Rattle.view_commands.specs.declared.request.Command.{Command}
use Rattle.view_commands.specs.declared.request.Command.TheVariants.{Advise, Show}
use Rattle.view_commands.specs.declared.request.Job.{Job}
use Rattle.view_commands.specs.EditedSources.{has_edits, making_of}
use Rattle.view_commands.specs.ShownRuns.{shows_both}

-- a session of so many steps is long
abbrev pub long_session : ℕ
long_session = 100000

-- a workload that goes on for so many ticks is long
abbrev pub long_workload : ℕ
long_workload = 10000

abbrev pub is_long : EditedSource → Bool
is_long (edited.Session made) = nat_le long_session (length made.session.steps)
is_long (edited.Settled made) = nat_le long_session (length made.session.steps)
is_long (edited.Workload made) = nat_le long_workload made.workload.ticks
is_long (edited.Kept made order) = nat_le long_session (length made.session.steps)

-- runs are made in a part of its own, but for those of sessions as their steps stand
abbrev pub making_parts : Making → ℕ
making_parts AsWritten = 0
making_parts Settled = 1
making_parts Simulated = 1
making_parts Kept = 1

-- How many parts a command has, but for refusals. Advice tells by itself how far it is.
abbrev pub own_parts : Command → EditedSource → ℕ
own_parts (Show asked) source =
    making_parts (making_of source) + ask_parts asked (shows_both asked source)
own_parts (Advise question) source = 0

-- with refusals, where they count
abbrev pub parts_of : Job → EditedSource → ℕ
parts_of job source = own_parts job.command source + one_if job.strict
