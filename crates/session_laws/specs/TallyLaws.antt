-- The laws of tallies.
use Rattle.std.specs.Prelude.{◌≡◌, suc, ◌≤◌, List, ◌++◌, length}
use Rattle.bench_types.specs.declared.header.Header.{Header}
use Rattle.bench_types.specs.declared.kernel_data.Settings.{Settings}
use Rattle.bench_types.specs.declared.step.Step.{Step}
use Rattle.bench_types.specs.Step.{settings_of}
use Rattle.bench_model.specs.Sound.{IsConsistent}
use Rattle.bench_model.specs.Table.{Stamps, Table, stamp_queues}
use Rattle.bench_model.specs.Lists.{Lists, list_queues, view_of}
use Rattle.bench_model.specs.Start.{start}
use Rattle.bench_model.specs.Session.{state_after}
use Rattle.bench_model.specs.Tally.{TaskTally, Moment, tallies}
use Rattle.bench_model.specs.Tallied.{tallied, part_tallies, added, shape, shape_of, AllCountsBelow}

-- the tallies of a session are those of its start with each step counted in turn
abbrev pub TalliesAreStepwise : Type 0
TalliesAreStepwise =
    (header : Header) (steps : List Step)
    → tallies header steps ≡ part_tallies (settings_of header) (start header) steps

-- the tallies of two parts are the numbers of both together
abbrev pub PartsAddUp : Type 0
PartsAddUp = (settings : Settings) (table : Table) (first second : List Step) →
    part_tallies settings table (first ++ second)
    ≡ added (part_tallies settings table first)
    (part_tallies settings (state_after table first) second)

-- no count is above the number of steps
abbrev pub CountsAreFew : Type 0
CountsAreFew =
    (settings : Settings) (table : Table) (steps : List Step)
    → AllCountsBelow (suc (length steps)) (part_tallies settings table steps)

-- a step that is counted, in a table or over lists, leaves for each task a number for as many cores
abbrev pub CountingKeepsShape : Type 0
CountingKeepsShape = (tallies : List TaskTally) →
    ((moment : Moment Stamps) → shape (tallied stamp_queues moment tallies) ≡ shape tallies)
    × ((moment : Moment Lists) → shape (tallied list_queues moment tallies) ≡ shape tallies)

-- and so do the numbers of another part
abbrev pub AddingKeepsShape : Type 0
AddingKeepsShape = (a b : List TaskTally) → shape (added a b) ≡ shape a

-- the tallies of a session have a number for each task and core of its settings
abbrev pub TalliesFitSettings : Type 0
TalliesFitSettings =
    (header : Header) (steps : List Step)
    → shape (tallies header steps) ≡ shape_of (settings_of header)

-- what can be seen of a step
abbrev pub seen_moment : Moment Stamps → Moment Lists
seen_moment moment =
    record {
      before = view_of moment.before;
      step = moment.step;
      reply = moment.reply;
      after = view_of moment.after;
    }

-- a step counts the same over lists
abbrev pub TallySimulates : Type 0
TallySimulates =
    (moment : Moment Stamps) (tallies : List TaskTally) → IsConsistent moment.before
    → length tallies ≤ moment.before.settings.tasks →
    tallied stamp_queues moment tallies ≡ tallied list_queues (seen_moment moment) tallies
