-- The header of a session: its settings, its queues and its user tasks.
use Rattle.std.specs.Prelude.{ℕ, List, [], ◌∷◌, codes, Option, Some, None, Result, Ok, Err}
use Rattle.serde_json.specs.Data.{Data}
use Rattle.bench_types.specs.declared.flaw.HeaderFlaw.{HeaderFlaw}
use Rattle.bench_types.specs.declared.header.Config.{Config}
use Rattle.bench_types.specs.declared.header.QueueArgs.{QueueArgs}
use Rattle.bench_types.specs.declared.header.TaskArgs.{TaskArgs}
use Rattle.bench_types.specs.declared.header.Header.{Header}
use Rattle.bench_types.specs.Flaw.{header_flaw}
use Rattle.session_text.specs.declared.fault.TextFault.{TextFault}
use Rattle.session_text.specs.declared.format.Format.{Format}
use Rattle.session_text.specs.Array.{list_at}
use Rattle.session_text.specs.Format.{notes_at, queues_at, units_at}
use Rattle.session_text.specs.Member.{object_at, number_at, text_at, flag_at, only_at}
use Rattle.session_text.specs.ReadingRules.{◌>>=◌}

-- the settings and the queues
unfoldable pub settings_at :
    Format → List ℕ → Data → Result (Config × Option (List QueueArgs)) TextFault
settings_at format at d = do
  cores ← number_at at (codes "cores") d
  priorities ← number_at at (codes "priorities") d
  slicing ← flag_at at (codes "slicing") d
  tick ← number_at at (codes "tick") d
  mutexes ← number_at at (codes "mutexes") d
  notes ← notes_at format at d
  queues ← queues_at format at d
  units ← units_at format at d
  Ok (
    record {
      cores = cores;
      priorities = priorities;
      slicing = slicing;
      tick = tick;
      mutexes = mutexes;
      notes = notes;
      units = units;
    },
    queues,
  )

abbrev pub task_members : List (List ℕ)
task_members = codes "name" ∷ codes "priority" ∷ codes "mask" ∷ []

-- a user task, whose name may be any text here
unfoldable pub task_at : List ℕ → Data → Result TaskArgs TextFault
task_at at d = do
  members ← object_at at d
  name ← text_at at (codes "name") d
  priority ← number_at at (codes "priority") d
  mask ← number_at at (codes "mask") d
  only ← only_at at task_members members
  Ok (record { name = name; priority = priority; mask = mask })

abbrev pub verdict : Header → Option HeaderFlaw → Result Header HeaderFlaw
verdict header None = Ok header
verdict header (Some flaw) = Err flaw

-- the header where it has no flaw, else the first one; a name may be any text here
abbrev pub accepted : Header → Result Header HeaderFlaw
accepted header = verdict header (header_flaw header)

-- the header with these settings and queues, accepted or not
abbrev pub header_of :
    Config → Option (List QueueArgs) → List ℕ → Data
    → Result (Result Header HeaderFlaw) TextFault
header_of config queues at d = do
  tasks ← list_at task_at at (codes "tasks") d
  Ok (accepted (record { config = config; queues = queues; tasks = tasks }))

-- the header, accepted or not: its shape alone is judged
unfoldable pub header_at : Format → List ℕ → Data → Result (Result Header HeaderFlaw) TextFault
header_at format at d = do
  settings ← settings_at format at d
  header_of settings.0 settings.1 at d
