-- The formats of a session: in the first each task has one notification; in the second `notes` says
-- how many it has, and `index` which of them a step means; in the third `queues` says beside that
-- which queues and semaphores there are, and `units` how many units of time a tick has.
use Rattle.std.specs.Prelude.{ℕ, ◌==◌, List, [], ◌∷◌, codes, Option, Some, None, Result, Ok, if◌then◌else◌}
use Rattle.serde_json.specs.Data.{Data}
use Rattle.bench_types.specs.declared.header.QueueArgs.{QueueArgs}
use Rattle.session_text.specs.declared.detail.Detail.TheVariants.{NoFormat}
use Rattle.session_text.specs.declared.fault.TextFault.{TextFault}
use Rattle.session_text.specs.declared.format.Format.{Format}
use Rattle.session_text.specs.declared.format.Format.TheVariants.{One, Two, Three}
use Rattle.session_text.specs.Array.{list_at}
use Rattle.session_text.specs.Member.{object_at, number_at, number_or_at, only_at}
use Rattle.session_text.specs.ReadingRules.{◌>>=◌, found}
use Rattle.session_text.specs.Path.{member_path}

abbrev pub format_of : ℕ → Option Format
format_of number =
    if number == 1 then Some One
    else if number == 2 then Some Two else if number == 3 then Some Three else None

unfoldable pub format_at : List ℕ → Data → Result Format TextFault
format_at at d = do
  number ← number_at at (codes "format") d
  found (format_of number) (member_path at (codes "format")) NoFormat

-- the members that a session of the format has beside those of the first
abbrev pub further_members : Format → List (List ℕ)
further_members One = []
further_members Two = codes "notes" ∷ []
further_members Three = codes "notes" ∷ codes "queues" ∷ codes "units" ∷ []

-- how many notifications each task has
unfoldable pub notes_at : Format → List ℕ → Data → Result ℕ TextFault
notes_at One at d = Ok 1
notes_at Two at d = number_at at (codes "notes") d
notes_at Three at d = number_at at (codes "notes") d

abbrev pub queue_members : List (List ℕ)
queue_members = codes "length" ∷ codes "messages" ∷ []

-- how many messages a queue holds at most, and at the start
unfoldable pub queue_at : List ℕ → Data → Result QueueArgs TextFault
queue_at at d = do
  members ← object_at at d
  most ← number_at at (codes "length") d
  messages ← number_at at (codes "messages") d
  only ← only_at at queue_members members
  Ok (record { length = most; messages = messages })

-- the queues, where the format says which there are
unfoldable pub queues_at :
    Format → List ℕ → Data → Result (Option (List QueueArgs)) TextFault
queues_at One at d = Ok None
queues_at Two at d = Ok None
queues_at Three at d = do
  queues ← list_at queue_at at (codes "queues") d
  Ok (Some queues)

-- how many units of time a tick has, 1 where it is left out
unfoldable pub units_at : Format → List ℕ → Data → Result ℕ TextFault
units_at One at d = Ok 1
units_at Two at d = Ok 1
units_at Three at d = number_or_at 1 at (codes "units") d

-- the member that a step for a notification has beside others from the second format on
abbrev pub index_member : Format → List (List ℕ)
index_member One = []
index_member Two = codes "index" ∷ []
index_member Three = codes "index" ∷ []

-- the index of a notification, 0 where it is left out
unfoldable pub index_at : Format → List ℕ → Data → Result ℕ TextFault
index_at One at d = Ok 0
index_at Two at d = number_or_at 0 at (codes "index") d
index_at Three at d = number_or_at 0 at (codes "index") d
