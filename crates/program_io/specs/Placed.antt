-- Where in the text of an input a fault is, and of a refused header the member at fault.
use Rattle.std.specs.Prelude.{ℕ, List, [], ◌++◌, bytes_eq, codes, decimal, Option, Some, None, if◌then◌else◌}
use Rattle.std.specs.Str.{is_utf8}
use Rattle.bench_types.specs.declared.flaw.HeaderFlaw.{HeaderFlaw}
use Rattle.bench_types.specs.declared.flaw.HeaderFlaw.TheVariants.{Cores, Priorities, Mutexes, Notes, Queues, QueueLength, QueueMessages, Units, TaskCount, NoName, Priority, Mask, SharedName}
use Rattle.text_locations.specs.declared.location.TextLocation.{TextLocation}
use Rattle.text_locations.specs.Leads.{location_of}

-- where in the input a path leads; bytes that are no text have no location
unfoldable pub fault_location : List ℕ → List ℕ → Option TextLocation
fault_location input path = if is_utf8 input then location_of input path else None

-- the location, if there is one, at the end of what is told
abbrev pub location_suffix : Option TextLocation → List ℕ
location_suffix None = []
location_suffix (Some location) =
    codes " (line " ++ decimal location.line ++ codes ", column " ++ decimal location.column ++ codes ")"

-- ---- F1 of the header

-- a member of a task of the session
abbrev pub task_member : ℕ → List ℕ → List ℕ
task_member task name = codes "tasks[" ++ decimal task ++ codes "]." ++ name

-- a member of a queue of the session
abbrev pub queue_member : ℕ → List ℕ → List ℕ
queue_member queue name = codes "queues[" ++ decimal queue ++ codes "]." ++ name

-- the member of the session at fault
abbrev pub flaw_member : HeaderFlaw → List ℕ
flaw_member (Cores n) = codes "cores"
flaw_member (Priorities n) = codes "priorities"
flaw_member (Mutexes n) = codes "mutexes"
flaw_member (Notes n) = codes "notes"
flaw_member (Queues n) = codes "queues"
flaw_member (QueueLength queue) = queue_member queue (codes "length")
flaw_member (QueueMessages queue) = queue_member queue (codes "messages")
flaw_member (Units n) = codes "units"
flaw_member (TaskCount n) = codes "tasks"
flaw_member (NoName task) = task_member task (codes "name")
flaw_member (Priority task priorities) = task_member task (codes "priority")
flaw_member (Mask task cores) = task_member task (codes "mask")
flaw_member (SharedName task) = task_member task (codes "name")

-- what stands before the name of a member of the object at a path; `top` is the path of the whole
abbrev pub member_prefix : List ℕ → List ℕ
member_prefix object = if bytes_eq object (codes "top") then [] else object ++ codes "."

-- the path of the member at fault, where the session stands at a path
abbrev pub flaw_path : List ℕ → HeaderFlaw → List ℕ
flaw_path session flaw = member_prefix session ++ flaw_member flaw
