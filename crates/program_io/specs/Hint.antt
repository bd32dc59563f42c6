-- What people are told of a refused input: a line on standard error, beside the refusal line.
use Rattle.std.specs.Prelude.{◌≡◌, ◌==◌, ◌-◌, if◌then◌else◌, ℕ, List, [], ◌∷◌, ◌++◌, length, nat_eq, nat_lt, codes, decimal, Bool, true, false, Option, Some}
use Rattle.std.specs.Prelude.{None, Result, Ok, Err}
use Rattle.std.specs.List.{starts_with}
use Rattle.std.specs.Str.{is_utf8}
use Rattle.serde_json.specs.Read.{read}
use Rattle.bench_types.specs.declared.flaw.HeaderFlaw.{HeaderFlaw}
use Rattle.bench_types.specs.declared.flaw.HeaderFlaw.TheVariants.{Cores, Priorities, Mutexes, Notes, Queues, QueueLength, QueueMessages, Units, TaskCount, NoName, Priority, Mask, SharedName}
use Rattle.bench_types.specs.declared.step_flaw.StepFlaw.{StepFlaw}
use Rattle.bench_types.specs.declared.step_flaw.StepFlaw.TheVariants as flaws
use Rattle.bench_types.specs.Limits.{min_cores, max_cores, max_priorities, max_tasks, max_mutexes, max_notes, max_queues, max_units, max_name, max_input, max_steps}
use Rattle.bench_types.specs.Name.{is_within}
use Rattle.bench_types.specs.declared.edit.Edit.{Edit}
use Rattle.session_text.specs.declared.bench.Bench.{Bench}
use Rattle.session_text.specs.declared.detail.Detail.{Detail}
use Rattle.session_text.specs.declared.detail.Detail.TheVariants as detail
use Rattle.session_text.specs.declared.detail.Expected.{Expected}
use Rattle.session_text.specs.declared.detail.Expected.TheVariants as expected
use Rattle.session_text.specs.declared.detail.Found.{Found}
use Rattle.session_text.specs.declared.detail.Found.TheVariants as found
use Rattle.session_text.specs.declared.fault.TextFault.{TextFault}
use Rattle.session_text.specs.declared.fault.Why.{Why}
use Rattle.session_text.specs.declared.fault.Why.TheVariants.{NotJson, BadShape, NoMemory}
use Rattle.session_text.specs.declared.fault.Why.TheVariants as why
use Rattle.session_text.specs.declared.nearest.Shown.{Shown}
use Rattle.session_text.specs.declared.nearest.Shown.TheVariants as shown
use Rattle.session_text.specs.declared.nearest.Stray.{Stray}
use Rattle.session_text.specs.declared.rig.RigScript.{RigScript}
use Rattle.session_text.specs.Bench.{bench_text}
use Rattle.session_text.specs.Rig.{rig_text}
use Rattle.program_io.specs.Placed.{fault_location, flaw_path, location_suffix}
use Rattle.program_io.specs.Rule.{rule_text}

-- ---- H1

-- some location is told, from which on the text is no JSON
pub record TellsLocation (hint : List ℕ) : Type 0 where
  pub line : ℕ
  pub column : ℕ
  pub text :
      hint
      ≡ codes "not JSON: line " ++ decimal line ++ codes ", column " ++ decimal column ++ codes "\n"

-- of a text, that location; of bytes that are none, that they are no UTF-8
pub record IsShortTextHint (input hint : List ℕ) : Type 0 where
  pub location : is_utf8 input ≡ true → read input ≡ None → TellsLocation hint
  pub bytes : is_utf8 input ≡ false → hint ≡ codes "not JSON: not UTF-8\n"

-- the most bytes that serde_json reads for that location; its tree takes up to 130 times as many
abbrev pub max_placed : ℕ
max_placed = 8388608

abbrev pub no_place_line : List ℕ
no_place_line = codes "not JSON\n"

-- by whether the input is too long for that
abbrev pub IsNotJsonHintWhere : Bool → List ℕ → List ℕ → Type 0
IsNotJsonHintWhere true input hint = hint ≡ no_place_line
IsNotJsonHintWhere false input hint = IsShortTextHint input hint

-- the bytes of a byte order mark
abbrev pub byte_order_mark : List ℕ
byte_order_mark = 0xEF ∷ 0xBB ∷ 0xBF ∷ []

abbrev pub mark_line : List ℕ
mark_line = codes "not JSON: the text begins with a byte order mark; save it without one\n"

-- by whether the input begins with such a mark
abbrev pub IsHintOfMarked : Bool → List ℕ → List ℕ → Type 0
IsHintOfMarked true input hint = hint ≡ mark_line
IsHintOfMarked false input hint =
    IsNotJsonHintWhere (nat_lt max_placed (length input)) input hint

abbrev pub IsNotJsonHint : List ℕ → List ℕ → Type 0
IsNotJsonHint input hint = IsHintOfMarked (starts_with nat_eq input byte_order_mark) input hint

-- ---- F1 of the header

-- a number of the header, and what it may be
abbrev pub limits_text : List ℕ → ℕ → ℕ → ℕ → List ℕ
limits_text member n least most =
    codes "header: " ++ member ++ codes " is " ++ decimal n ++ codes ", and may be "
    ++ decimal least ++ codes " to " ++ decimal most

-- a user task by its place, then what is wrong with it
abbrev pub task_text : ℕ → List ℕ → List ℕ
task_text task text = codes "header: tasks[" ++ decimal task ++ codes "]" ++ text

-- the same with a number at the end
abbrev pub task_limit_text : ℕ → List ℕ → ℕ → List ℕ
task_limit_text task text n = codes "header: tasks[" ++ decimal task ++ codes "]" ++ text ++ decimal n

-- a text that is no name of a user task, which has so many bytes at most
abbrev pub bad_name_text : ℕ → ℕ → List ℕ
bad_name_text task most =
    task_limit_text task (codes ".name has to be 1 to ") most
    ++ codes " characters from ! to ~, and not begin with IDLE"

-- a queue by its place, then what is wrong with it
abbrev pub queue_text : ℕ → List ℕ → List ℕ
queue_text queue text = codes "header: queues[" ++ decimal queue ++ codes "]" ++ text

-- the units of time that a tick may not have; where another session may, this is that of a rig
abbrev pub units_text : ℕ → List ℕ
units_text n =
    if is_within 1 max_units n
    then codes "header: units is " ++ decimal n ++ codes ", and has to be 1 in a rig: its recordings have no time"
    else limits_text (codes "units") n 1 max_units

abbrev pub flaw_text : HeaderFlaw → List ℕ
flaw_text (Cores n) = limits_text (codes "cores") n min_cores max_cores
flaw_text (Priorities n) = limits_text (codes "priorities") n 1 max_priorities
flaw_text (Mutexes n) = limits_text (codes "mutexes") n 0 max_mutexes
flaw_text (Notes n) = limits_text (codes "notes") n 1 max_notes
flaw_text (Queues n) = limits_text (codes "the number of queues") n 0 max_queues
flaw_text (QueueLength queue) = queue_text queue (codes ".length has to be 1 or more")
flaw_text (QueueMessages queue) =
    queue_text queue (codes ".messages has to be at most its length")
flaw_text (Units n) = units_text n
flaw_text (TaskCount n) = limits_text (codes "the number of tasks") n 1 max_tasks
flaw_text (NoName task) = bad_name_text task max_name
flaw_text (Priority task priorities) =
    task_limit_text task (codes ".priority has to be below ") priorities
flaw_text (Mask task cores) =
    task_limit_text task (codes ".mask has to have a bit below bit ") cores
flaw_text (SharedName task) = task_text task (codes ".name is that of another task too")

-- with the location of the member at fault, where the session stands at a path
abbrev pub header_line : List ℕ → List ℕ → HeaderFlaw → List ℕ
header_line input session flaw =
    flaw_text flaw ++ location_suffix (fault_location input (flaw_path session flaw)) ++ codes "\n"

-- ---- faults that have a path

-- a path, what is wrong there, and its place in the input
abbrev pub line_at : List ℕ → List ℕ → List ℕ → List ℕ
line_at input path meaning =
    path ++ codes ": " ++ meaning ++ location_suffix (fault_location input path) ++ codes "\n"

-- ---- H2

abbrev pub expected_text : Expected → List ℕ
expected_text expected.Number = codes "a whole number from 0 to 4294967295"
expected_text expected.Text = codes "a text"
expected_text expected.Flag = codes "true or false"
expected_text expected.Array = codes "an array"
expected_text expected.Object = codes "an object"

-- a whole number that is found where a number is expected is too great
abbrev pub whole_text : Expected → List ℕ
whole_text expected.Number = codes "a greater one"
whole_text expected.Text = codes "a whole number"
whole_text expected.Flag = codes "a whole number"
whole_text expected.Array = codes "a whole number"
whole_text expected.Object = codes "a whole number"

-- of the other numbers, those that are not expected
abbrev pub number_text : Expected → List ℕ
number_text expected.Number =
    codes "a number that is negative, too large, or written with a point or an exponent"
number_text expected.Text = codes "a number"
number_text expected.Flag = codes "a number"
number_text expected.Array = codes "a number"
number_text expected.Object = codes "a number"

abbrev pub found_text : Expected → Found → List ℕ
found_text expected found.Whole = whole_text expected
found_text expected found.Other = number_text expected
found_text expected found.Null = codes "null"
found_text expected found.Text = codes "a text"
found_text expected found.Flag = codes "true or false"
found_text expected found.Array = codes "an array"
found_text expected found.Object = codes "an object"

abbrev pub wrong_text : Expected → Found → List ℕ
wrong_text expected found =
    codes "expected " ++ expected_text expected ++ codes ", found " ++ found_text expected found

abbrev pub quoted : List ℕ → List ℕ
quoted word = codes "\"" ++ word ++ codes "\""

-- the nearest word, where there is one
abbrev pub nearest_text : Option (List ℕ) → List ℕ
nearest_text None = []
nearest_text (Some word) = codes "; the nearest is " ++ quoted word

-- then all words, with what they are
abbrev pub words_text : Stray → List ℕ → List ℕ
words_text stray meaning = nearest_text stray.nearest ++ meaning ++ stray.words

abbrev pub member_text : Shown → List ℕ
member_text shown.Long = codes "there is a member with a long name"
member_text (shown.Text name) = codes "there is no member " ++ quoted name

-- of a member that may not stand there
abbrev pub unknown_text : Stray → List ℕ
unknown_text stray = member_text stray.text ++ words_text stray (codes "; these may stand here: ")

abbrev pub word_text : Shown → List ℕ
word_text shown.Long = codes "a long text is no word that stands here"
word_text (shown.Text word) = quoted word ++ codes " is no word that stands here"

-- of a text that is no word that may stand there
abbrev pub no_word_text : Stray → List ℕ
no_word_text stray = word_text stray.text ++ words_text stray (codes "; these are: ")

-- ---- F1 to F5 of a step, an action or an edit

-- a number that is none of so many
abbrev pub none_of_text : List ℕ → ℕ → List ℕ → ℕ → List ℕ
none_of_text word n words count =
    word ++ codes " " ++ decimal n ++ codes " is none of the " ++ words ++ codes " 0 to "
    ++ decimal (count - 1)

abbrev pub mutex_text : ℕ → ℕ → List ℕ
mutex_text mutex count =
    if count == 0
    then codes "mutex " ++ decimal mutex ++ codes " is none: the session has no mutexes"
    else none_of_text (codes "mutex") mutex (codes "mutexes") count

abbrev pub no_queue_text : ℕ → ℕ → List ℕ
no_queue_text queue count =
    if count == 0
    then codes "queue " ++ decimal queue ++ codes " is none: the session has no queues"
    else none_of_text (codes "queue") queue (codes "queues") count

abbrev pub mask_text : ℕ → ℕ → List ℕ
mask_text mask cores =
    codes "mask " ++ decimal mask ++ codes " has no bit below bit " ++ decimal cores

abbrev pub step_flaw_text : StepFlaw → List ℕ
step_flaw_text (flaws.Core core cores) = none_of_text (codes "core") core (codes "cores") cores
step_flaw_text (flaws.TickCore core) = codes "only core 0 has ticks"
step_flaw_text (flaws.Task task) = codes "no user task has such a name"
step_flaw_text (flaws.Mutex mutex mutexes) = mutex_text mutex mutexes
step_flaw_text (flaws.Queue queue queues) = no_queue_text queue queues
step_flaw_text (flaws.Mask mask cores) = mask_text mask cores
step_flaw_text flaws.Increment = codes "inc has to be 1 or more"
step_flaw_text flaws.Suspending = codes "only a session of format 3 suspends tasks"
step_flaw_text flaws.NoUnits = codes "a tick has one unit of time: units of the session has to be 2 or more"
step_flaw_text flaws.NoTime = codes "units has to be 1 or more"
step_flaw_text (flaws.Index index notes) =
    none_of_text (codes "index") index (codes "notifications") notes
step_flaw_text (flaws.NewPriority priority priorities) =
    codes "priority " ++ decimal priority ++ codes " has to be below " ++ decimal priorities
step_flaw_text (flaws.NewMask mask cores) = mask_text mask cores

-- a name that no user task has
abbrev pub no_name_text : Shown → List ℕ
no_name_text shown.Long = codes "no user task has that long name"
no_name_text (shown.Text name) = codes "no user task is named " ++ quoted name

-- the nearest name of a user task, where there is one
abbrev pub nearest_name_text : Option (List ℕ) → List ℕ
nearest_name_text None = []
nearest_name_text (Some name) = codes "; the nearest name is " ++ quoted name

-- ---- what is wrong at a location

abbrev pub shape_text : Detail → List ℕ
shape_text detail.None = codes "a member is missing, ill-typed or unknown"
shape_text detail.Missing = codes "this member is missing"
shape_text (detail.Unknown stray) = unknown_text stray
shape_text (detail.Wrong expected found) = wrong_text expected found
shape_text (detail.NoWord stray) = no_word_text stray
shape_text detail.NoFormat = codes "expected 1, 2 or 3"
shape_text detail.HasSteps = codes "the session of a rig has no steps"
shape_text (detail.OnePerCore cores) =
    codes "expected an array for each core, " ++ decimal cores ++ codes " of them"
shape_text (detail.Header flaw session) = codes "this header is not accepted"
shape_text (detail.Step flaw) = step_flaw_text flaw
shape_text (detail.NoTask name nearest) = no_name_text name ++ nearest_name_text nearest
shape_text (detail.Limit limit) =
    codes "limit is " ++ decimal limit ++ codes ", and may be 0 to " ++ decimal max_steps
shape_text (detail.Rule rule) = rule_text rule

-- F1 of the header has no path
abbrev pub fault_line : List ℕ → List ℕ → Detail → List ℕ
fault_line input path (detail.Header flaw session) = header_line input session flaw
fault_line input path more = line_at input path (shape_text more)

-- ---- the line

-- of a text that is refused for this, at this path, with what more is known of it; want of memory
-- is no refusal
abbrev pub IsFaultHint : List ℕ → Why → List ℕ → Detail → List ℕ → Type 0
IsFaultHint input NotJson path more hint = IsNotJsonHint input hint
IsFaultHint input BadShape path more hint = hint ≡ line_at input path (shape_text more)
IsFaultHint input (why.Bench fault) path more hint = hint ≡ fault_line input path more
IsFaultHint input NoMemory path more hint = ⊥

-- H3
abbrev pub too_long_line : List ℕ
too_long_line = codes "the input has more than " ++ decimal max_input ++ codes " bytes\n"

-- J2
abbrev pub too_many_steps_line : List ℕ
too_many_steps_line = codes "the session has more than " ++ decimal max_steps ++ codes " steps\n"

-- by what a text is read as: a bench document that is read is refused for its number of steps alone
abbrev pub IsBenchTextHint : List ℕ → Result (Bench Edit) TextFault → List ℕ → Type 0
IsBenchTextHint input (Ok bench) hint = hint ≡ too_many_steps_line
IsBenchTextHint input (Err fault) hint = IsFaultHint input fault.why fault.path fault.detail hint

-- a rig document that is read is not refused
abbrev pub IsRigTextHint : List ℕ → Result RigScript TextFault → List ℕ → Type 0
IsRigTextHint input (Ok rig) hint = hint ≡ []
IsRigTextHint input (Err fault) hint = IsFaultHint input fault.why fault.path fault.detail hint

-- by whether the input is too long
abbrev pub IsBenchHintWhere : Bool → List ℕ → List ℕ → Type 0
IsBenchHintWhere true input hint = hint ≡ too_long_line
IsBenchHintWhere false input hint = IsBenchTextHint input (bench_text input) hint

abbrev pub IsRigHintWhere : Bool → List ℕ → List ℕ → Type 0
IsRigHintWhere true input hint = hint ≡ too_long_line
IsRigHintWhere false input hint = IsRigTextHint input (rig_text input) hint

-- the line of a bench document that is refused
abbrev pub IsBenchHint : List ℕ → List ℕ → Type 0
IsBenchHint input hint = IsBenchHintWhere (nat_lt max_input (length input)) input hint

-- the line of a rig document that is refused
abbrev pub IsRigHint : List ℕ → List ℕ → Type 0
IsRigHint input hint = IsRigHintWhere (nat_lt max_input (length input)) input hint
