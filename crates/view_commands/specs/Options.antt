-- What clap's answers mean: the options of a command, a row for each, and the name of a file.
use Rattle.std.specs.Prelude.{◌≡◌, ◌&&◌, ◌^◌, ◌-◌, ◌==◌, ℕ, List, [], ◌∷◌, ◌++◌, flat_map, length, map, Bool, true, false, codes, Option, Some, None, IfSome}
use Rattle.std.specs.Prelude.{is_some, option_and_then, option_map, unwrap_or, if◌then◌else◌}
use Rattle.std.specs.Path.{rsplit_once}
use Rattle.std.specs.List.{list_all}
use Rattle.std.specs.Option.{option_map_or}
use Rattle.std.specs.Str.{bytes_eq}
use Rattle.clap.specs.ValueTests.{is_unsigned_in}
use Rattle.clap.specs.Words.{Row, Text, all_of, first_of, many_of, one_of}
use Rattle.command_words.specs.Asking.{flag_in, is_flag, number_in, number_of}
use Rattle.ranked_changes.specs.declared.change.Family.{Family}
use Rattle.run_pictures.specs.declared.frame.Axis.{Axis}
use Rattle.run_pictures.specs.declared.frame.Axis.TheVariants as by
use Rattle.run_pictures.specs.declared.picture.Extent.{Extent}
use Rattle.report_figures.specs.Names.{told_text}
use Rattle.report_figures.specs.declared.limits.Bound.{Bound}
use Rattle.report_figures.specs.declared.limits.Bound.TheVariants.{AtMost, AtLeast}
use Rattle.run_views.specs.declared.places.Places.{Places}
use Rattle.session_reports.specs.Asked.{Asked}
use Rattle.session_reports.specs.declared.report.Form.TheVariants.{Json, Table}
use Rattle.shown_runs.specs.declared.ask.Ask.{Ask}
use Rattle.shown_runs.specs.declared.ask.Ask.TheVariants as ask
use Rattle.shown_runs.specs.Selected.{Selected}
use Rattle.task_programs.specs.Limits.{max_ticks}
use Rattle.view_commands.specs.Families.{family_of}
use Rattle.view_commands.specs.declared.request.Command.{Command}
use Rattle.view_commands.specs.declared.request.Command.TheVariants.{Advise, Show}
use Rattle.view_commands.specs.declared.request.Documents.{Documents}
use Rattle.view_commands.specs.declared.request.Documents.TheVariants.{All, Workloads}

-- digits that write a number below 2^32, with or without a plus sign before them
abbrev pub is_number : Text → Bool
is_number = is_unsigned_in 0 (2 ^ 32 - 1)

-- below 2^64, as a value of a number of a run
abbrev pub is_amount : Text → Bool
is_amount = is_unsigned_in 0 (2 ^ 64 - 1)

-- at most the ticks that a workload may have
abbrev pub is_ticks : Text → Bool
is_ticks = is_unsigned_in 0 max_ticks

-- ---- each option

-- whether the flag is there
abbrev pub strict_in : List Row → Bool
strict_in = flag_in (codes "strict")

abbrev pub json_in : List Row → Bool
json_in = flag_in (codes "json")

-- from the one place to the other; all places, where none is given
abbrev pub places_in : List Row → Places
places_in options = record {
  from = number_in (codes "from") options 0;
  to = number_in (codes "to") options (2 ^ 32 - 1);
}

-- what stands behind the option of this id, each time
abbrev pub texts_in : Text → List Row → List Text
texts_in id options = unwrap_or (all_of id options) []

-- the names of tasks
abbrev pub tasks_in : List Row → List Text
tasks_in options = texts_in (codes "task") options

-- the numbers of cores, likewise
abbrev pub cores_in : List Row → List ℕ
cores_in options = map number_of (unwrap_or (many_of (codes "core") options) [])

-- the number of ticks, where one is given
abbrev pub ticks_in : List Row → Option ℕ
ticks_in options = option_map number_of (one_of (codes "ticks") options)

-- the name of a file; none, where that is `-`, which stands for standard input
abbrev pub file_named : Text → Option Text
file_named name = if bytes_eq name (codes "-") then None else Some name

-- the file that is named; none is standard input
abbrev pub file_in : List Row → Option Text
file_in options = option_and_then file_named (first_of (codes "file") options)

-- ---- limits

-- the name that stands before the sign `=`, and the number behind it
abbrev pub number_behind : Text × Text → Option (Text × ℕ)
number_behind parts =
    if is_amount parts.1 then Some (parts.0, number_of parts.1) else None

-- a limit is cut at its last `=`, since names of tasks may have one
abbrev pub limit_parts : Text → Option (Text × ℕ)
limit_parts text = option_and_then number_behind (rsplit_once 61 text)

-- it is written as a limit
abbrev pub is_limit : Text → Bool
is_limit text = is_some (limit_parts text)

-- by what a value may be, the limit of a name
abbrev pub limit_with : (ℕ → Bound) → Option (Text × ℕ) → List Asked
limit_with bound None = []
limit_with bound (Some parts) = record { name = parts.0; bound = bound parts.1 } ∷ []

abbrev pub limits_from : (ℕ → Bound) → Text → List Asked
limits_from bound text = limit_with bound (limit_parts text)

-- there are some of either kind, and each is written as a limit
abbrev pub are_limits : List Text → List Text → Bool
are_limits most least =
    if length most == 0 && length least == 0 then false
    else (list_all is_limit most && list_all is_limit least)

-- the greatest values, then the least ones
abbrev pub limits_in : List Row → List Asked
limits_in options =
    flat_map (limits_from AtMost) (texts_in (codes "at-most") options)
    ++ flat_map (limits_from AtLeast) (texts_in (codes "at-least") options)

-- ---- commands

-- the part of a trace
abbrev pub selection_in : List Row → Selected
selection_in options = record {
  places = places_in options;
  tasks = tasks_in options;
  cores = cores_in options;
}

-- the axis that a word names
abbrev pub axis_of : Text → Option Axis
axis_of word =
    if bytes_eq word (codes "place") then Some by.Places
    else if bytes_eq word (codes "tick") then Some by.Ticks
    else if bytes_eq word (codes "time") then Some by.Time
    else None

-- places, where none is named
abbrev pub axis_in : List Row → Option Axis
axis_in options = option_map_or axis_of (first_of (codes "axis") options) (Some by.Places)

-- the places that are drawn, along this axis
abbrev pub extent_by : List Row → Axis → Extent
extent_by options axis = record { places = places_in options; axis = axis }

-- a picture, if an axis is named
abbrev pub picture_of : List Row → Option Ask
picture_of options = option_map (λ axis. ask.Timeline (extent_by options axis)) (axis_in options)

-- a page, if an axis is named
abbrev pub page_of : List Row → Option Ask
page_of options = option_map (λ axis. ask.Page (extent_by options axis)) (axis_in options)

abbrev pub report_of : List Row → Ask
report_of options = ask.Report (if json_in options then Json else Table)

-- a check, if there are limits and all are written as such
abbrev pub check_of : List Row → Option Ask
check_of options =
    if are_limits (texts_in (codes "at-most") options) (texts_in (codes "at-least") options)
    then Some (ask.Check (limits_in options)) else None

-- by the name of a command that lacks nothing
abbrev pub view_of : Text → List Row → Ask
view_of name options =
    if bytes_eq name (codes "trace") then ask.Trace (selection_in options)
    else if bytes_eq name (codes "compare") then ask.Compare
    else if bytes_eq name (codes "report") then report_of options
    else ask.Session

-- by the name of a command that shows runs, what is asked of them; none, where it lacks what clap
-- does not ask for
abbrev pub ask_of : Text → List Row → Option Ask
ask_of name options =
    if bytes_eq name (codes "check") then check_of options
    else if bytes_eq name (codes "timeline") then picture_of options
    else if bytes_eq name (codes "page") then page_of options
    else Some (view_of name options)

-- these changes are tried, where none are named
abbrev pub usual_families : Family
usual_families = record { priority = true; mask = true; pin = false; order = true }

abbrev pub family_in : List Row → Option Family
family_in options = option_map_or family_of (first_of (codes "over") options) (Some usual_families)

-- how many of the best are told, where no number is given
abbrev pub usual_best : ℕ
usual_best = 10

-- the number of a task's: what names of its numbers begin with, a full stop, and what follows
abbrev pub number_name : Text → Text → Text
number_name task rest = told_text task ++ codes "." ++ rest

-- advice, if there is a task, a number of it and changes to try
abbrev pub advice_with : Option Text → Option Text → Option Family → List Row → Option Command
advice_with (Some task) (Some rest) (Some family) options = Some (Advise (record {
  name = number_name task rest;
  family = family;
  best = number_in (codes "best") options usual_best;
}))
advice_with task rest family options = None

abbrev pub advice_of : List Row → Option Command
advice_of options =
    advice_with (first_of (codes "judged") options) (first_of (codes "less") options)
    (family_in options) options

-- By the name of a command and its options. None is one that lacks what clap does not ask for.
abbrev pub command_of : Text → List Row → Option Command
command_of name options =
    if bytes_eq name (codes "advise") then advice_of options
    else option_map Show (ask_of name options)

-- by the name of a command, which documents it reads
abbrev pub documents_in : Text → List Row → Documents
documents_in name options =
    if bytes_eq name (codes "simulate") then Workloads (ticks_in options) else All

-- ---- what clap takes as a value

-- options whose values clap took
pub record AreTaken (options : List Row) : Type 0 where
  pub settle : IfSome (one_of (codes "settle") options) (λ text. is_flag text ≡ true)
  pub keep_work : IfSome (one_of (codes "keep-work") options) (λ text. is_flag text ≡ true)
  pub strict : IfSome (one_of (codes "strict") options) (λ text. is_flag text ≡ true)
  pub json : IfSome (one_of (codes "json") options) (λ text. is_flag text ≡ true)
  pub from : IfSome (one_of (codes "from") options) (λ text. is_number text ≡ true)
  pub to : IfSome (one_of (codes "to") options) (λ text. is_number text ≡ true)
  pub best : IfSome (one_of (codes "best") options) (λ text. is_number text ≡ true)
  pub ticks : IfSome (one_of (codes "ticks") options) (λ text. is_ticks text ≡ true)
  pub cores : IfSome (many_of (codes "core") options) (λ texts. list_all is_number texts ≡ true)
