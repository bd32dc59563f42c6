-- What a command line asks for: what clap is told, and what it answers.
use Rattle.std.specs.Prelude.{⊤, ℕ, List, [], ◌∷◌, ◌++◌, Bool, true, codes, string_bytes, Option, Some, None, option_map, Result, Ok, Err, pos, if◌then◌else◌}
use Rattle.std.specs.Str.{bytes_eq}
use Rattle.clap.specs.Simple.{on_top}
use Rattle.clap.specs.Words.{App, Row, Rule, Text, new_rule}
use Rattle.clap.specs.declared.builder.action.ArgAction.TheVariants.{Append}
use Rattle.clap.specs.declared.builder.value_parser.ValueParser.{ValueParser}
use Rattle.clap.specs.declared.builder.value_parser.ValueParser.TheVariants.{Signed}
use Rattle.command_words.specs.Answered.{Answered, answered, met, said}
use Rattle.command_words.specs.Asking.{helps, mistakes, versions}
use Rattle.command_words.specs.Said.{IsMistake}
use Rattle.command_words.specs.Printed.{command_app, flag_rule, option_rule, program_app, with_commands}
use Rattle.task_programs.specs.Limits.{max_ticks}
use Rattle.view_commands.specs.Options.{command_of, documents_in, file_in, strict_in}
use Rattle.view_commands.specs.RunOptions.{runs_in}
use Rattle.view_commands.specs.declared.request.Command.{Command}
use Rattle.view_commands.specs.declared.request.Job.{Job}
use Rattle.view_commands.specs.declared.request.SessionRuns.{SessionRuns}
use Rattle.view_commands.specs.declared.run_options.RunsFault.{RunsFault}
use Rattle.view_commands.specs.declared.run_options.RunsFault.TheVariants.{TwoWays, LoneTies, NoOrder}
use Rattle.view_commands.specs.declared.request.Request.{Request}
use Rattle.view_commands.specs.declared.request.Request.TheVariants.{Show, Help, Version, Lacking, Bad}

-- a view of a file or of standard input, the text of help, the version, a command that lacks what
-- this text says, or nothing that the program does
pub data Asked : Type 0 where
  a_view : Job → Option Text → Asked
  help : Asked
  version : Asked
  lacks : List ℕ → Asked
  a_mistake : Asked

-- ---- what clap is told

-- the flags `--settle`, `--keep-work`, `--strict` and `--json`
abbrev pub settle_rule : Rule
settle_rule = flag_rule (codes "settle")

abbrev pub keep_work_rule : Rule
keep_work_rule = flag_rule (codes "keep-work")

abbrev pub strict_rule : Rule
strict_rule = flag_rule (codes "strict")

abbrev pub json_rule : Rule
json_rule = flag_rule (codes "json")

-- the option `--ties`
abbrev pub ties_rule : Rule
ties_rule = option_rule (codes "ties")

-- a number below 2^32
abbrev pub a_number : ValueParser
a_number = Signed (pos 0) (pos 4294967295)

-- the options `--from` and `--to`, each a number
abbrev pub from_rule : Rule
from_rule = record (option_rule (codes "from")) { parser = Some a_number }

abbrev pub to_rule : Rule
to_rule = record (option_rule (codes "to")) { parser = Some a_number }

-- the option `--task`, which may stand several times
abbrev pub task_rule : Rule
task_rule = record (option_rule (codes "task")) { action = Some Append }

-- the option `--core`, a number, which may stand several times
abbrev pub core_rule : Rule
core_rule = record (option_rule (codes "core")) { action = Some Append; parser = Some a_number }

-- the option `--axis`
abbrev pub axis_rule : Rule
axis_rule = option_rule (codes "axis")

-- the options `--at-most` and `--at-least`, which may stand several times
abbrev pub at_most_rule : Rule
at_most_rule = record (option_rule (codes "at-most")) { action = Some Append }

abbrev pub at_least_rule : Rule
at_least_rule = record (option_rule (codes "at-least")) { action = Some Append }

-- the options `--task` and `--less` of advice, each of which has to be there
abbrev pub judged_rule : Rule
judged_rule = record (new_rule (codes "judged")) {
  long = Some (codes "task");
  value_names = 1;
  required = true;
}

abbrev pub less_rule : Rule
less_rule = record (option_rule (codes "less")) { required = true }

-- the options `--over` and `--best`, a number
abbrev pub over_rule : Rule
over_rule = option_rule (codes "over")

abbrev pub best_rule : Rule
best_rule = record (option_rule (codes "best")) { parser = Some a_number }

-- the option `--ticks`, a number
abbrev pub ticks_rule : Rule
ticks_rule = record (option_rule (codes "ticks")) { parser = Some (Signed (pos 0) (pos max_ticks)) }

-- the name of a file, which may be left out
abbrev pub file_rule : Rule
file_rule = record (new_rule (codes "file")) { value_names = 1 }

-- the commands, with their options
abbrev pub trace_app : App
trace_app =
    command_app (codes "trace")
    (settle_rule ∷ keep_work_rule ∷ ties_rule ∷ from_rule ∷ to_rule ∷ task_rule ∷ core_rule
    ∷ strict_rule ∷ file_rule ∷ [])

abbrev pub session_app : App
session_app = command_app (codes "session") (strict_rule ∷ file_rule ∷ [])

abbrev pub settle_app : App
settle_app =
    command_app (codes "settle") (keep_work_rule ∷ ties_rule ∷ strict_rule ∷ file_rule ∷ [])

abbrev pub compare_app : App
compare_app =
    command_app (codes "compare")
    (settle_rule ∷ keep_work_rule ∷ ties_rule ∷ strict_rule ∷ file_rule ∷ [])

abbrev pub timeline_app : App
timeline_app =
    command_app (codes "timeline")
    (settle_rule ∷ keep_work_rule ∷ ties_rule ∷ axis_rule ∷ from_rule ∷ to_rule ∷ strict_rule
    ∷ file_rule ∷ [])

abbrev pub page_app : App
page_app =
    command_app (codes "page")
    (settle_rule ∷ keep_work_rule ∷ ties_rule ∷ axis_rule ∷ from_rule ∷ to_rule ∷ strict_rule
    ∷ file_rule ∷ [])

abbrev pub report_app : App
report_app =
    command_app (codes "report")
    (settle_rule ∷ keep_work_rule ∷ ties_rule ∷ json_rule ∷ strict_rule ∷ file_rule ∷ [])

abbrev pub check_app : App
check_app =
    command_app (codes "check")
    (settle_rule ∷ keep_work_rule ∷ ties_rule ∷ at_most_rule ∷ at_least_rule ∷ strict_rule
    ∷ file_rule ∷ [])

abbrev pub advise_app : App
advise_app =
    command_app (codes "advise")
    (settle_rule ∷ keep_work_rule ∷ ties_rule ∷ judged_rule ∷ less_rule ∷ over_rule ∷ best_rule
    ∷ strict_rule ∷ file_rule ∷ [])

abbrev pub simulate_app : App
simulate_app = command_app (codes "simulate") (ticks_rule ∷ strict_rule ∷ file_rule ∷ [])

-- the program with its version and its commands
abbrev pub versioned_app : App
versioned_app = on_top (λ shape. record shape { has_version = true }) (program_app (codes "smp_view"))

-- with those that show runs step by step
abbrev pub showing_app : App
showing_app =
    with_commands versioned_app
    (trace_app ∷ session_app ∷ settle_app ∷ compare_app ∷ timeline_app ∷ [])

-- with all of them
abbrev pub view_app : App
view_app =
    with_commands versioned_app
    (trace_app ∷ session_app ∷ settle_app ∷ compare_app ∷ timeline_app ∷ report_app
    ∷ check_app ∷ advise_app ∷ page_app ∷ simulate_app ∷ [])

-- ---- what it answers

-- where to read on, at the end of what is told of a mistake
abbrev pub try_help : List ℕ
try_help = codes "\n\nFor more information, try '--help'.\n"

-- that a check has no limits, or one that is not written as such
abbrev pub no_limits : List ℕ
no_limits =
    codes "error: check takes limits, each a name and a whole number: "
    ++ codes "--at-most control.blocked.mutex=3" ++ try_help

-- that a word names no axis
abbrev pub no_axis : List ℕ
no_axis = codes "error: --axis takes place, tick or time" ++ try_help

-- that a word names no changes
abbrev pub no_families : List ℕ
no_families =
    codes "error: --over takes priority, mask, pin and order, with commas between them" ++ try_help

-- that the options name two ways to make runs
abbrev pub two_ways : List ℕ
two_ways =
    codes "error: --settle and --keep-work are two ways to make runs: take one" ++ try_help

-- that they say which calls come first, and not that runs keep work
abbrev pub lone_ties : List ℕ
lone_ties = codes "error: --ties is for --keep-work" ++ try_help

-- that a word names no order of calls
abbrev pub no_order : List ℕ
no_order = codes "error: --ties takes oldest or core" ++ try_help

-- where the options don't say how runs are made, what is told of that
abbrev pub fault_text : RunsFault → List ℕ
fault_text TwoWays = two_ways
fault_text LoneTies = lone_ties
fault_text NoOrder = no_order

-- by the name of a command, what is told where it lacks what clap does not ask for
abbrev pub lacking_text : Text → List ℕ
lacking_text name =
    if bytes_eq name (codes "check") then no_limits
    else (if bytes_eq name (codes "timeline") then no_axis
    else (if bytes_eq name (codes "page") then no_axis else no_families))

-- what a command that lacks nothing is about, by how the runs of sessions are made
abbrev pub job_with : Text → List Row → SessionRuns → Command → Job
job_with name options sessions command = record {
  command = command;
  sessions = sessions;
  documents = documents_in name options;
  strict = strict_in options;
}

-- the same; none, where it lacks what clap does not ask for
abbrev pub job_of : Text → List Row → SessionRuns → Option Job
job_of name options sessions =
    option_map (job_with name options sessions) (command_of name options)

-- a job and the name of a file, or this is told
abbrev asked_with : List ℕ → Option Job → Option Text → Asked
asked_with lack (Some job) file = a_view job file
asked_with lack None file = lacks lack

-- what a command with this name and these options asks for, by how the runs of sessions are made
abbrev pub asked_of : Text → List Row → SessionRuns → Asked
asked_of name options sessions =
    asked_with (lacking_text name) (job_of name options sessions) (file_in options)

-- the same; this is told where the options don't say how
abbrev pub asked_by_runs : Text → List Row → Result SessionRuns RunsFault → Asked
asked_by_runs name options (Ok sessions) = asked_of name options sessions
asked_by_runs name options (Err fault) = lacks (fault_text fault)

-- what a command with this name and these options asks for
abbrev pub asked_for : Text → List Row → Asked
asked_for name options = asked_by_runs name options (runs_in name options)

-- by what clap answers
abbrev pub asked_by : Answered → Asked
asked_by (said helps) = help
asked_by (said versions) = version
asked_by (said mistakes) = a_mistake
asked_by (met name options) = asked_for name options

-- what the words of a command line ask for, the program's name first; none where one of them is no
-- text
abbrev pub asked : Option (List Text) → Asked
asked words = asked_by (answered view_app words)

-- ---- what a request asks for

abbrev pub asked_in : Request → Asked
asked_in (Show job file) = a_view job file
asked_in (Help text) = help
asked_in Version = version
asked_in (Lacking text) = lacks (string_bytes text)
asked_in (Bad text) = a_mistake

-- the text of help or of a mistake that it tells
abbrev pub text_told : Request → List ℕ
text_told (Show job file) = []
text_told (Help text) = string_bytes text
text_told Version = []
text_told (Lacking text) = string_bytes text
text_told (Bad text) = string_bytes text

-- a mistake is told by a text that begins with `error: `
abbrev pub TellsMistake : Request → Type 0
TellsMistake (Show job file) = ⊤
TellsMistake (Help text) = ⊤
TellsMistake Version = ⊤
TellsMistake (Lacking text) = ⊤
TellsMistake (Bad text) = IsMistake (string_bytes text)

-- ---- the version

abbrev pub version_number : List ℕ
version_number = codes "0.1.0"

-- the program's name and its version
abbrev pub version_line : List ℕ
version_line = codes "smp_view " ++ version_number ++ codes "\n"
