-- How options say that the runs of sessions are made.
use Rattle.std.specs.Prelude.{◌||◌, List, Bool, codes, Option, Some, None, is_some, Result, Ok, Err, if◌then◌else◌}
use Rattle.std.specs.Option.{option_map_or}
use Rattle.std.specs.Str.{bytes_eq}
use Rattle.clap.specs.Words.{Row, Text, first_of}
use Rattle.command_words.specs.Asking.{flag_in}
use Rattle.kept_runs.specs.declared.call_order.CallOrder.{CallOrder}
use Rattle.kept_runs.specs.declared.call_order.CallOrder.TheVariants.{Oldest, LeastCore}
use Rattle.view_commands.specs.declared.request.SessionRuns.{SessionRuns}
use Rattle.view_commands.specs.declared.request.SessionRuns.TheVariants.{AsWritten, Settled, Kept}
use Rattle.view_commands.specs.declared.run_options.RunsFault.{RunsFault}
use Rattle.view_commands.specs.declared.run_options.RunsFault.TheVariants.{TwoWays, LoneTies, NoOrder}

-- ---- each option

-- whether the flag is there
abbrev pub settle_in : List Row → Bool
settle_in = flag_in (codes "settle")

abbrev pub keep_work_in : List Row → Bool
keep_work_in = flag_in (codes "keep-work")

-- the word that says which of several calls comes first, where there is one
abbrev pub ties_in : List Row → Option Text
ties_in options = first_of (codes "ties") options

-- the order that a word names
abbrev pub order_of : Text → Option CallOrder
order_of word =
    if bytes_eq word (codes "oldest") then Some Oldest
    else if bytes_eq word (codes "core") then Some LeastCore
    else None

-- the oldest call comes first, where no word is given
abbrev pub order_in : List Row → Option CallOrder
order_in options = option_map_or order_of (ties_in options) (Some Oldest)

-- ---- all of them

-- without `--keep-work`: settled ones are shown by `settle`, and else by the flag
abbrev pub plain_in : Text → List Row → SessionRuns
plain_in name options =
    if bytes_eq name (codes "settle") || settle_in options then Settled else AsWritten

-- by the order of calls, if a word names one
abbrev pub kept_by : Option CallOrder → Result SessionRuns RunsFault
kept_by (Some order) = Ok (Kept order)
kept_by None = Err NoOrder

-- with `--keep-work`
abbrev pub kept_in : List Row → Result SessionRuns RunsFault
kept_in options = if settle_in options then Err TwoWays else kept_by (order_in options)

-- by the name of a command and its options
abbrev pub runs_in : Text → List Row → Result SessionRuns RunsFault
runs_in name options =
    if keep_work_in options then kept_in options
    else if is_some (ties_in options) then Err LoneTies
    else Ok (plain_in name options)
