-- What a command line asks for: what clap is told, and what each of its answers means.
use Rattle.std.specs.Prelude.{◌≡◌, ⊤, string_bytes, ℕ, List, [], ◌∷◌, Bool, true, codes, Option, Some, IfSome, if◌then◌else◌, pos}
use Rattle.std.specs.Str.{bytes_eq}
use Rattle.clap.specs.ValueTests.{is_unsigned_in}
use Rattle.clap.specs.Words.{App, Row, Rule, Text, one_of}
use Rattle.clap.specs.declared.builder.value_parser.ValueParser.TheVariants.{Signed}
use Rattle.command_words.specs.Answered.{Answered, answered, met, said}
use Rattle.command_words.specs.Asking.{flag_in, helps, is_flag, number_in}
use Rattle.command_words.specs.Said.{IsMistake}
use Rattle.command_words.specs.declared.saying.Saying.{Saying}
use Rattle.command_words.specs.declared.saying.Saying.TheVariants as saying
use Rattle.command_words.specs.Printed.{command_app, flag_rule, option_rule, program_app, with_commands}
use Rattle.bench_types.specs.Limits.{max_span}
use Rattle.bench_commands.specs.declared.execution.Mode.{Mode}
use Rattle.bench_commands.specs.declared.execution.Mode.TheVariants.{Replay, WhatIf}
use Rattle.bench_commands.specs.declared.command.Request.{Request}
use Rattle.bench_commands.specs.declared.command.Request.TheVariants.{Run, Record, Help, Bad}
use Rattle.bench_commands.specs.Run.{has_span}

-- a run, a recording, the text of help, or nothing that the program does
pub data Asked : Type 0 where
  a_run : Mode → Asked
  a_recording : Asked
  help : Asked
  a_mistake : Asked

-- ---- what a request asks for

abbrev pub asked_in : Request → Asked
asked_in (Run mode) = a_run mode
asked_in Record = a_recording
asked_in (Help text) = help
asked_in (Bad text) = a_mistake

-- the text of help or of a mistake that it tells
abbrev pub text_told : Request → List ℕ
text_told (Run mode) = []
text_told Record = []
text_told (Help text) = string_bytes text
text_told (Bad text) = string_bytes text

-- a mistake is told by a text that begins with `error: `
abbrev pub TellsMistake : Request → Type 0
TellsMistake (Run mode) = ⊤
TellsMistake Record = ⊤
TellsMistake (Help text) = ⊤
TellsMistake (Bad text) = IsMistake (string_bytes text)

-- what is told of what clap says: its own text; the program has no version
abbrev pub text_of_saying : Saying → List ℕ
text_of_saying (saying.Help text) = string_bytes text
text_of_saying saying.Version = codes "error: smp_bench tells no version\n"
text_of_saying (saying.Mistake text) = string_bytes text

-- a session may be opened with the span of the run, if one is asked for
abbrev pub can_run : Request → Bool
can_run (Run mode) = has_span mode
can_run Record = true
can_run (Help text) = true
can_run (Bad text) = true

-- ---- what clap is told

-- the option `--span`: a whole number from 1 to max_span
abbrev pub span_rule : Rule
span_rule = record (option_rule (codes "span")) { parser = Some (Signed (pos 1) (pos max_span)) }

-- the flag `--tally`
abbrev pub tally_rule : Rule
tally_rule = flag_rule (codes "tally")

-- the command `replay` with its options
abbrev pub replay_app : App
replay_app = command_app (codes "replay") (span_rule ∷ tally_rule ∷ [])

-- the command `whatif` with its option
abbrev pub what_if_app : App
what_if_app = command_app (codes "whatif") (span_rule ∷ [])

-- the command `record`, which has no options
abbrev pub record_app : App
record_app = command_app (codes "record") []

-- the program with its commands
abbrev pub bench_app : App
bench_app =
    with_commands (program_app (codes "smp_bench")) (replay_app ∷ what_if_app ∷ record_app ∷ [])

-- ---- what clap takes as a value

-- digits that write a span, with or without a plus sign before them
abbrev pub is_span : Text → Bool
is_span = is_unsigned_in 1 max_span

-- options whose values clap took
pub record AreTaken (options : List Row) : Type 0 where
  pub span : IfSome (one_of (codes "span") options) (λ text. is_span text ≡ true)
  pub tally : IfSome (one_of (codes "tally") options) (λ text. is_flag text ≡ true)

-- ---- what its answers mean

-- the span where none is given
abbrev pub default_span : ℕ
default_span = 64

-- the span that the options give
abbrev pub span_in : List Row → ℕ
span_in options = number_in (codes "span") options default_span

-- whether the flag is there
abbrev pub tally_in : List Row → Bool
tally_in = flag_in (codes "tally")

-- the run that a command with this name and these options asks for
abbrev pub mode_of : Text → List Row → Mode
mode_of name options =
    if bytes_eq name (codes "whatif") then WhatIf (span_in options)
    else Replay (span_in options) (tally_in options)

-- what a command with this name and these options asks for
abbrev pub asked_for : Text → List Row → Asked
asked_for name options =
    if bytes_eq name (codes "record") then a_recording else a_run (mode_of name options)

-- by what clap answers; there is no version that the program tells
abbrev pub asked_by : Answered → Asked
asked_by (said helps) = help
asked_by (said _) = a_mistake
asked_by (met name options) = asked_for name options

-- the words of a command line, the program's name first; none where one of them is no text
abbrev pub asked : Option (List Text) → Asked
asked words = asked_by (answered bench_app words)
