-- What clap is told of the program, and what the program asks for by its answers.
use Rattle.std.proofs.Common.{◌≡◌, ◌∙◌, Bool, true, false, if◌then◌else◌, bytes_eq, List, codes, Option, Some, None, refl, ap}
use Rattle.std.specs.Prelude.{IfSome}
use Rattle.std.specs.Option.{IsSomeAnd, option_map_or}
use Rattle.clap.specs.Words.{Row, Text, one_of}
use Rattle.bench_types.specs.Limits.{max_span}
use Rattle.bench_types.specs.Name.{is_within}
use Rattle.command_words.specs.Asking.{is_flag, number_of}
use Rattle.command_words.specs.Taken.{IsProgram}
use Rattle.command_words.specs.Taken.{AreTaken as ValuesTaken}
use Rattle.command_words.proofs.NumberTexts.{number_taken, number_within}
use Rattle.command_words.proofs.ValuesTaken.{one_taken}
use Rattle.bench_commands.specs.declared.command.Request.{Request}
use Rattle.bench_commands.specs.declared.command.Request.TheVariants.{Bad, Help, Record, Run}
use Rattle.bench_commands.specs.declared.execution.Mode.TheVariants.{Replay, WhatIf}
use Rattle.bench_commands.specs.Command.{AreTaken, Asked, a_mistake, a_recording, a_run, asked_for, asked_in, bench_app, can_run, default_span, help, is_span}
use Rattle.bench_commands.specs.Command.{span_in, tally_in}
use Rattle.bench_commands.specs.Run.{has_span}

pub is_program : IsProgram bench_app
is_program = record {
  is_simple = refl;
  wants_command = refl;
  is_helpless = (refl, (refl, (refl, (refl, tt))));
  are_alike = (refl, (refl, (refl, (refl, (refl, (refl, (refl, tt)))))));
}

pub taken : (rows : List Row) → ValuesTaken bench_app rows → AreTaken rows
taken rows given = record {
  span = one_taken bench_app (codes "span") is_span (number_taken 1 max_span) rows given;
  tally = one_taken bench_app (codes "tally") is_flag (λ text value. value) rows given;
}

-- a session may be opened with the span that is asked for, if one is
abbrev may_open : Asked → Bool
may_open (a_run mode) = has_span mode
may_open a_recording = true
may_open help = true
may_open a_mistake = true

can_open : (request : Request) → can_run request ≡ may_open (asked_in request)
can_open (Run mode) = refl
can_open Record = refl
can_open (Help text) = refl
can_open (Bad text) = refl

within : (text : Option Text) → IfSome text (λ text. is_span text ≡ true) → is_within 1 max_span (option_map_or number_of text default_span) ≡ true
within None taken = refl
within (Some text) taken = number_within 1 max_span text taken

opens : (name : Text) (options : List Row) → AreTaken options → may_open (asked_for name options) ≡ true
opens name options taken = by_name (bytes_eq name (codes "record")) (bytes_eq name (codes "whatif"))
  where
    by_name : (records tries : Bool) → may_open (if records then a_recording else a_run
        (if tries then WhatIf (span_in options) else Replay (span_in options) (tally_in options))) ≡ true
    by_name true tries = refl
    by_name false true = within (one_of (codes "span") options) taken.span
    by_name false false = within (one_of (codes "span") options) taken.span

-- so it may with the span that a command asks for
pub met_opens : (found : Option (Text × List Row)) (request : Request) → IsSomeAnd found (λ met. AreTaken met.1) → IfSome found
    (λ met. asked_in request ≡ asked_for met.0 met.1) → can_run request ≡ true
met_opens None request taken is = absurd taken
met_opens (Some met) request taken is = can_open request ∙ ap may_open is ∙ opens met.0 met.1 taken
