-- What clap answers to the words of a command line.
use Rattle.std.specs.Prelude.{⊤, List, [], ◌∷◌, Option, Some, None}
use Rattle.clap.specs.Words.{App, Kinds, Row, Text, fault_of, subcommand_of, subcommand_rows_of}
use Rattle.command_words.specs.declared.parsed.Parsed.{Parsed}
use Rattle.command_words.specs.declared.parsed.Parsed.TheVariants.{Met, Said}
use Rattle.command_words.specs.Asking.{Class, class_of, mistakes}
use Rattle.command_words.specs.Said.{SaysMistake, class_in}

-- it says something in place of a command, or meets the command of this name with these options
pub data Answered : Type 0 where
  said : Class → Answered
  met : Text → List Row → Answered

-- by the kinds that clap's error may have, which all say the same, or else by what it met
abbrev pub answered_by : Kinds → Option (Text × List Row) → Answered
answered_by (kind ∷ kinds) found = said (class_of kind)
answered_by [] None = said mistakes
answered_by [] (Some found) = met found.0 found.1

-- to the words of a command line of the program, its name first
unfoldable pub answered_in_words : App → List Text → Answered
answered_in_words program words =
    answered_by (fault_of program words) (subcommand_of program words)

-- the same; none where one of the words is no text
abbrev pub answered : App → Option (List Text) → Answered
answered program (Some words) = answered_in_words program words
answered program None = said mistakes

-- what an answer says
abbrev pub answered_in : Parsed → Answered
answered_in (Said saying) = said (class_in saying)
answered_in (Met matches) = answered_by [] (subcommand_rows_of matches)

-- a mistake is told by a text that begins with `error: `
abbrev pub ParsesMistake : Parsed → Type 0
ParsesMistake (Said saying) = SaysMistake saying
ParsesMistake (Met matches) = ⊤
