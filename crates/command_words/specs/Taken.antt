-- The values of options that clap took.
use Rattle.std.specs.Prelude.{◌≡◌, ⊤, List, ◌∷◌, Bool, true, Some, flat_map}
use Rattle.std.specs.List.{AllByRecursion}
use Rattle.std.specs.Option.{IsSomeAnd, option_map_or}
use Rattle.clap.specs.Facts.{parser_of_value}
use Rattle.clap.specs.ValueTests.{accepts}
use Rattle.clap.specs.Walk.{arg_by_id, reading_by}
use Rattle.clap.specs.Words.{App, Row, Rule, Shape, Text, built, is_simple_and_free, subcommand_rows_of}
use Rattle.clap.specs.declared.builder.value_parser.Reading.{Reading}
use Rattle.clap.specs.declared.builder.value_parser.Reading.TheVariants.{AsWritten}
use Rattle.command_words.specs.declared.parsed.Parsed.{Parsed}
use Rattle.command_words.specs.declared.parsed.Parsed.TheVariants.{Met, Said}

-- the program and its commands
abbrev pub shapes_of : App → List Shape
shapes_of program = (built program).top ∷ (built program).subs

-- the options of all of them
abbrev pub options_of : App → List Rule
options_of program = flat_map (λ shape. shape.rules) (shapes_of program)

-- Programs that these definitions tell of: their commands are simple, they want one of them, `help`
-- is none, and options of one id are alike.
pub record IsProgram (program : App) : Type 0 where
  pub is_simple : is_simple_and_free program ≡ true
  pub wants_command : (built program).top.subcommand_required ≡ true
  pub is_helpless :
      AllByRecursion (λ shape. shape.disable_help_subcommand ≡ true) (shapes_of program)
  pub are_alike :
      AllByRecursion (λ option. arg_by_id (options_of program) option.id ≡ Some option)
      (options_of program)

-- the option of this id takes the text
abbrev pub takes : App → Text → Text → Bool
takes program id text =
    option_map_or (λ option. accepts option.ignore_case (parser_of_value option.parser) text)
    (arg_by_id (options_of program) id) true

-- how the values of the option of this id are read
abbrev pub reading_in : App → Text → Reading
reading_in program id = option_map_or reading_by (arg_by_id (options_of program) id) AsWritten

-- the option of the row took its values
abbrev pub IsTaken : App → Row → Type 0
IsTaken program row =
    (reading_in program row.id ≡ row.reading)
    × AllByRecursion (λ text. takes program row.id text ≡ true) row.values

-- each option took its values
abbrev pub AreTaken : App → List Row → Type 0
AreTaken program rows = AllByRecursion (IsTaken program) rows

-- where a command is met, its options took their values
abbrev pub HasTaken : App → Parsed → Type 0
HasTaken program (Said saying) = ⊤
HasTaken program (Met matches) =
    IsSomeAnd (subcommand_rows_of matches) (λ met. AreTaken program met.1)
