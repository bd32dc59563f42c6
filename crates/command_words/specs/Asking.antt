-- What clap's answers to the words of a command line mean.
use Rattle.std.specs.Prelude.{ℕ, List, Bool, false, codes}
use Rattle.std.specs.Option.{option_map_or}
use Rattle.std.specs.Str.{bytes_eq}
use Rattle.std.specs.Str.Parse.{digits_value, without_leading_plus}
use Rattle.clap.specs.ValueTests.{accepts}
use Rattle.clap.specs.Words.{Row, Text, one_of}
use Rattle.clap.specs.declared.builder.value_parser.ValueParser.TheVariants as parser
use Rattle.clap.specs.declared.error.kind.ErrorKind.{ErrorKind}
use Rattle.clap.specs.declared.error.kind.ErrorKind.TheVariants as kind

-- what an error of clap says: help that was asked for, the version, or that there is a mistake
pub data Class : Type 0 where
  helps : Class
  versions : Class
  mistakes : Class

-- by the kind of the error
abbrev pub class_of : ErrorKind → Class
class_of kind.DisplayHelp = helps
class_of kind.DisplayVersion = versions
class_of _ = mistakes

-- the number that decimal digits write, with or without a plus sign before them
abbrev pub number_of : Text → ℕ
number_of text = digits_value 10 (without_leading_plus text)

-- the value of a flag: `true` or `false`
abbrev pub is_flag : Text → Bool
is_flag text = accepts false parser.Bool text

-- ---- what the options of a command say, a row for each

-- whether the flag of this id is there
abbrev pub flag_in : Text → List Row → Bool
flag_in id options = option_map_or (bytes_eq (codes "true")) (one_of id options) false

-- the number that the option of this id gives, or else this one
abbrev pub number_in : Text → List Row → ℕ → ℕ
number_in id options other = option_map_or number_of (one_of id options) other
