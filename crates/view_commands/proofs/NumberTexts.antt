-- Which texts `u64` reads.
use Rattle.std.proofs.Common.{◌≡◌, ◌<◌, ◌^◌, ◌-◌, Bool, true, false, refl, arith}
use Rattle.std.specs.Str.Parse.{IsNumeral, without_leading_plus}
use Rattle.clap.specs.Words.{Text}
use Rattle.clap.specs.declared.builder.value_parser.ValueParser.TheVariants.{Unsigned}
use Rattle.clap.proofs.ValueTestLemmas.{Accepts-accepts, accepts-Accepts}
use Rattle.command_words.specs.Asking.{number_of}
use Rattle.view_commands.specs.Options.{is_amount}

-- `u64` reads it
abbrev pub Reads : Text → Type 0
Reads text = IsNumeral 10 (without_leading_plus text) × (number_of text < 2 ^ 64)

-- what is read is a number
pub read_is_amount : (text : Text) → Reads text → is_amount text ≡ true
read_is_amount text reads = Accepts-accepts false (Unsigned 0 (2 ^ 64 - 1)) text (reads.0, omega (arith, reads.1), omega arith, omega (arith, reads.1))

-- what is not read is none
pub unread_is_none : (text : Text) → (Reads text → ⊥) → is_amount text ≡ false
unread_is_none text fails = go (is_amount text) refl
  where
    go : (is : Bool) → is_amount text ≡ is → is ≡ false
    go true is =
        let taken = accepts-Accepts false (Unsigned 0 (2 ^ 64 - 1)) text is in
        absurd (fails (taken.0, omega (arith, taken.3)))
    go false is = refl
