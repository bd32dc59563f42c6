-- What is read of options that took their values.
use Rattle.std.proofs.Common.{◌≡◌, Bool, true, false, List, [], ◌∷◌, map, Option, Some, None, refl, sym, subst, bytes_eq}
use Rattle.std.proofs.lemmas.Slice.Eq.{bytes_eq-Decides}
use Rattle.std.specs.Prelude.{IfSome, ⊤}
use Rattle.std.specs.List.{AllByRecursion, list_all}
use Rattle.std.specs.Option.{IsSomeAnd}
use Rattle.clap.specs.Values.{read_as}
use Rattle.clap.specs.Words.{App, Row, Text, many_of, one_of, subcommand_rows_of}
use Rattle.clap.specs.declared.builder.value_parser.Reading.{Reading}
use Rattle.command_words.specs.declared.parsed.Parsed.{Parsed}
use Rattle.command_words.specs.declared.parsed.Parsed.TheVariants.{Met, Said}
use Rattle.command_words.specs.Taken.{AreTaken, HasTaken, reading_in, takes}
use Rattle.command_words.proofs.ClapAnswers.{Reads, one_fits}

module _ (program : App) (id : Text) (test : Text → Bool) (holds : (given : Text) → takes program id given ≡ true → test (read_as (reading_in program id) given)
    ≡ true) where
  read_so : (how : Reading) (given : Text) → reading_in program id ≡ how → takes program id given ≡ true → test (read_as how given) ≡ true
  read_so how given read value = subst (λ (how : Reading). test (read_as how given) ≡ true) read (holds given value)

  -- the text that is read of an option is so, where each value that the option takes is read so
  pub one_taken : (rows : List Row) → AreTaken program rows → IfSome (one_of id rows) (λ text. test text ≡ true)
  one_taken rows taken = go (one_of id rows) (one_fits (λ id text. takes program id text ≡ true) (λ id how. reading_in program id ≡ how) id rows taken)
    where
      go : (found : Option Text) → IfSome found (Reads (λ id text. takes program id text ≡ true) (λ id how. reading_in program id ≡ how) id) → IfSome found
          (λ text. test text ≡ true)
      go None reads = tt
      go (Some text) (how, given, read, value, same) = subst (λ (t : Text). test t ≡ true) (sym same) (read_so how given read value)

  -- and so are all of them
  pub all_taken : (rows : List Row) → AreTaken program rows → IfSome (many_of id rows) (λ texts. list_all test texts ≡ true)
  all_taken [] taken = tt
  all_taken (r ∷ rs) taken = go (bytes_eq r.id id) refl (all_taken rs taken.1)
    where
      each : (values : List Text) → AllByRecursion (λ text. takes program id text ≡ true) values → reading_in program id ≡ r.reading → list_all test
          (map (read_as r.reading) values) ≡ true
      each [] all read = refl
      each (v ∷ vs) all read = rw (read_so r.reading v read all.0) (each vs all.1 read)

      go : (is : Bool) → bytes_eq r.id id ≡ is → IfSome (many_of id rs) (λ texts. list_all test texts ≡ true) → IfSome (many_of id (r ∷ rs))
          (λ texts. list_all test texts ≡ true)
      go true e rest =
          let same = (bytes_eq-Decides r.id id).0 e in
          rw e (each r.values (subst (λ id. AllByRecursion (λ text. takes program id text ≡ true) r.values) same taken.0.1)
          (subst (λ id. reading_in program id ≡ r.reading) same taken.0.0))
      go false e rest = rw e rest

-- where a command is met, its options are so
abbrev pub HasMet : (List Row → Type 0) → Parsed → Type 0
HasMet So (Said saying) = ⊤
HasMet So (Met matches) = IsSomeAnd (subcommand_rows_of matches) (λ met. So met.1)

-- they are, where options that took their values are
pub met_taken : (So : List Row → Type 0) (program app : App) (parsed met : Parsed) → ((rows : List Row) → AreTaken app rows → So rows) → program ≡ app → parsed
    ≡ met → HasTaken program parsed → HasMet So met
met_taken So program app parsed met so is same taken = go met (subst (HasTaken app) same (subst (λ (one : App). HasTaken one parsed) is taken))
  where
    found_so : (found : Option (Text × List Row)) → IsSomeAnd found (λ met. AreTaken app met.1) → IsSomeAnd found (λ met. So met.1)
    found_so None taken = taken
    found_so (Some met) taken = so met.1 taken

    go : (met : Parsed) → HasTaken app met → HasMet So met
    go (Said saying) taken = tt
    go (Met matches) taken = found_so (subcommand_rows_of matches) taken
