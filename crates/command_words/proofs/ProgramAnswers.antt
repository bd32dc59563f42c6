-- What clap answers to the words of a program's command line.
use Rattle.std.proofs.Common.{◌≡◌, true, List, [], ◌∷◌, ◌++◌, flat_map, Option, Some, None, refl, sym, ap, ap₂, subst, ◌∙◌, inl, inr}
use Rattle.std.specs.Prelude.{IfSome}
use Rattle.std.specs.List.{AllByRecursion}
use Rattle.std.specs.Option.{IsSomeAnd}
use Rattle.clap.specs.Simple.{argument_words}
use Rattle.clap.specs.Faults.{is_free_app}
use Rattle.clap.specs.Walk.{arg_by_id}
use Rattle.clap.specs.Words.{App, HasKind, IsAmong, Kinds, Row, Rule, Shape, Text, built, fault_of, is_simple, is_simple_and_free, kind_of, subcommand_of}
use Rattle.clap.specs.declared.builder.value_parser.Reading.{Reading}
use Rattle.clap.specs.declared.error.Error.{Error}
use Rattle.clap.specs.declared.error.kind.ErrorKind.TheVariants.{OutOfMemory}
use Rattle.clap.proofs.WalkLemmas.{both}
use Rattle.command_words.specs.Answered.{Answered, answered_by, answered_in_words, met, said}
use Rattle.command_words.specs.Asking.{Class, class_of}
use Rattle.command_words.specs.Taken.{AreTaken, IsProgram, options_of, reading_in, shapes_of, takes}
use Rattle.command_words.proofs.ClapAnswers.{AskOne, RuleFits, ShapeFits, Yields, app_yields, asks_first}

split : {X : Type 0} (P : X → Type 0) (xs ys : List X) → AllByRecursion P (xs ++ ys) → AllByRecursion P xs × AllByRecursion P ys
split P [] ys all = (tt, all)
split P (x ∷ xs) ys all =
    let rest = split P xs ys all.1 in
    ((all.0, rest.0), rest.1)

module _ (program : App) where
  abbrev Value : Text → Text → Type 0
  Value id text = takes program id text ≡ true

  abbrev Read : Text → Reading → Type 0
  Read id how = reading_in program id ≡ how

  rules_fit : (rules : List Rule) → AllByRecursion (λ option. arg_by_id (options_of program) option.id ≡ Some option) rules → AllByRecursion
      (RuleFits Value Read) rules
  rules_fit [] alike = tt
  rules_fit (option ∷ options) alike =
      let is = alike.0 in
      (record { reading = rw is refl; values = λ text e. rw is e }, rules_fit options alike.1)

  shapes_fit : (shapes : List Shape) → AllByRecursion (λ shape. shape.disable_help_subcommand ≡ true) shapes → AllByRecursion
      (λ option. arg_by_id (options_of program) option.id ≡ Some option) (flat_map (λ shape. shape.rules) shapes)
      → AllByRecursion (ShapeFits Value Read) shapes
  shapes_fit [] helpless alike = tt
  shapes_fit (shape ∷ shapes) helpless alike =
      let parts = split (λ (option : Rule). arg_by_id (options_of program) option.id ≡ Some option) shape.rules (flat_map (λ shape. shape.rules) shapes) alike
      in
      (record { rules = rules_fit shape.rules parts.0; helpless = helpless.0 }, shapes_fit shapes helpless.1 parts.1)

  -- the kinds of error all say one thing; where there are none a command is met, with values that were taken
  yields : IsProgram program → (words : List Text) → Yields (fault_of program words) (IsSomeAnd (subcommand_of program words) (λ met. AreTaken program met.1))
  yields is words =
      let fits = shapes_fit (shapes_of program) is.is_helpless is.are_alike in
      app_yields Value Read (built program) fits.0 is.wants_command fits.1 (argument_words program words)

  module _ (is : IsProgram program) (words : List Text) (found : Option (Text × List Row))
      (kinds : is_simple_and_free program ≡ true → fault_of program words ≡ []) (finds : is_simple program ≡ true → found ≡ subcommand_of program words) where
    simple : is_simple program ≡ true
    simple = (both (is_simple program) (is_free_app (built program)) is.is_simple).0

    -- where clap gives matches, it meets what its definitions say
    pub meets : answered_by [] found ≡ answered_in_words program words
    unfolding answered_in_words
    meets = ap₂ answered_by (sym (kinds is.is_simple)) (finds simple)

    -- and the values of its options were taken
    pub meets_taken : IsSomeAnd found (λ found. AreTaken program found.1)
    meets_taken = subst (λ (found : Option (Text × List Row)). IsSomeAnd found (λ found. AreTaken program found.1)) (sym (finds simple))
        ((yields is words).1 (kinds is.is_simple))

  -- where clap gives an error, its kind says what
  pub errs : (words : List Text) (error : Error) (class : Class) → IsProgram program → HasKind (fault_of program words) error → class ≡ class_of (kind_of error)
      → (kind_of error ≡ OutOfMemory → ⊥) → said class ≡ answered_in_words program words
  unfolding answered_in_words
  errs words error class is (inl out) same memory = absurd (memory out)
  errs words error class is (inr among) same memory = ap said same ∙ go (fault_of program words) (yields is words).0 among
    where
      go : (kinds : Kinds) → AskOne kinds → IsAmong (kind_of error) kinds → said (class_of (kind_of error)) ≡ answered_by kinds (subcommand_of program words)
      go [] one among = absurd among
      go (kind ∷ kinds) one among = ap said (asks_first (kind_of error) kind kinds one among)

-- what is asked for by a command that is met
pub met_asks : {A : Type 0} (asks : Answered → A) (asked : A) (Taken : List Row → Type 0) (found : Option (Text × List Row)) → IsSomeAnd found
    (λ found. Taken found.1) → IfSome found (λ found. asked ≡ asks (met found.0 found.1))
    → asked ≡ asks (answered_by [] found)
met_asks asks asked Taken None taken is = absurd taken
met_asks asks asked Taken (Some found) taken is = is
