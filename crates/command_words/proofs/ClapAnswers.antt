-- What clap answers to the words of a simple command: kinds of error that all ask for one thing, or
-- else values that its parsers take.
use Rattle.std.proofs.Common.{◌≡◌, ℕ, zero, suc, ◌+◌, ◌==◌, ◌&&◌, ◌||◌, ◌++◌, Bool, true, false, not, true≢false, List, [], ◌∷◌, length, drop, find, fold, min}
use Rattle.std.proofs.Common.{Option, Some, None, is_some, if◌then◌else◌, slice_get, nat_lt, codes, encode_utf8, chars, refl, sym, ap, subst, ◌∙◌, inl, inr}
use Rattle.std.proofs.Common.{bytes_eq, arith}
use Rattle.std.proofs.lemmas.Bool.Decides.{nat_tests}
use Rattle.std.specs.Prelude.{⊤, IfSome, option_map}
use Rattle.std.specs.List.{AllByRecursion}
use Rattle.std.specs.Option.{IsSomeAnd, option_map_or}
use Rattle.std.proofs.lemmas.Slice.Eq.{bytes_eq-Decides}
use Rattle.clap.specs.Lexer.{long_of, short_of}
use Rattle.clap.specs.Values.{read_as, refused_kind}
use Rattle.clap.specs.ValueTests.{accepts}
use Rattle.clap.specs.Facts.{parser_of_value, unwrap_or_range}
use Rattle.clap.specs.Matches.{count_text}
use Rattle.clap.specs.Words.{App, IsAmong, Kinds, Row, Rule, Shape, Text, one_of}
use Rattle.clap.specs.Kinds.{check_kinds, or_else, range_kinds, request_kinds, value_kinds}
use Rattle.clap.specs.Walk.{Held, Names, Outcome, Step, Waiting, Walk, action_of, after_flag, after_step, answers_to, arg_by_id, arg_by_index, arg_by_long}
use Rattle.clap.specs.Walk.{arg_by_short, at_row, attached_value, bundle_met, bundle_step, count_of, default_rows, done, finished, flag_met, has_row, idle}
use Rattle.clap.specs.Walk.{is_empty, is_pending, long_met, long_or_other, more_values, most_values, new_count, next, nothing_held, option, option_met}
use Rattle.clap.specs.Walk.{option_word, plain, plain_word, positional, reacted, reading_by, refused, settled, settled_rows, short_met, short_or_plain}
use Rattle.clap.specs.Walk.{stop_after, subcommand, subcommand_met, subcommand_or_other, takes_several, takes_values, to_positional, trailing, used, used_as}
use Rattle.clap.specs.Walk.{used_by_id, value, values_or_missing, waits, walk, walk_from, walked, walked_from, with_count, with_default, with_values, without}
use Rattle.clap.specs.Walk.{word_met}
use Rattle.clap.specs.Simple.{entered, label_of, names_of, rows_at}
use Rattle.clap.specs.Faults.{action_fault, built_fault, bundle_fault, bundle_step_fault, default_fault, defaults_fault, entered_fault, flag_word_fault}
use Rattle.clap.specs.Faults.{flags_fault, given_default_fault, level_fault, long_fault, option_fault, other_fault, positional_fault, react_fault, repeat_fault}
use Rattle.clap.specs.Faults.{set_fault, settle_fault, short_fault, step_fault, stray_fault, turn_fault, use_fault, values_fault, walk_fault, word_fault}
use Rattle.clap.specs.declared.builder.action.ArgAction.{ArgAction}
use Rattle.clap.specs.declared.builder.action.ArgAction.TheVariants.{Append, Count, Help, HelpLong, HelpShort, Set, SetFalse, SetTrue, Version}
use Rattle.clap.specs.declared.builder.value_parser.Reading.{Reading}
use Rattle.clap.specs.declared.error.kind.ErrorKind.{ErrorKind}
use Rattle.clap.specs.declared.error.kind.ErrorKind.TheVariants.{DisplayHelp, InvalidSubcommand, TooManyValues}
use Rattle.clap.specs.declared.parser.matches.ValueSource.{ValueSource}
use Rattle.clap.specs.declared.parser.matches.ValueSource.TheVariants.{CommandLine, DefaultValue}
use Rattle.command_words.specs.Asking.{class_of}

-- ---- lists of kinds

all_append : {X : Type 0} (P : X → Type 0) (xs ys : List X) → AllByRecursion P xs → AllByRecursion P ys → AllByRecursion P (xs ++ ys)
all_append P [] ys first others = others
all_append P (x ∷ xs) ys first others = (first.0, all_append P xs ys first.1 others)

-- all of them ask for what the first does
abbrev pub AskOne : Kinds → Type 0
AskOne [] = ⊤
AskOne (k ∷ ks) = AllByRecursion (λ l. class_of l ≡ class_of k) ks

among : (k first : ErrorKind) (kinds : Kinds) → AllByRecursion (λ l. class_of l ≡ class_of first) kinds → IsAmong k kinds → class_of k ≡ class_of first
among k first [] all is = absurd is
among k first (x ∷ xs) all (inl same) = ap class_of same ∙ all.0
among k first (x ∷ xs) all (inr later) = among k first xs all.1 later

-- a kind among them asks for what the first does
pub asks_first : (k first : ErrorKind) (kinds : Kinds) → AskOne (first ∷ kinds) → IsAmong k (first ∷ kinds) → class_of k ≡ class_of first
asks_first k first kinds one (inl same) = ap class_of same
asks_first k first kinds one (inr later) = among k first kinds one later

-- the kinds ask for one thing; where there are none, the fact holds
abbrev pub Yields : Kinds → Type 0 → Type 0
Yields kinds P = AskOne kinds × (kinds ≡ [] → P)

some_kind : (k : ErrorKind) (ks : Kinds) → k ∷ ks ≡ [] → ⊥
some_kind k ks e = true≢false (sym (ap none e))
  where
    none : Kinds → Bool
    none [] = true
    none (k ∷ ks) = false

fine : {P : Type 0} → P → Yields [] P
fine p = (tt, λ _. p)

fails : {P : Type 0} (k : ErrorKind) → Yields (k ∷ []) P
fails k = (tt, λ e. absurd (some_kind k [] e))

mapped : {P Q : Type 0} (kinds : Kinds) → Yields kinds P → (P → Q) → Yields kinds Q
mapped kinds yields f = (yields.0, λ e. f (yields.1 e))

in_turn : {P Q : Type 0} (a b : Kinds) → Yields a P → (P → Yields b Q) → Yields (or_else a b) Q
in_turn [] b first more = more (first.1 refl)
in_turn (k ∷ ks) b first more = (first.0, λ e. absurd (some_kind k ks e))

by_test : {P : Type 0} (test : Bool) (a b : Kinds) → Yields a P → Yields b P → Yields (if test then a else b) P
by_test true a b one other = one
by_test false a b one other = other

-- ---- kinds that say nothing of the rows

in_range : (least most n : ℕ) → Yields (range_kinds least most n) ⊤
in_range least most n =
    by_test (nat_lt 0 least && n == 0) _ _ (fails _)
    (by_test (least == most) _ _ (by_test (least == n) _ _ (fine tt) (fails _))
    (by_test (nat_lt n least) _ _ (fails _) (by_test (nat_lt most n) _ _ (fails _) (fine tt))))

no_request : (action : ArgAction) → Yields (request_kinds action) ⊤
no_request Set = fine tt
no_request Append = fine tt
no_request SetTrue = fine tt
no_request SetFalse = fine tt
no_request Count = fine tt
no_request Help = fails _
no_request HelpShort = fails _
no_request HelpLong = fails _
no_request Version = fails _

-- no subcommand is wanting
checked : (a b c : Bool) → Yields (check_kinds a b c) (b ≡ false)
checked a true c = by_test a _ _ (fails _) (fails _)
checked a false c = by_test a _ _ (fails _) (by_test c _ _ (fails _) (fine refl))

unrepeated : (repeated : Bool) (id : Text) (rows : List Row) → Yields (repeat_fault repeated id rows) ⊤
unrepeated repeated id rows = by_test (has_row id rows && not repeated) _ _ (fails _) (fine tt)

found_is : {X : Type 0} (P : X → Type 0) (test : X → Bool) (xs : List X) → AllByRecursion P xs → IfSome (find test xs) P
found_is P test [] all = tt
found_is P test (x ∷ xs) all = go (test x) refl (found_is P test xs all.1)
  where
    go : (is : Bool) → test x ≡ is → IfSome (find test xs) P → IfSome (find test (x ∷ xs)) P
    go true e rest = rw e (all.0)
    go false e rest = rw e rest

-- ---- rows, by what is to hold of an argument's values and of how they are read

module _ (Value : Text → Text → Type 0) (Read : Text → Reading → Type 0) where
  abbrev pub RowFits : Row → Type 0
  RowFits r = Read r.id r.reading × AllByRecursion (Value r.id) r.values

  abbrev pub RowsFit : List Row → Type 0
  RowsFit rows = AllByRecursion RowFits rows

  -- what the argument's parser takes is so
  pub record RuleFits (a : Rule) : Type 0 where
    pub reading : Read a.id (reading_by a)
    pub values : (text : Text) → accepts a.ignore_case (parser_of_value a.parser) text ≡ true → Value a.id text

  value_yields : (a : Rule) → RuleFits a → (text : Text) → Yields (value_kinds a.ignore_case (parser_of_value a.parser) text) (Value a.id text)
  value_yields a fits text = go (accepts a.ignore_case (parser_of_value a.parser) text) refl
    where
      go : (is : Bool) → accepts a.ignore_case (parser_of_value a.parser) text ≡ is → Yields (if is then [] else refused_kind (parser_of_value a.parser) ∷ [])
          (Value a.id text)
      go true e = fine (fits.values text e)
      go false e = fails _

  values_yield : (a : Rule) → RuleFits a → (texts : List Text) → Yields (values_fault a texts) (AllByRecursion (Value a.id) texts)
  values_yield a fits [] = fine tt
  values_yield a fits (text ∷ texts) =
      in_turn _ _ (value_yields a fits text) (λ first. mapped _ (values_yield a fits texts) (λ others. (first, others)))

  -- a row of this id is changed, or one is added
  row_changed : (id : Text) (change : Row → List Row) (missing rows : List Row) → ((r : Row) → r.id ≡ id → RowFits r → RowsFit (change r)) → RowsFit missing →
      RowsFit rows → RowsFit (at_row id change missing rows)
  row_changed id change missing [] keeps none fit = none
  row_changed id change missing (r ∷ rs) keeps none fit = go (bytes_eq r.id id) refl (row_changed id change missing rs keeps none fit.1)
    where
      go : (is : Bool) → bytes_eq r.id id ≡ is → RowsFit (at_row id change missing rs) → RowsFit
          (if is then change r ++ rs else r ∷ at_row id change missing rs)
      go true e rest = all_append RowFits (change r) rs (keeps r ((bytes_eq-Decides r.id id).0 e) fit.0) fit.1
      go false e rest = (fit.0, rest)

  dropped : (id : Text) (rows : List Row) → RowsFit rows → RowsFit (without id rows)
  dropped id rows fit = row_changed id (λ _. []) [] rows (λ r e fits. tt) tt fit

  given : (a : Rule) → RuleFits a → (source : ValueSource) (texts : List Text) (rows : List Row) → AllByRecursion (Value a.id) texts → RowsFit rows → RowsFit
      (with_values a.id (reading_by a) source texts rows)
  given a fits source texts rows values fit =
      row_changed a.id (more_values source texts) _ rows
      (λ r e row. ((row.0, all_append (Value r.id) r.values texts row.1 (subst (λ id. AllByRecursion (Value id) texts) (sym e) values)), tt))
      ((fits.reading, values), tt) fit

  counted_once : (a : Rule) → RuleFits a → (source : ValueSource) (n : ℕ) (rows : List Row) → Value a.id (count_text n) → RowsFit rows → RowsFit
      (with_count a.id (reading_by a) source n rows)
  counted_once a fits source n rows holds fit =
      row_changed a.id (new_count source n) _ rows
      (λ r e row. (
        (
          row.0,
          all_append (Value r.id) r.values (count_text n ∷ []) row.1
              (subst (λ id. AllByRecursion (Value id) (count_text n ∷ [])) (sym e) (holds, tt)),
        ),
        tt,
      ))
      ((fits.reading, (holds, tt)), tt) fit

  -- ---- one use of an argument

  set_once : (repeated : Bool) (a : Rule) → RuleFits a → (texts : List Text) (rows : List Row) → RowsFit rows
      → Yields (set_fault repeated a texts rows) (RowsFit (with_values a.id (reading_by a) CommandLine texts (without a.id rows)))
  set_once repeated a fits texts rows fit =
      in_turn _ _ (unrepeated repeated a.id rows)
      (λ _. mapped _ (values_yield a fits texts) (λ values. given a fits CommandLine texts (without a.id rows) values (dropped a.id rows fit)))

  used_once : (action : ArgAction) (repeated : Bool) (a : Rule) → RuleFits a → (texts : List Text) (rows : List Row) → RowsFit rows
      → Yields (action_fault action repeated a texts rows) (RowsFit (used_as action a.id (reading_by a) texts rows))
  used_once Set repeated a fits texts rows fit = set_once repeated a fits texts rows fit
  used_once SetTrue repeated a fits texts rows fit = set_once repeated a fits texts rows fit
  used_once SetFalse repeated a fits texts rows fit = set_once repeated a fits texts rows fit
  used_once Append repeated a fits texts rows fit = mapped _ (values_yield a fits texts) (λ values. given a fits CommandLine texts rows values fit)
  used_once Count repeated a fits [] rows fit =
      let n = min (count_of a.id rows + 1) 255 in
      mapped _ (value_yields a fits (count_text n)) (λ holds. counted_once a fits CommandLine n (without a.id rows) holds (dropped a.id rows fit))
  used_once Count repeated a fits (text ∷ texts) rows fit =
      mapped _ (values_yield a fits (text ∷ texts)) (λ values. given a fits CommandLine (text ∷ texts) (without a.id rows) values (dropped a.id rows fit))
  used_once Help repeated a fits texts rows fit = fails _
  used_once HelpShort repeated a fits texts rows fit = fails _
  used_once HelpLong repeated a fits texts rows fit = fails _
  used_once Version repeated a fits texts rows fit = fails _

  use_yields : (repeated : Bool) (a : Rule) → RuleFits a → (texts : List Text) (rows : List Row) → RowsFit rows → Yields (use_fault repeated a texts rows)
      (RowsFit (used a texts rows))
  use_yields repeated a fits texts rows fit =
      in_turn _ _ (in_range (unwrap_or_range a.range).start_inclusive (most_values a) (length texts))
      (λ _. used_once (action_of a) repeated a fits (values_or_missing a texts) rows fit)

  -- ---- a level: its arguments fit, and `help` is no command of it

  pub record ShapeFits (s : Shape) : Type 0 where
    pub rules : AllByRecursion RuleFits s.rules
    pub helpless : s.disable_help_subcommand ≡ true

  module _ (s : Shape) (all : ShapeFits s) where
    abbrev c : List Rule
    c = s.rules

    abbrev repeated : Bool
    repeated = s.args_override_self

    abbrev HeldFits : Held → Type 0
    HeldFits h = RowsFit h.rows

    pending_yields : (found : Option Rule) → IfSome found RuleFits → (texts : List Text) (rows : List Row) → RowsFit rows
        → Yields (option_map_or (λ a. use_fault repeated a texts rows) found []) (RowsFit (used_by_id found texts rows))
    pending_yields None fits texts rows fit = fine fit
    pending_yields (Some a) fits texts rows fit = use_yields repeated a fits texts rows fit

    settle_yields : (h : Held) → HeldFits h → Yields (settle_fault c repeated h) (HeldFits (settled c h))
    settle_yields h fit = go h.pending
      where
        go : (pending : Option (Text × List Text)) → Yields (option_map_or (λ p. option_map_or (λ a. use_fault repeated a p.1 h.rows) (arg_by_id c p.0) [])
            pending []) (RowsFit (settled_rows c pending h.rows))
        go None = fine fit
        go (Some p) = pending_yields (arg_by_id c p.0) (found_is RuleFits _ c all.rules) p.1 h.rows fit

    react_yields : (a : Rule) → RuleFits a → (texts : List Text) (h : Held) → HeldFits h → Yields (react_fault c repeated a texts h)
        (HeldFits (reacted c a texts h))
    react_yields a fits texts h fit = in_turn _ _ (settle_yields h fit) (use_yields repeated a fits texts (settled c h).rows)

    option_yields : (a : Rule) → RuleFits a → (text : Option Text) (h : Held) → HeldFits h → Yields (option_fault c repeated a text h)
        (HeldFits (option_met c a text h).0)
    option_yields a fits (Some text) h fit = react_yields a fits (text ∷ []) h fit
    option_yields a fits None h fit = settle_yields h fit

    long_yields : (found : Option Rule) → IfSome found RuleFits → (text : Option Text) (h : Held) → HeldFits h → Yields (long_fault c repeated found text h)
        (HeldFits (long_met c found text h).0)
    long_yields None fits text h fit = fails _
    long_yields (Some a) fits text h fit = go (takes_values a) text
      where
        go : (takes : Bool) (text : Option Text) → Yields (if takes then option_fault c repeated a text h else
            (if is_some text then TooManyValues ∷ [] else react_fault c repeated a [] h))
            (HeldFits (if takes then option_met c a text h else flag_met c a text h).0)
        go true text = option_yields a fits text h fit
        go false None = react_yields a fits [] h fit
        go false (Some text) = fails _

    -- what the rest of a word comes to
    abbrev GoesOn : (Held → Kinds) → (Held → Held × Outcome) → Type 0
    GoesOn fault met = (h : Held) → HeldFits h → Yields (fault h) (HeldFits (met h).0)

    short_yields : (found : Option Rule) → IfSome found RuleFits → (rest : Text) (h : Held) (fault : Held → Kinds) (met : Held → Held × Outcome) → GoesOn fault
        met → HeldFits h
        → Yields (short_fault c repeated found rest h fault) (HeldFits (short_met c found rest h met).0)
    short_yields None fits rest h fault met goes fit = fails _
    short_yields (Some a) fits rest h fault met goes fit = go (takes_values a)
      where
        go : (takes : Bool) → Yields (if takes then option_fault c repeated a (attached_value rest) h else or_else (react_fault c repeated a [] h)
            (fault (reacted c a [] h)))
            (HeldFits (if takes then option_met c a (attached_value rest) h else met (reacted c a [] h)).0)
        go true = option_yields a fits (attached_value rest) h fit
        go false = in_turn _ _ (react_yields a fits [] h fit) (goes (reacted c a [] h))

    letter_yields : (letter : Option ℕ) (letters : Text) (skip : ℕ) (so_far : Outcome) (h : Held) (fault : Text → ℕ → Held → Kinds)
        (met : Text → ℕ → Outcome → Held → Held × Outcome)
        → ((rest : Text) (skip : ℕ) (so_far : Outcome) → GoesOn (fault rest skip) (met rest skip so_far)) → HeldFits h
        → Yields (bundle_step_fault c repeated letter letters skip h fault) (HeldFits (bundle_step c letter letters skip so_far h met).0)
    letter_yields None letters skip so_far h fault met goes fit = fine fit
    letter_yields (Some x) letters zero so_far h fault met goes fit =
        let rest = drop (length (encode_utf8 x)) letters in
        short_yields (arg_by_short c x) (found_is RuleFits _ c all.rules) rest h (fault rest 0) (met rest 0 done) (goes rest 0 done) fit
    letter_yields (Some x) letters (suc skip) so_far h fault met goes fit = goes (drop (length (encode_utf8 x)) letters) skip so_far h fit

    letters_yield : (k : ℕ) (letters : Text) (skip : ℕ) (so_far : Outcome) → GoesOn (flags_fault c repeated k letters skip) (bundle_met c k letters skip so_far)
    unfolding flags_fault bundle_met
    letters_yield zero letters skip so_far h fit = fine fit
    letters_yield (suc k) letters skip so_far h fit = letter_yields (slice_get (chars letters) 0) letters skip so_far h (flags_fault c repeated k)
        (bundle_met c k) (letters_yield k) fit

    -- ---- one word

    plain_fits : (waiting : Waiting) (word : Text) (h : Held) → HeldFits h → HeldFits (plain_word c waiting word h).0
    plain_fits idle word h fit = fit
    plain_fits positional word h fit = fit
    plain_fits (option id) word h fit = go (arg_by_id c id)
      where
        go : (found : Option Rule) → HeldFits (option_word found id word h).0
        go None = fit
        go (Some a) = fit

    flag_fits : (waiting : Waiting) (word : Text) (h : Held) (outcome : Outcome) → HeldFits h → HeldFits (after_flag c waiting word h outcome).0
    flag_fits waiting word h done fit = fit
    flag_fits waiting word h (waits id) fit = fit
    flag_fits waiting word h plain fit = plain_fits waiting word h fit
    flag_fits waiting word h refused fit = plain_fits waiting word h fit

    flag_yields : (long : Option (Text × Option Text)) (waiting : Waiting) (word : Text) (h : Held) → HeldFits h → Yields
        (flag_word_fault c repeated long word h) (HeldFits (long_or_other c waiting word long h).0)
    flag_yields (Some p) waiting word h fit =
        mapped _ (long_yields (arg_by_long c p.0) (found_is RuleFits _ c all.rules) p.1 h fit) (flag_fits waiting word _ _)
    flag_yields None waiting word h fit = go (short_of word)
      where
        go : (letters : Option Text) → Yields (option_map_or (λ letters. bundle_fault c repeated letters h) letters [])
            (HeldFits (short_or_plain c waiting word letters h).0)
        go None = fine (plain_fits waiting word h fit)
        go (Some letters) = mapped _ (letters_yield (length letters) letters h.skip plain (record h { skip = 0 }) fit) (flag_fits waiting word _ _)

    other_yields : (name : Option Text) (waiting : Waiting) (position : ℕ) (word : Text) (h : Held) → HeldFits h
        → Yields (other_fault s name word h) (HeldFits (subcommand_or_other c name waiting position word h).0)
    other_yields (Some name) waiting position word h fit = go (bytes_eq name (codes "help")) s.disable_help_subcommand all.helpless
      where
        go : (named off : Bool) → off ≡ true → Yields (if named && not off then DisplayHelp ∷ InvalidSubcommand ∷ [] else []) (HeldFits h)
        go named false e = absurd (true≢false (sym e))
        go true true e = fine fit
        go false true e = fine fit
    other_yields None waiting position word h fit = go (bytes_eq word (45 ∷ 45 ∷ []))
      where
        go : (is : Bool) → Yields (if is then [] else flag_word_fault c repeated (long_of word) word h)
            (HeldFits (if is then (h, trailing position) else long_or_other c waiting word (long_of word) h).0)
        go true = fine fit
        go false = flag_yields (long_of word) waiting word h fit

    word_yields : (names : Names) (is_trailing : Bool) (waiting : Waiting) (position : ℕ) (word : Text) (h : Held) → HeldFits h
        → Yields (word_fault s names is_trailing waiting word h) (HeldFits (word_met c names is_trailing waiting position word h).0)
    word_yields names true waiting position word h fit = fine fit
    word_yields names false waiting position word h fit = other_yields (subcommand_met names waiting word) waiting position word h fit

    placed : (found : Option Rule) (word : Text) (w : Walk) (h : Held) → HeldFits h
        → Yields (option_map_or (λ a. positional_fault c repeated a h) found (stray_fault s)) (HeldFits (to_positional c found word w h).held)
    placed None word w h fit = by_test s.is_leaf _ _ (fails _) ((refl, tt), λ e. absurd (some_kind _ _ e))
    placed (Some a) word w h fit = go (is_pending a h.pending && takes_several a)
      where
        go : (more : Bool) → Yields (if more then [] else settle_fault c repeated h) (HeldFits (if more then h else settled c h))
        go true = fine fit
        go false = settle_yields h fit

    step_yields : (word : Text) (w : Walk) (h : Held) (step : Step) → HeldFits h → Yields (step_fault s w.position h step)
        (HeldFits (after_step c word w h step).held)
    step_yields word w h (next waiting) fit = fine fit
    step_yields word w h (trailing position) fit = fine fit
    step_yields word w h (subcommand name) fit = fine fit
    step_yields word w h value fit = placed (arg_by_index c w.position) word w h fit

    turn_yields : (names : Names) (w : Walk) (word : Text) → HeldFits w.held → Yields (turn_fault s names w word) (HeldFits (walked c names w word).held)
    unfolding walked
    turn_yields names w word fit = go w.stopped
      where
        met : Held × Step
        met = word_met c names w.is_trailing w.waiting w.position word w.held

        go : (stopped : Option (Text × List Text)) → Yields (if is_some stopped then [] else or_else (word_fault s names w.is_trailing w.waiting word w.held)
            (step_fault s w.position met.0 met.1)) (HeldFits (walked_from c names stopped w word).held)
        go (Some p) = fine fit
        go None = in_turn _ _ (word_yields names w.is_trailing w.waiting w.position word w.held fit) (step_yields word w met.0 met.1)

    -- ---- all words of a level

    walk_yields : (names : Names) (words : List Text) (w : Walk) → HeldFits w.held → Yields (walk_fault s names w words)
        (HeldFits (fold (walked c names) w words).held)
    unfolding walk_fault
    walk_yields names [] w fit = fine fit
    walk_yields names (word ∷ words) w fit = in_turn _ _ (turn_yields names w word fit) (walk_yields names words (walked c names w word))

    default_yields : (rows : List Row) (a : Rule) → RuleFits a → RowsFit rows → Yields (default_fault rows a) (RowsFit (with_default rows a))
    default_yields rows a fits fit = go (has_row a.id rows) a.defaults
      where
        go : (has : Bool) (texts : List Text) → Yields (if has || is_empty texts then [] else given_default_fault a texts)
            (RowsFit (if has then rows else default_rows a.id (reading_by a) texts rows))
        go true texts = fine fit
        go false [] = fine fit
        go false (text ∷ texts) =
            let some : is_empty (text ∷ texts) ≡ false = grind (arith, nat_tests) in
            rw some (in_turn _ _ (no_request (action_of a)) (λ _. mapped _ (values_yield a fits (text ∷ texts))
            (λ values. given a fits DefaultValue (text ∷ texts) rows values fit)))

    defaults_yield : (rules : List Rule) → AllByRecursion RuleFits rules → (rows : List Row) → RowsFit rows → Yields (defaults_fault rows rules)
        (RowsFit (fold with_default rows rules))
    unfolding defaults_fault
    defaults_yield [] fits rows fit = fine fit
    defaults_yield (a ∷ rules) fits rows fit = in_turn _ _ (default_yields rows a fits.0 fit) (defaults_yield rules fits.1 (with_default rows a))

    level_yields : {P : Type 0} (names : Names) (words : List Text) (has_subcommand : Bool) (below : Kinds) → Yields below P
        → Yields (level_fault s names nothing_held words has_subcommand below)
        (P × (RowsFit (finished c (walk c names nothing_held words).held) × ((not has_subcommand && s.subcommand_required) ≡ false)))
    level_yields names words has_subcommand below yields =
        let end = (walk c names nothing_held words).held in
        in_turn _ _ (walk_yields names words (walk_from nothing_held) tt)
        (λ walks. in_turn _ _ yields
        (λ found. in_turn _ _ (settle_yields end walks)
        (λ settles. in_turn _ _ (defaults_yield c all.rules (settled c end).rows settles)
        (λ fit. mapped _ (checked _ (not has_subcommand && s.subcommand_required) _) (λ there. (found, (fit, there)))))))

  -- ---- a command with subcommands

  entered_yields : (a : App) → AllByRecursion ShapeFits a.subs → (stop : Option (Text × List Text)) → Yields (entered_fault a stop)
      (IfSome (entered a stop) (λ met. RowsFit met.1))
  entered_yields a fits None = fine tt
  entered_yields a fits (Some p) = go (find (λ s. answers_to p.0 (label_of s)) a.subs) (found_is ShapeFits _ a.subs fits)
    where
      go : (found : Option Shape) → IfSome found ShapeFits
          → Yields (option_map_or (λ s. level_fault s [] nothing_held p.1 false []) found [])
          (IfSome (option_map (λ s. rows_at s p.1) found) (λ met. RowsFit met.1))
      go None all = fine tt
      go (Some s) all = mapped _ (level_yields s all {P = ⊤} [] p.1 false [] (fine tt)) (λ all. all.1.0)

  there : (met : Option (Text × List Row)) (required : Bool) → required ≡ true → IfSome met (λ met. RowsFit met.1) → (not (is_some met) && required) ≡ false →
      IsSomeAnd met (λ met. RowsFit met.1)
  there None true e fit is = absurd (true≢false is)
  there None false e fit is = absurd (true≢false (sym e))
  there (Some met) required e fit is = fit

  -- a subcommand is met, and its rows fit
  pub app_yields : (a : App) → ShapeFits a.top → a.top.subcommand_required ≡ true → AllByRecursion ShapeFits a.subs → (words : List Text)
      → Yields (built_fault a nothing_held words) (IsSomeAnd (entered a (stop_after a.top.rules (names_of a) words)) (λ met. RowsFit met.1))
  app_yields a top required subs words =
      let stop = stop_after a.top.rules (names_of a) words in
      let met = entered a stop in
      mapped _ (level_yields a.top top (names_of a) words (is_some met) (entered_fault a stop) (entered_yields a subs stop))
      (λ all. there met a.top.subcommand_required required all.0 all.1.1)

  -- the text that is read of an option is one of its values
  abbrev pub Reads : Text → Text → Type 0
  Reads id text = (how : Reading) × (given : Text) × Read id how × Value id given × (text ≡ read_as how given)

  pub one_fits : (id : Text) (rows : List Row) → RowsFit rows → IfSome (one_of id rows) (Reads id)
  one_fits id [] fit = tt
  one_fits id (r ∷ rs) fit = go (bytes_eq r.id id) refl (one_fits id rs fit.1)
    where
      first : (values : List Text) → AllByRecursion (Value id) values → Read id r.reading → IfSome (option_map (read_as r.reading) (slice_get values 0))
          (Reads id)
      first [] all read = tt
      first (v ∷ vs) all read = (r.reading, v, read, all.0, refl)

      go : (is : Bool) → bytes_eq r.id id ≡ is → IfSome (one_of id rs) (Reads id) → IfSome (one_of id (r ∷ rs)) (Reads id)
      go true e rest =
          let same = (bytes_eq-Decides r.id id).0 e in
          rw e (first r.values (subst (λ id. AllByRecursion (Value id) r.values) same fit.0.1) (subst (λ id. Read id r.reading) same fit.0.0))
      go false e rest = rw e rest
