-- From a name of a figure comes the figure.
use Rattle.std.proofs.Common.{◌≡◌, ℕ, ◌+◌, ◌<◌, ◌≤◌, ◌^◌, Bool, true, false, cond, not, ◌&&◌, ◌||◌, List, [], ◌∷◌, ◌++◌, length, map, bytes_eq, codes, decimal, Option, Some, refl, sym, ap, ap₂, ◌∙◌, append_assoc}
use Rattle.std.proofs.lemmas.Bool.{and_parts, and_from, and_left, and_right, cond-true, cond-false, or_from, or_left}
use Rattle.bench_types.specs.declared.header.Header.{Header}
use Rattle.bench_types.proofs.Repeats.{repeats_name}
use Rattle.run_numbers.specs.declared.subject.Subject.{Subject}
use Rattle.run_numbers.specs.declared.subject.Subject.TheVariants.{Run}
use Rattle.run_numbers.specs.declared.subject.Whole.{Whole}
use Rattle.run_numbers.specs.declared.subject.Whole.TheVariants as whole
use Rattle.report_figures.specs.declared.figures.Part.{Part}
use Rattle.report_figures.specs.declared.figures.Part.TheVariants.{Total}
use Rattle.report_figures.specs.Names.{figure_name, subject_name, told_name}
use Rattle.report_figures.proofs.ToldNames.{is_free, is_owner, task_told, told_free, told_task}
use Rattle.report_figures.proofs.Tokens.{other_figure, task_figure, tokens_of}
use Rattle.report_figures.proofs.Words.{Token, Text, Number, cut, cut_at, has_key, is_key, joined, joined_split, number_between, split, token, tokens_in, words_append, words_in}

abbrev is_number : Token → Bool
is_number (Text word) = false
is_number (Number n) = true

abbrev is_nil : List (List ℕ) → Bool
is_nil [] = true
is_nil (word ∷ words) = false

-- words of a name that is of no task
abbrev is_other : List (List ℕ) → Bool
is_other [] = false
is_other (word ∷ []) = false
is_other (word ∷ next ∷ words) = (is_owner word && is_number (token next)) || (bytes_eq word (codes "run") && is_nil words)

-- a key, and none after it
abbrev pub opens : List Token → Bool
opens [] = false
opens (key ∷ rest) = is_key key && not (has_key rest)

abbrev text_of : List (List ℕ) → List ℕ
text_of [] = []
text_of (word ∷ words) = joined word words

no_number : (t : Token) → is_key t ≡ true → is_number t ≡ false
no_number (Text word) is = refl
no_number (Number n) is = sym is

unfilled : (words : List (List ℕ)) (key : List ℕ) (rest : List (List ℕ)) → is_nil (words ++ key ∷ rest) ≡ false
unfilled [] key rest = refl
unfilled (word ∷ words) key rest = refl

unmarked : (b : Bool) → not b ≡ true → b ≡ false
unmarked true is = sym is
unmarked false is = refl

not_other : (word : List ℕ) (words : List (List ℕ)) (key : List ℕ) (rest : List (List ℕ)) → is_free word words ≡ true → is_key (token key) ≡ true → is_other
    ((word ∷ words) ++ key ∷ rest) ≡ false
not_other word [] key rest free is =
    or_from (is_owner word && is_number (token key)) (bytes_eq word (codes "run") && is_nil rest)
    (and_right (is_owner word) (is_number (token key)) (no_number (token key) is))
    (and_left (bytes_eq word (codes "run")) (is_nil rest) (unmarked (bytes_eq word (codes "run")) free))
not_other word (next ∷ words) key rest free is =
    or_from (is_owner word && is_number (token next)) (bytes_eq word (codes "run") && is_nil (words ++ key ∷ rest))
    (and_left (is_owner word) (is_number (token next)) (unmarked (is_owner word) free))
    (and_right (bytes_eq word (codes "run")) (is_nil (words ++ key ∷ rest)) (unfilled words key rest))

module _ (header : Header) where
  by_task : List (List ℕ) × List (List ℕ) → Option (Subject × Part)
  by_task parts = task_figure (task_told header (text_of parts.0)) (map token parts.1)

  -- the figure that has the name
  pub figure_named : List ℕ → Option (Subject × Part)
  figure_named text = cond (is_other (words_in text)) (other_figure (tokens_in text)) (by_task (cut (words_in text)))

  read_told : (told tail : List ℕ) → is_free (split told).0 (split told).1 ≡ true → opens (tokens_in tail) ≡ true → figure_named (told ++ 46 ∷ tail) ≡ task_figure
      (task_told header told) (tokens_in tail)
  unfolding by_task figure_named
  read_told told tail free opened =
      let key = (split tail).0 in
      let rest = (split tail).1 in
      let parts = and_parts (is_key (token key)) (not (has_key (map token rest))) opened in
      let text = told ++ 46 ∷ tail in
      let words : words_in text ≡ words_in told ++ key ∷ rest = words_append told tail in
      let other : is_other (words_in text) ≡ false = ap is_other words ∙ not_other (split told).0 (split told).1 key rest free parts.0 in
      let parted : cut (words_in text) ≡ (words_in told, key ∷ rest) = ap cut words ∙ cut_at key rest parts.0
      (unmarked (has_key (map token rest)) parts.1) (words_in told) in
      cond-false (is_other (words_in text)) (other_figure (tokens_in text)) (by_task (cut (words_in text))) other ∙ ap by_task parted
      ∙ ap (λ name. task_figure (task_told header name) (tokens_in tail)) (joined_split told)

  -- the name of a number of a core, a mutex or a queue
  pub read_owned : (owner : List ℕ) → is_owner owner ≡ true → (n : ℕ) → n < 2 ^ 64 → (what part : List ℕ) (subject : Subject) (told : Part)
      → words_in (figure_name header subject told) ≡ owner ∷ words_in ((decimal n ++ 46 ∷ what) ++ part)
      → other_figure (token owner ∷ Number n ∷ tokens_in (what ++ part)) ≡ Some (subject, told)
      → figure_named (figure_name header subject told) ≡ Some (subject, told)
  unfolding figure_named
  read_owned owner is n small what part subject told named found =
      let text = figure_name header subject told in
      let rest = (decimal n ++ 46 ∷ what) ++ part in
      let tokens : tokens_in rest ≡ Number n ∷ tokens_in (what ++ part) = number_between n small what part in
      let number : is_number (token (split rest).0) ≡ true = ap first_is_number tokens in
      let other : is_other (words_in text) ≡ true = ap is_other named ∙ or_left (is_owner owner && is_number (token (split rest).0))
      (bytes_eq owner (codes "run") && is_nil (split rest).1) (and_from (is_owner owner) (is_number (token (split rest).0)) is number) in
      cond-true (is_other (words_in text)) (other_figure (tokens_in text)) (by_task (cut (words_in text))) other
      ∙ ap (λ words. other_figure (map token words)) named ∙ ap (λ ts. other_figure (token owner ∷ ts)) tokens ∙ found
    where
      first_is_number : List Token → Bool
      first_is_number [] = false
      first_is_number (t ∷ ts) = is_number t

  -- the name of a number of the run
  pub read_run : (number : Whole) → figure_named (figure_name header (Run number) Total) ≡ Some (Run number, Total)
  unfolding figure_named subject_name
  read_run whole.Time = refl
  read_run whole.Steps = refl
  read_run whole.NotMade = refl

  module _ (once : repeats_name header.tasks ≡ false) where
    abbrev pub IsUser : ℕ → Type 0
    IsUser task = (header.config.cores ≤ task) × (task < header.config.cores + length header.tasks)

    read_task : (task : ℕ) → IsUser task → (subject : Subject) (part : Part) (tail : List ℕ) → figure_name header subject part ≡ told_name header task ++ 46 ∷ tail
        → tokens_in tail ≡ tokens_of subject part → opens (tokens_of subject part) ≡ true
        → task_figure task (tokens_of subject part) ≡ Some (subject, part) → figure_named (figure_name header subject part) ≡ Some (subject, part)
    read_task task user subject part tail named tokens opened found =
        ap figure_named named ∙ read_told (told_name header task) tail (told_free header task) (ap opens tokens ∙ opened)
        ∙ ap₂ task_figure (told_task header once task user.0 user.1) tokens ∙ found

    -- a name of a task, what is told of it, and which part of that
    pub read_plain : (task : ℕ) → IsUser task → (what part : List ℕ) (subject : Subject) (told : Part)
        → figure_name header subject told ≡ (told_name header task ++ 46 ∷ what) ++ part → tokens_in (what ++ part) ≡ tokens_of subject told
        → opens (tokens_of subject told) ≡ true → task_figure task (tokens_of subject told) ≡ Some (subject, told)
        → figure_named (figure_name header subject told) ≡ Some (subject, told)
    read_plain task user what part subject told named =
        read_task task user subject told (what ++ part) (named ∙ append_assoc (told_name header task) (46 ∷ what) part)

    -- the same with a cause, or the number of a core
    pub read_caused : (task : ℕ) → IsUser task → (what cause part : List ℕ) (subject : Subject) (told : Part)
        → figure_name header subject told ≡ ((told_name header task ++ 46 ∷ what) ++ cause) ++ part
        → tokens_in ((what ++ cause) ++ part) ≡ tokens_of subject told → opens (tokens_of subject told) ≡ true
        → task_figure task (tokens_of subject told) ≡ Some (subject, told) → figure_named (figure_name header subject told) ≡ Some (subject, told)
    read_caused task user what cause part subject told named =
        read_plain task user (what ++ cause) part subject told
        (named ∙ ap (λ text. text ++ part) (append_assoc (told_name header task) (46 ∷ what) cause))
