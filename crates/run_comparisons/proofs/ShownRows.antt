-- The rows at some places, and what is told of them.
use Rattle.std.proofs.Common.{◌≡◌, ℕ, zero, suc, List, [], ◌∷◌, ◌++◌, length, filter, flat_map, Bool, true, false, not, inl, inr, refl, sym, ap, ap₂, subst}
use Rattle.std.proofs.Common.{◌∙◌, true≢false, arith}
use Rattle.std.specs.Prelude.{◌⊎◌, Any, Contains, Decides, nat_le, Option, Some, None, if◌then◌else◌}
use Rattle.std.proofs.lemmas.Bool.{le-leb, leb-true}
use Rattle.std.proofs.lemmas.Bool.Decides.{Decides-and}
use Rattle.std.proofs.lemmas.List.{append-nil}
use Rattle.std.proofs.lemmas.List.Elements.{All-head, All-tail}
use Rattle.std.proofs.lemmas.List.Filters.{length-filter_both}
use Rattle.std.proofs.lemmas.List.Folds.{Any-from_list_any, list_any-from_Any}
use Rattle.bench_types.specs.Session.{Session}
use Rattle.kept_runs.specs.declared.known_limit.KnownLimit.{KnownLimit}
use Rattle.run_views.specs.declared.places.Places.{Places}
use Rattle.run_views.specs.Trace.{shows}
use Rattle.run_comparisons.specs.declared.rows.Row.{Row}
use Rattle.run_comparisons.specs.Comparison.{compare_text, differences_text, fared_text}
use Rattle.run_comparisons.specs.Known.{known_before, known_behind}
use Rattle.run_comparisons.specs.Pairs.{left_lines}
use Rattle.run_comparisons.specs.RowWords.{differs, row_line}
use Rattle.run_comparisons.specs.Shown.{is_shown, left_out_line, left_out_text, places_of, row_told, rows_left_out}
use Rattle.run_comparisons.specs.ShownLaws.{AllKnownIsNotTold, AllShownAreWhole, AllShownIsCompared, AreAllShown, IsAmong, ShownAndLeftOutAreAll, ShownHavePlaces}

-- ---- lines, row by row

-- the lines of those that pass a test
lines_of_those : (test : Row → Bool) (line : Row → List ℕ) (rows : List Row) → flat_map (λ row. if test row then line row else []) rows ≡ flat_map line
    (filter test rows)
lines_of_those test line [] = refl
lines_of_those test line (row ∷ rows) = by (lines_of_those test line rows) (test row)
  where
    by : flat_map (λ one. if test one then line one else []) rows ≡ flat_map line (filter test rows) → (b : Bool)
        → (if b then line row else []) ++ flat_map (λ one. if test one then line one else []) rows ≡ flat_map line
        (if b then row ∷ filter test rows else filter test rows)
    by rest true = ap (λ lines. line row ++ lines) rest
    by rest false = rest

-- lines that are the same row by row are the same
same_lines : (one other : Row → List ℕ) (rows : List Row) → ((row : Row) → one row ≡ other row) → flat_map one rows ≡ flat_map other rows
same_lines one other [] same = refl
same_lines one other (row ∷ rows) same = ap₂ (λ line lines. line ++ lines) (same row) (same_lines one other rows same)

-- the lines one after another, and behind them how many are left out
pub all_known_is_not_told : AllKnownIsNotTold
all_known_is_not_told None before after rows =
    append-nil (flat_map (row_told None None before after) rows ++ [])
    ∙ append-nil (flat_map (row_told None None before after) rows)
    ∙ same_lines (row_told None None before after) (row_line before after) rows (λ row. refl)
all_known_is_not_told (Some places) before after rows =
    ap (λ lines. lines ++ left_out_text (Some places) rows)
    (append-nil (flat_map (row_told None (Some places) before after) rows)
    ∙ same_lines (row_told None (Some places) before after) (λ row. if is_shown places row then row_line before after row else []) rows (λ row. refl)
    ∙ lines_of_those (is_shown places) (row_line before after) rows)

-- ---- which rows are shown

none : {X : Type 0} (y : X) → Contains [] y → ⊥
none y (k, within, is) = omega (arith, within)

here : {X : Type 0} (x : X) (xs : List X) → Contains (x ∷ xs) x
here x xs = (0, omega arith, refl)

there : {X : Type 0} (x y : X) (xs : List X) → Contains xs y → Contains (x ∷ xs) y
there x y xs (k, within, is) = (suc k, omega (arith, within), is)

here_or : {X : Type 0} (x y : X) (xs : List X) → Contains (x ∷ xs) y → (x ≡ y) ⊎ Contains xs y
here_or x y xs (zero, within, is) = inl is
here_or x y xs (suc k, within, is) = inr (k, omega (arith, within), is)

passes_stays : {X : Type 0} (p : X → Bool) (xs : List X) (x : X) → Contains xs x → p x ≡ true → Contains (filter p xs) x
passes_stays p [] x has is = absurd (none x has)
passes_stays {X} p (y ∷ xs) x has is = at (p y) refl (λ rest. passes_stays p xs x rest is)
  where
    at : (b : Bool) → p y ≡ b → (Contains xs x → Contains (filter p xs) x) → Contains (if b then y ∷ filter p xs else filter p xs) x
    at true passes more = elim (here_or y x xs has) [
      | inl same ↦ subst (λ (z : X). Contains (z ∷ filter p xs) x) (sym same) (here x (filter p xs))
      | inr rest ↦ there y x (filter p xs) (more rest)
    ]
    at false fails more = elim (here_or y x xs has) [
      | inl same ↦ absurd (true≢false (sym is ∙ sym (ap p same) ∙ fails))
      | inr rest ↦ more rest
    ]

stays_passes : {X : Type 0} (p : X → Bool) (xs : List X) (x : X) → Contains (filter p xs) x → Contains xs x × (p x ≡ true)
stays_passes p [] x has = absurd (none x has)
stays_passes {X} p (y ∷ xs) x has = at (p y) refl (stays_passes p xs x) has
  where
    at : (b : Bool) → p y ≡ b → (Contains (filter p xs) x → Contains xs x × (p x ≡ true)) → Contains (if b then y ∷ filter p xs else filter p xs) x
        → Contains (y ∷ xs) x × (p x ≡ true)
    at true passes more has = elim (here_or y x (filter p xs) has) [
      | inl same ↦ (subst (λ (z : X). Contains (z ∷ xs) x) (sym same) (here x xs), sym (ap p same) ∙ passes)
      | inr rest ↦ let found = more rest in (there y x xs found.0, found.1)
    ]
    at false fails more has = let found = more has in (there y x xs found.0, found.1)

-- the test of a place
among : (places : Places) (place : ℕ) → Decides (shows places place) (IsAmong places place)
among places place =
    Decides-and (nat_le places.from place) (nat_le place places.to) (leb-true places.from place, le-leb places.from place)
    (leb-true place places.to, le-leb place places.to)

any_so : {P Q : ℕ → Type 0} (xs : List ℕ) → ((x : ℕ) → P x → Q x) → Any P xs → Any Q xs
any_so xs so (k, x, within, is, holds) = (k, x, within, is, so x holds)

pub shown_have_places : ShownHavePlaces
shown_have_places places rows row = (
  λ has.
      let found = stays_passes (is_shown places) rows row has in
      (found.0, any_so (places_of row) (λ place. (among places place).0) (Any-from_list_any (shows places) (places_of row) found.1)),
  λ found.
      passes_stays (is_shown places) rows row found.0
      (list_any-from_Any (shows places) (places_of row) (any_so (places_of row) (λ place. (among places place).1) found.1)),
)

pub shown_and_left_out_are_all : ShownAndLeftOutAreAll
shown_and_left_out_are_all places rows = length-filter_both (is_shown places) (λ row. not (is_shown places row)) (λ row. refl) rows

-- ---- each row is shown

all_told : (known : Option KnownLimit) (places : Places) (before after : Session) (rows : List Row) → AreAllShown places rows
    → flat_map (row_told known (Some places) before after) rows ≡ flat_map (row_told known None before after) rows
all_told known places before after [] all = refl
all_told known places before after (row ∷ rows) all =
    ap (λ (b : Bool). (known_before after.header known row ++ (if b then row_line before after row else []))
    ++ flat_map (row_told known (Some places) before after) rows) (All-head (λ one. is_shown places one ≡ true) row rows all)
    ∙ ap (λ (lines : List ℕ). (known_before after.header known row ++ row_line before after row) ++ lines)
    (all_told known places before after rows (All-tail (λ one. is_shown places one ≡ true) row rows all))

none_left_out : (places : Places) (rows : List Row) → AreAllShown places rows → rows_left_out places rows ≡ []
none_left_out places [] all = refl
none_left_out places (row ∷ rows) all =
    ap (λ (b : Bool). if not b then row ∷ rows_left_out places rows else rows_left_out places rows)
    (All-head (λ one. is_shown places one ≡ true) row rows all)
    ∙ none_left_out places rows (All-tail (λ one. is_shown places one ≡ true) row rows all)

pub all_shown_are_whole : AllShownAreWhole
all_shown_are_whole known places before after rows all =
    ap₂ (λ (lines : List ℕ) (list : List Row). lines ++ known_behind after.header known rows ++ left_out_line (length list))
    (all_told known places before after rows all) (none_left_out places rows all)

pub all_shown_is_compared : AllShownIsCompared
unfolding compare_text
all_shown_is_compared places pair all =
    let before = pair.before.session in
    let after = pair.after.session in
    ap (λ (lines : List ℕ). (lines ++ differences_text pair.refused (filter (differs before after) pair.rows)) ++ fared_text before after ++ left_lines pair.before
    pair.after)
    (all_shown_are_whole pair.known places before after pair.rows all)
