-- Up to where the run after the edits is known is told once.
use Rattle.std.proofs.Common.{◌≡◌, ℕ, zero, suc, ◌+◌, ◌<◌, List, [], ◌∷◌, ◌++◌, length, flat_map, Bool, true, false, eqb, refl, ap, ◌∙◌, arith}
use Rattle.std.specs.Prelude.{◌||◌, if◌then◌else◌}
use Rattle.std.specs.List.{list_any, range_with_len}
use Rattle.std.proofs.lemmas.Bool.Decides.{nat_tests}
use Rattle.std.proofs.lemmas.List.{append-nil}
use Rattle.run_comparisons.specs.declared.rows.Row.{Row}
use Rattle.run_comparisons.specs.declared.rows.Row.TheVariants.{Both, Removed, Inserted}
use Rattle.run_comparisons.specs.Known.{known_line, stands_at}
use Rattle.run_comparisons.specs.Rows.{place_after}
use Rattle.run_comparisons.specs.ShownLaws.{KnownIsToldOnce}

-- what is told before the rows
abbrev told : List ℕ → ℕ → List Row → List ℕ
told line place rows = flat_map (λ row. if stands_at place row then line else []) rows

-- and behind them
abbrev behind : List ℕ → ℕ → List Row → List ℕ
behind line place rows = if list_any (stands_at place) rows then [] else line

record IsNext (new : ℕ) (places : List ℕ) (from n : ℕ) : Type 0 where
  pub here : new ≡ from
  pub many : ℕ
  pub rest : places ≡ range_with_len (from + 1) many

next : (new : ℕ) (places : List ℕ) (from n : ℕ) → new ∷ places ≡ range_with_len from n → IsNext new places from n
next new places from zero are = absurd (cc are)
next new places from (suc n) are = record { here = cc are; many = n; rest = cc are }

-- before a row that stands behind the place nothing is told
unlike : (line : List ℕ) (place from new : ℕ) (rest : List ℕ) → new ≡ from → place < from → rest ≡ []
    → (if eqb new place || false then line else []) ++ rest ≡ []
unlike line place from new rest here early is_rest =
    let other : eqb new place ≡ false = grind (arith, nat_tests, early, here) in
    ap (λ (b : Bool). (if b || false then line else []) ++ rest) other ∙ is_rest

none : (line : List ℕ) (place from n : ℕ) (rows : List Row) → flat_map place_after rows ≡ range_with_len from n → place < from → told line place rows ≡ []
none line place from n [] are early = refl
none line place from n (Removed old ∷ rows) are early = none line place from n rows are early
none line place from n (Both old new ∷ rows) are early =
    let is = next new (flat_map place_after rows) from n are in
    unlike line place from new (told line place rows) is.here early (none line place (from + 1) is.many rows is.rest (omega (arith, early)))
none line place from n (Inserted new ∷ rows) are early =
    let is = next new (flat_map place_after rows) from n are in
    unlike line place from new (told line place rows) is.here early (none line place (from + 1) is.many rows is.rest (omega (arith, early)))

-- before the one row or behind all it is
here_or_later : (line : List ℕ) (place from new : ℕ) (rest : List ℕ) (later : Bool) → new ≡ from → (place ≡ from → rest ≡ [])
    → rest ++ (if later then [] else line) ≡ line
    → ((if eqb new place || false then line else []) ++ rest) ++ (if (eqb new place || false) || later then [] else line) ≡ line
here_or_later line place from new rest later here none_behind is_later = by (eqb new place) refl
  where
    by : (b : Bool) → eqb new place ≡ b → ((if b || false then line else []) ++ rest) ++ (if (b || false) || later then [] else line) ≡ line
    by true same =
        let is : place ≡ from = grind (arith, nat_tests, same, here) in
        append-nil (line ++ rest) ∙ ap (λ lines. line ++ lines) (none_behind is) ∙ append-nil line
    by false other = is_later

once : (line : List ℕ) (place from n : ℕ) (rows : List Row) → flat_map place_after rows ≡ range_with_len from n → told line place rows ++ behind line place rows
    ≡ line
once line place from n [] are = refl
once line place from n (Removed old ∷ rows) are = once line place from n rows are
once line place from n (Both old new ∷ rows) are =
    let is = next new (flat_map place_after rows) from n are in
    here_or_later line place from new (told line place rows) (list_any (stands_at place) rows) is.here
    (λ here. none line place (from + 1) is.many rows is.rest (omega (arith, here))) (once line place (from + 1) is.many rows is.rest)
once line place from n (Inserted new ∷ rows) are =
    let is = next new (flat_map place_after rows) from n are in
    here_or_later line place from new (told line place rows) (list_any (stands_at place) rows) is.here
    (λ here. none line place (from + 1) is.many rows is.rest (omega (arith, here))) (once line place (from + 1) is.many rows is.rest)

pub known_is_told_once : KnownIsToldOnce
known_is_told_once header limit before after rows each =
    once (known_line header limit) limit.place 0 (length after.session.steps) rows each.each_after
