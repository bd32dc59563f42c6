-- The states at places, and what is made of the places that pass a test.
use Rattle.std.proofs.Common.{◌≡◌, ℕ, zero, suc, ◌+◌, ◌<◌, ◌≤◌, max, List, [], ◌∷◌, ◌++◌, length, length-append, map, filter, take, get_or, Bool, true, false}
use Rattle.std.proofs.Common.{refl, subst, sym, ap, ◌∙◌, add-one, arith}
use Rattle.std.specs.Prelude.{if◌then◌else◌}
use Rattle.std.proofs.Math.Seq.{take-suc}
use Rattle.std.specs.Cmp.{first_so}
use Rattle.std.proofs.lemmas.Bool.{leb-true}
use Rattle.std.proofs.lemmas.List.{append-nil, map-append}
use Rattle.list_orders.specs.Search.{numbers}
use Rattle.list_orders.proofs.Stamped.{numbers_more}
use Rattle.bench_types.specs.declared.header.Header.{Header}
use Rattle.bench_types.specs.declared.step.Step.{Step}
use Rattle.bench_model.specs.Session.{state_after, state_at, step_of}
use Rattle.bench_model.specs.Start.{start}
use Rattle.bench_model.specs.Table.{Table}
use Rattle.run_views.specs.declared.places.Places.{Places}
use Rattle.run_views.specs.Trace.{shows}

made_of_one : {X : Type 0} (b : Bool) (f : ℕ → X) (place : ℕ) → map f (if b then place ∷ [] else []) ≡ (if b then f place ∷ [] else [])
made_of_one true f place = refl
made_of_one false f place = refl

pub filter_more : (p : ℕ → Bool) (xs : List ℕ) (x : ℕ) → filter p (xs ++ x ∷ []) ≡ filter p xs ++ (if p x then x ∷ [] else [])
filter_more p [] x = refl
filter_more p (y ∷ xs) x = at (p y) (filter_more p xs x)
  where
    at : (b : Bool) → filter p (xs ++ x ∷ []) ≡ filter p xs ++ (if p x then x ∷ [] else []) →
        (if b then y ∷ filter p (xs ++ x ∷ []) else filter p (xs ++ x ∷ [])) ≡ (if b then y ∷ filter p xs else filter p xs) ++ (if p x then x ∷ [] else [])
    at true rest = ap (λ ys. y ∷ ys) rest
    at false rest = rest

-- what is made of those of the first places that pass a test
abbrev pub made_of : {X : Type 0} → (ℕ → Bool) → (ℕ → X) → ℕ → List X
made_of p f count = map f (filter p (numbers count))

pub made_of_more : {X : Type 0} (p : ℕ → Bool) (f : ℕ → X) (place : ℕ) → made_of p f (place + 1) ≡ made_of p f place ++ (if p place then f place ∷ [] else [])
made_of_more p f place =
    ap (λ ns. map f (filter p ns)) (numbers_more place)
    ∙ ap (map f) (filter_more p (numbers place) place)
    ∙ map-append f (filter p (numbers place)) (if p place then place ∷ [] else [])
    ∙ ap (λ ls. made_of p f place ++ ls) (made_of_one (p place) f place)

after_more : (table : Table) (steps : List Step) (step : Step) → state_after table (steps ++ step ∷ []) ≡ (step_of step (state_after table steps)).1
after_more table [] step = refl
after_more table (one ∷ steps) step = after_more (step_of one table).1 steps step

pub next_state : (header : Header) (steps : List Step) (place : ℕ) (d : Step) → place < length steps → state_at header steps (suc place) ≡
    (step_of (get_or steps place d) (state_at header steps place)).1
unfolding state_at
next_state header steps place d early = ap (state_after (start header)) (take-suc steps place d early) ∙ after_more (start header) (take place steps)
    (get_or steps place d)

within_few : (from count : ℕ) (b : Bool) (xs : List ℕ) → (b ≡ true → from ≤ count) → from + length xs ≤ max from count → from + length
    (xs ++ (if b then count ∷ [] else [])) ≤ max from (count + 1)
within_few from count true xs shown were = let early : from ≤ count = shown refl in omega (arith, length-append xs (count ∷ []))
within_few from count false xs shown were = let same : length (xs ++ []) ≡ length xs = ap length (append-nil xs) in omega arith

-- as many places are shown as there are from the first on
pub shown_few : (places : Places) (count : ℕ) → places.from + length (filter (shows places) (numbers count)) ≤ max places.from count
shown_few places zero = omega arith
shown_few places (suc count) =
    subst (λ n. places.from + length (filter (shows places) (numbers n)) ≤ max places.from n) (add-one count)
    (subst (λ ns. places.from + length ns ≤ max places.from (count + 1))
    (sym (ap (filter (shows places)) (numbers_more count) ∙ filter_more (shows places) (numbers count) count))
    (within_few places.from count (shows places count) (filter (shows places) (numbers count)) (λ e. leb-true _ _ (first_so _ _ e)) (shown_few places count)))
