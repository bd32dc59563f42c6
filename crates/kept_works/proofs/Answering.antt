-- Clocks that are asked for, at one place of a run after another.
use Rattle.std.proofs.Common.{◌≡◌, ℕ, ◌+◌, ◌<◌, ◌≤◌, Bool, true, false, cond, eqb, ◌&&◌, All, List, [], length, map, take, refl, sym, ap, subst, ◌∙◌, inl, inr, arith}
use Rattle.std.specs.List.{filter}
use Rattle.std.specs.Prelude.{slice_index_or}
use Rattle.std.proofs.lemmas.Bool.{cases_eq, cases_lt}
use Rattle.std.proofs.lemmas.Bool.Decides.{nat_tests}
use Rattle.std.proofs.lemmas.List.{ext_get_or, get_or_default, get_or-map, get_or_past, length-map}
use Rattle.std.proofs.lemmas.List.Elements.{All-filter, All-from_get_or, All-from_recursion, All-get_or}
use Rattle.bench_types.specs.Limits.{max_steps}
use Rattle.bench_types.specs.Session.{Session}
use Rattle.list_orders.specs.Search.{has, numbers}
use Rattle.list_orders.proofs.Filters.{has-filter}
use Rattle.list_orders.proofs.Stamped.{numbers_below, numbers_have}
use Rattle.kept_runs.specs.declared.clocks.Clock.{Clock}
use Rattle.kept_runs.specs.Clocks.{clocks_at, zero_clock}
use Rattle.kept_works.specs.declared.asked.Asked.{Asked}
use Rattle.kept_works.specs.declared.walk.Walk.{Walk}
use Rattle.kept_works.specs.Asked.{asked_at, clock_of, task_at, AreSorted, IsAsked}
use Rattle.keeping.specs.Works.{clock_at}
use Rattle.kept_works.specs.Walk.{IsAt, IsShort}
use Rattle.kept_works.proofs.Walking.{still_short, zero_short}

abbrev pub place_at : List Asked → ℕ → ℕ
place_at asked index = (asked_at asked index).place

-- what is asked there
abbrev pub row_of : List Asked → ℕ → List ℕ
row_of asked place = filter (λ index. eqb (place_at asked index) place) (numbers (length asked))

-- all that is asked before the place is answered
pub record AreAnswered (run : Session) (asked : List Asked) (place : ℕ) (answers : List Clock) : Type 0 where
  pub many : length answers ≡ length asked
  pub each :
      (index : ℕ) → index < length asked → place_at asked index < place
      → clock_at answers index ≡ clock_of run (asked_at asked index)
  pub short : (index : ℕ) → IsShort max_steps (clock_at answers index)

pub row_low : (asked : List Asked) (place : ℕ) → All (λ index. index < length asked) (row_of asked place)
row_low asked place =
    All-filter (λ index. eqb (place_at asked index) place) (λ index. index < length asked) (numbers (length asked))
    (All-from_recursion (λ index. index < length asked) (numbers (length asked)) (numbers_below (length asked)))

pub row_read : (places : ℕ) (asked : List Asked) (rows : List (List ℕ)) (place : ℕ) (row : List ℕ) → AreSorted places asked rows → place < places
    → row ≡ slice_index_or rows place row → row ≡ row_of asked place
row_read places asked rows place row sorted low is =
    let within : place < length rows = omega (arith, low, sorted.many) in
    is ∙ get_or_default rows place row [] within ∙ sorted.each place low

row_has : (asked : List Asked) (place index : ℕ) → index < length asked → has index (row_of asked place) ≡ eqb (place_at asked index) place
row_has asked place index low =
    has-filter (λ index. eqb (place_at asked index) place) index (numbers (length asked))
    ∙ ap (λ b. eqb (place_at asked index) place && b) (numbers_have (length asked) index low)
    ∙ and_true (eqb (place_at asked index) place)
  where
    and_true : (b : Bool) → (b && true) ≡ b
    and_true true = refl
    and_true false = refl

module _ (run : Session) (asked : List Asked) where
  pub answers_on :
      (place : ℕ) (row : List ℕ) (walk : Walk) (old new : List Clock) → All (IsAsked run) asked
      → row ≡ row_of asked place → IsAt run.header (take place run.steps) walk → length (take place run.steps) ≤ max_steps → length new ≡ length old
      → ((index : ℕ) → index < length asked
      → clock_at new index ≡ cond (has index row) (clock_at walk.worked.items (task_at asked index)) (clock_at old index))
      → AreAnswered run asked place old → AreAnswered run asked (place + 1) new
  answers_on place row walk old new all is_row at few many is answered = record {
    many = many ∙ answered.many;
    each = λ index low early. elim (cases_eq (place_at asked index) place) [
      | inl here ↦
          let one = All-get_or (IsAsked run) asked index (record { task = 0; place = 0 }) low all in
          let yes : eqb (place_at asked index) place ≡ true = grind (arith, nat_tests, here) in
          given index low ∙ ap (λ b. cond b (clock_at walk.worked.items (task_at asked index)) (clock_at old index)) yes
          ∙ at.clocks (task_at asked index) one.task
          ∙ ap (λ place. clocks_at run.header run.steps place (task_at asked index)) (sym here)
      | inr away ↦
          let no : eqb (place_at asked index) place ≡ false = grind (arith, nat_tests, away) in
          given index low ∙ ap (λ b. cond b (clock_at walk.worked.items (task_at asked index)) (clock_at old index)) no
          ∙ answered.each index low (omega (arith, early, away))
    ];
    short = λ index. elim (cases_lt index (length asked)) [
      | inl low ↦ subst (IsShort max_steps) (sym (given index low)) (short index (eqb (place_at asked index) place))
      | inr past ↦
          subst (IsShort max_steps) (sym (get_or_past new index zero_clock (omega (arith, past, many, answered.many)))) (zero_short max_steps)
    ];
  }
    where
      given : (index : ℕ) → index < length asked
          → clock_at new index ≡ cond (eqb (place_at asked index) place) (clock_at walk.worked.items (task_at asked index)) (clock_at old index)
      given index low =
          is index low
          ∙ ap (λ b. cond b (clock_at walk.worked.items (task_at asked index)) (clock_at old index))
          (ap (has index) is_row ∙ row_has asked place index low)

      short : (index : ℕ) (b : Bool) → IsShort max_steps (cond b (clock_at walk.worked.items (task_at asked index)) (clock_at old index))
      short index true =
          still_short (length (take place run.steps)) max_steps (clock_at walk.worked.items (task_at asked index)) few (at.short (task_at asked index))
      short index false = answered.short index

  pub all_answered : (answers : List Clock) → All (IsAsked run) asked → AreAnswered run asked (length run.steps + 1) answers
      → answers ≡ map (clock_of run) asked
  all_answered answers all answered =
      ext_get_or zero_clock answers (map (clock_of run) asked) (answered.many ∙ sym (length-map asked (clock_of run))) (λ index low.
      let inside : index < length asked = omega (arith, low, answered.many) in
      let one = All-get_or (IsAsked run) asked index (record { task = 0; place = 0 }) inside all in
      answered.each index inside (omega (arith, one.place))
      ∙ sym (get_or-map (clock_of run) asked index (record { task = 0; place = 0 }) zero_clock inside))

  pub all_short : (place : ℕ) (answers : List Clock) → AreAnswered run asked place answers → All (IsShort max_steps) answers
  all_short place answers answered = All-from_get_or (IsShort max_steps) answers zero_clock (λ index low. answered.short index)
