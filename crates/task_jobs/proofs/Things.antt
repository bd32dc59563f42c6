-- How long things took, with one more.
use Rattle.std.proofs.Common.{◌≡◌, ℕ, ◌+◌, ◌-◌, ◌^◌, ◌<◌, ◌≤◌, max, min, Bool, true, false, ◌==◌, ◌||◌, nat_lt, List, [], ◌∷◌, ◌++◌, length, length-append, map, Option, Some, None, refl, sym, ap, ◌∙◌, arith, inl, inr}
use Rattle.std.specs.Prelude.{find, if◌then◌else◌}
use Rattle.std.specs.List.{sum_by}
use Rattle.std.specs.Option.{option_map_or, option_or}
use Rattle.std.proofs.lemmas.Bool.{cases_lt}
use Rattle.std.proofs.lemmas.Bool.Decides.{nat_tests}
use Rattle.std.proofs.lemmas.List.{map-append}
use Rattle.std.proofs.lemmas.List.Folds.{find-append}
use Rattle.std.proofs.lemmas.List.Sums.{sum_by_push}
use Rattle.bench_model.specs.Tally.{greatest}
use Rattle.task_jobs.specs.declared.durations.Durations.{Durations}
use Rattle.task_jobs.specs.Durations.{durations_of, least, longest_from, times, with_thing, Thing}
use Rattle.task_jobs.proofs.Lists.{greatest_append, least_append}

same_durations : {a a' b b' c c' d d' e e' : ℕ} → a ≡ a' → b ≡ b' → c ≡ c' → d ≡ d' → e ≡ e' →
    let one : Durations = record { count = a; total = b; longest = c; from = d; shortest = e } in
    let other : Durations = record { count = a'; total = b'; longest = c'; from = d'; shortest = e' } in
    one ≡ other
same_durations a b c d e = cc

abbrev takes : ℕ → Thing → Bool
takes time thing = thing.0 == time

-- no thing takes more than the longest
found_none : (things : List Thing) (time : ℕ) → greatest (times things) < time → find (takes time) things ≡ None
found_none [] time more = refl
found_none (thing ∷ things) time more =
    let fails : (thing.0 == time) ≡ false = grind (arith, nat_tests, more) in
    ap (λ b. if b then Some thing else find (takes time) things) fails ∙ found_none things time (omega (arith, more))

-- one takes as much
pub found_some : (thing : Thing) (things : List Thing) → (found : Thing) × (find (takes (greatest (times (thing ∷ things)))) (thing ∷ things) ≡ Some found)
found_some thing [] =
    let here : (thing.0 == max thing.0 0) ≡ true = grind (arith, nat_tests) in
    (thing, ap (λ b. if b then Some thing else None) here)
found_some thing (next ∷ things) = elim (cases_lt thing.0 (greatest (times (next ∷ things)))) [
  | inl less ↦
      let most : max thing.0 (greatest (times (next ∷ things))) ≡ greatest (times (next ∷ things)) = omega (arith, less) in
      let fails : (thing.0 == max thing.0 (greatest (times (next ∷ things)))) ≡ false = grind (arith, nat_tests, less) in
      let rest = found_some next things in (
        rest.0,
        ap (λ b. if b then Some thing else find (takes (max thing.0 (greatest (times (next ∷ things))))) (next ∷ things)) fails
            ∙ ap (λ time. find (takes time) (next ∷ things)) most ∙ rest.1,
      )
  | inr more ↦
      let here : (thing.0 == max thing.0 (greatest (times (next ∷ things)))) ≡ true = grind (arith, nat_tests, more) in
      (thing, ap (λ b. if b then Some thing else find (takes (max thing.0 (greatest (times (next ∷ things))))) (next ∷ things)) here)
]

from_more : (first : Thing) (things : List Thing) (thing : Thing) → longest_from ((first ∷ things) ++ thing ∷ [])
    ≡ (if nat_lt (greatest (times (first ∷ things))) thing.0 then thing.1 else longest_from (first ∷ things))
from_more first things thing =
    let all = first ∷ things in
    let most : greatest (times (all ++ thing ∷ [])) ≡ max (greatest (times all)) thing.0 =
    ap greatest (map-append (λ (one : Thing). one.0) all (thing ∷ [])) ∙ greatest_append (times all) thing.0 in
    ap (λ time. option_map_or (λ (one : Thing). one.1) (find (takes time) (all ++ thing ∷ [])) 0) most
    ∙ ap (λ found. option_map_or (λ (one : Thing). one.1) found 0) (find-append (takes (max (greatest (times all)) thing.0)) all (thing ∷ []))
    ∙ elim (cases_lt (greatest (times all)) thing.0) [
      | inl less ↦
          let tested : nat_lt (greatest (times all)) thing.0 ≡ true = grind (arith, nat_tests, less) in
          let none : find (takes (max (greatest (times all)) thing.0)) all ≡ None = found_none all (max (greatest (times all)) thing.0) (omega (arith, less)) in
          let last : (thing.0 == max (greatest (times all)) thing.0) ≡ true = grind (arith, nat_tests, less) in
          ap (λ found. option_map_or (λ (one : Thing). one.1) (option_or found (find (takes (max (greatest (times all)) thing.0)) (thing ∷ []))) 0) none
          ∙ ap (λ b. option_map_or (λ (one : Thing). one.1) (if b then Some thing else None) 0) last
          ∙ sym (ap (λ b. if b then thing.1 else longest_from all) tested)
      | inr more ↦
          let tested : nat_lt (greatest (times all)) thing.0 ≡ false = grind (arith, nat_tests, more) in
          let same : max (greatest (times all)) thing.0 ≡ greatest (times all) = omega (arith, more) in
          let some = found_some first things in
          ap (λ time. option_map_or (λ (one : Thing). one.1) (option_or (find (takes time) all) (find (takes time) (thing ∷ []))) 0) same
          ∙ kept (find (takes (greatest (times all))) all) (find (takes (greatest (times all))) (thing ∷ [])) some.0 some.1
          ∙ sym (ap (λ b. if b then thing.1 else longest_from all) tested)
    ]
  where
    kept : (found other : Option Thing) (one : Thing) → found ≡ Some one →
        option_map_or (λ (one : Thing). one.1) (option_or found other) 0 ≡ option_map_or (λ (one : Thing). one.1) found 0
    kept None other one is = absurd (cc is)
    kept (Some it) other one is = refl

-- with one thing more
pub one_more : (things : List Thing) (thing : Thing) → durations_of (things ++ thing ∷ []) ≡ with_thing thing (durations_of things)
one_more [] thing =
    let here : (thing.0 == max thing.0 0) ≡ true = grind (arith, nat_tests) in
    same_durations refl (omega arith) (omega arith) (ap (λ b. option_map_or (λ (one : Thing). one.1) (if b then Some thing else None) 0) here) refl
one_more (first ∷ things) thing =
    let all = first ∷ things in
    let some : (length all == 0) ≡ false = grind (arith, nat_tests) in
    same_durations (omega (arith, length-append all (thing ∷ [])))
    (omega (arith, sum_by_push (λ (one : Thing). one.0) all thing))
    (ap greatest (map-append (λ (one : Thing). one.0) all (thing ∷ [])) ∙ greatest_append (times all) thing.0)
    (from_more first things thing ∙ sym (ap (λ none. if none || nat_lt (greatest (times all)) thing.0 then thing.1 else longest_from all) some))
    (ap least (map-append (λ (one : Thing). one.0) all (thing ∷ [])) ∙ least_append first.0 (times things) thing.0
    ∙ sym (ap (λ none. if none then thing.0 else min (least (times all)) thing.0) some))
