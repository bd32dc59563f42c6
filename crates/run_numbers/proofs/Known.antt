-- What is known of tasks.
use Rattle.std.proofs.Common.{◌≡◌, ◌≢◌, ℕ, ◌<◌, ◌≤◌, List, length, get_or, Option, None, sym, ap, subst, ◌∙◌, arith, inl, inr}
use Rattle.std.specs.Prelude.{replicate, slice_set, unwrap_or}
use Rattle.std.proofs.lemmas.Bool.{cases_eq, cases_lt}
use Rattle.std.proofs.lemmas.List.{get_or-replicate, get_or-set_other, get_or-set_same, length-replicate}
use Rattle.std.proofs.lemmas.Option.{slice_get_past, unwrap_or-slice_get}
use Rattle.run_numbers.specs.declared.look.Look.{Look}
use Rattle.run_numbers.specs.Looks.{IsKnown}

-- nothing is known of a task that there is not
pub none_known : (looks : List (Option Look)) (task : ℕ) (look : Look) → length looks ≤ task → IsKnown looks task look → ⊥
none_known looks task look past known =
    let none : get_or looks task None ≡ None =
    sym (unwrap_or-slice_get looks task None) ∙ ap (λ found. unwrap_or found None) (slice_get_past looks task past) in
    cc (none, known)

-- the task is forgotten
pub forgotten : (looks : List (Option Look)) (task other : ℕ) (look : Look) → task < length looks → IsKnown (slice_set looks task None) other look
    → IsKnown looks other look × (task ≢ other)
forgotten looks task other look low known = elim (cases_eq other task) [
  | inl is ↦
      let none : get_or (slice_set looks task None) other None ≡ None =
      ap (λ other. get_or (slice_set looks task None) other None) is ∙ get_or-set_same looks task None None low in
      absurd (cc (none, known))
  | inr away ↦ (sym (get_or-set_other looks task other None None away) ∙ known, λ same. away (sym same))
]

-- one that there is not is not known anyhow
pub never_known : (looks : List (Option Look)) (task other : ℕ) (look : Look) → length looks ≤ task → IsKnown looks other look
    → IsKnown looks other look × (task ≢ other)
never_known looks task other look past known =
    (known, λ same. none_known looks task look past (subst (λ other. IsKnown looks other look) (sym same) known))

no_look : Option Look
no_look = None

-- nothing is known yet
pub never_yet : (count task : ℕ) (look : Look) → IsKnown (replicate count None) task look → ⊥
unfolding no_look
never_yet count task look known = elim (cases_lt task count) [
  | inl low ↦ let none = get_or-replicate count task no_look no_look low in cc (none, known)
  | inr past ↦ none_known (replicate count no_look) task look (omega (arith, past, length-replicate count no_look)) known
]
