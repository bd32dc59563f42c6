-- The best core so far, core by core, is the core that is asked.
use Rattle.std.proofs.Common.{◌≡◌, ℕ, ◌+◌, ◌<◌, Bool, true, false, cond, not, eqb, ◌&&◌, length, Option, Some, None, refl, sym, ap, ◌∙◌, arith, inl, inr}
use Rattle.std.specs.Option.{option_map_or}
use Rattle.std.proofs.lemmas.Bool.{cases_eq}
use Rattle.std.proofs.lemmas.Bool.Decides.{nat_tests}
use Rattle.bench_model.specs.Control.{Control, ask}
use Rattle.std.proofs.lemmas.Nat.Bits.{bit_at-zero}
use Rattle.bench_model.specs.Cores.{has_core}
use Rattle.bench_model.specs.Seek.{is_preemptible_by, is_running, yields_first, core_to_yield, seek}
use Rattle.order_laws.specs.AskedCores.{IsCandidate, IsAnswer}
use Rattle.order_laws.proofs.AskedCores.{best_core}
use Rattle.list_orders.specs.Scans.{better_of}
use Rattle.ready_core.specs.Fields.{may_be_asked, stays_asked}

module _ (control : Control) (task : ℕ) (among : ℕ → Bool) where
  -- of the cores below n: one that may be asked and is asked before every other, or none may be asked
  abbrev pub IsBestBelow : ℕ → Option ℕ → Type 0
  IsBestBelow n None = (d : ℕ) → d < n → may_be_asked control task among d ≡ false
  IsBestBelow n (Some c) = (c < n) × (may_be_asked control task among c ≡ true) ×
      ((d : ℕ) → d < n → may_be_asked control task among d ≡ true → yields_first control c d ≡ true)

  pub none_below : IsBestBelow 0 None
  none_below = λ d low. absurd (omega (arith, low))

  -- one more core
  pub best_more : (n : ℕ) (best : Option ℕ) → IsBestBelow n best → IsBestBelow (n + 1)
      (better_of (stays_asked control) (may_be_asked control task among) best n)
  best_more n None none = either (may_be_asked control task among n) refl
    where
      either : (b : Bool) → may_be_asked control task among n ≡ b → IsBestBelow (n + 1) (cond (b && true) (Some n) None)
      either true may = (
        omega arith,
        may,
        λ d low asks. elim (cases_eq d n) [
          | inl here ↦ grind (arith, nat_tests, here)
          | inr away ↦ absurd (cc (none d (omega (arith, low, away)), asks))
        ],
      )
      either false may = λ d low. elim (cases_eq d n) [
        | inl here ↦ cc (here, may)
        | inr away ↦ none d (omega (arith, low, away))
      ]
  best_more n (Some c) some = either (may_be_asked control task among n) refl (stays_asked control c n) refl
    where
      either : (b : Bool) → may_be_asked control task among n ≡ b → (s : Bool) → stays_asked control c n ≡ s → IsBestBelow (n + 1)
          (cond (b && not s) (Some n) (Some c))
      either true may false takes = (
        omega arith,
        may,
        λ d low asks. elim (cases_eq d n) [
          | inl here ↦ grind (arith, nat_tests, here)
          | inr away ↦ grind (arith, nat_tests, takes, some.0, some.2 d (omega (arith, low, away)) asks, low, away)
        ],
      )
      either true may true stays = (
        omega (arith, some.0),
        some.1,
        λ d low asks. elim (cases_eq d n) [
          | inl here ↦ grind (arith, nat_tests, here, stays)
          | inr away ↦ some.2 d (omega (arith, low, away)) asks
        ],
      )
      either false may s either_way = (
        omega (arith, some.0),
        some.1,
        λ d low asks. elim (cases_eq d n) [
          | inl here ↦ absurd (cc (here, may, asks))
          | inr away ↦ some.2 d (omega (arith, low, away)) asks
        ],
      )

  below_candidate : (c : ℕ) → IsCandidate control task among c → may_be_asked control task among c ≡ true
  below_candidate c candidate = grind (arith, candidate.1, candidate.2)

  -- that of all cores is what the search answers
  pub best_is_answer : (best : Option ℕ) → IsBestBelow (length control.cores) best → IsAnswer control task among best
  best_is_answer None none = λ core candidate. cc (none core candidate.0, below_candidate core candidate)
  best_is_answer (Some c) some = (
    (some.0, grind (arith, some.1), grind (arith, some.1)),
    λ other candidate. some.2 other candidate.0
        (below_candidate other candidate),
  )

  -- there is one answer
  pub one_answer : (one other : Option ℕ) → IsAnswer control task among one → IsAnswer control task among other → one ≡ other
  one_answer None None a b = refl
  one_answer None (Some d) a b = absurd (a d b.0)
  one_answer (Some c) None a b = absurd (b c a.0)
  one_answer (Some c) (Some d) a b = ap Some (grind (arith, nat_tests, a.1 d b.0, b.1 c a.0))

  pub best_is_asked : (best : Option ℕ) → IsBestBelow (length control.cores) best → best ≡ core_to_yield control task among
  best_is_asked best is = one_answer best (core_to_yield control task among) (best_is_answer best is) (best_core control task among)

-- tests that agree on the cores ask the same one
pub asked_agrees : (control : Control) (task : ℕ) (among others : ℕ → Bool) → ((core : ℕ) → core < length control.cores → among core ≡ others core) →
    core_to_yield control task among ≡ core_to_yield control task others
asked_agrees control task among others same = one_answer control task others (core_to_yield control task among) (core_to_yield control task others)
    (over (core_to_yield control task among) (best_core control task among)) (best_core control task others)
  where
    there : (core : ℕ) → IsCandidate control task among core → IsCandidate control task others core
    there core candidate = (candidate.0, sym (same core candidate.0) ∙ candidate.1, candidate.2)

    back : (core : ℕ) → IsCandidate control task others core → IsCandidate control task among core
    back core candidate = (candidate.0, same core candidate.0 ∙ candidate.1, candidate.2)

    over : (o : Option ℕ) → IsAnswer control task among o → IsAnswer control task others o
    over None none = λ core candidate. none core (back core candidate)
    over (Some c) some = (there c some.0, λ other candidate. some.1 other (back other candidate))

pub seek_agrees : (acting : ℕ) (control : Control) (task : ℕ) (among others : ℕ → Bool) → ((core : ℕ) → core < length control.cores → among core ≡ others core)
    → seek acting task among control ≡ seek acting task others control
unfolding seek
seek_agrees acting control task among others same = ap (λ o. cond (is_running control task) control (option_map_or (λ core. ask acting core control) o control))
    (asked_agrees control task among others same)

-- among no cores none is asked
pub asks_none : (acting task none : ℕ) (control : Control) → none ≡ 0 → control ≡ seek acting task (has_core none) control
unfolding seek
asks_none acting task none control is = at (is_running control task)
  where
    empty : (d : ℕ) → has_core none d ≡ false
    empty d = ap (λ n. has_core n d) is ∙ ap (λ b. eqb b 1) (bit_at-zero d)

    asked : None ≡ core_to_yield control task (has_core none)
    asked = best_is_asked control task (has_core none) None (λ d low. ap (λ b. b && is_preemptible_by control task d) (empty d))

    at : (b : Bool) → control ≡ cond b control (option_map_or (λ core. ask acting core control) (core_to_yield control task (has_core none)) control)
    at true = refl
    at false = ap (λ o. option_map_or (λ core. ask acting core control) o control) asked
