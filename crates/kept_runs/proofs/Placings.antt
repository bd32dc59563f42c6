-- Calls in their order with their clocks, and the works that come of them.
use Rattle.std.proofs.Common.{◌≡◌, ℕ, Bool, true, false, cond, not, eqb, List, [], ◌∷◌, map, Some, refl, sym, ap, ◌∙◌, arith}
use Rattle.std.specs.Prelude.{filter_map, fold}
use Rattle.std.specs.List.{filter, AllByRecursion}
use Rattle.std.proofs.lemmas.Bool.Decides.{nat_tests}
use Rattle.list_orders.proofs.Filters.{All-filter, All-filter_passes, All-weaker, All-both}
use Rattle.settled_runs.specs.declared.waiting_call.WaitingCall.{WaitingCall}
use Rattle.settled_runs.specs.Settled as settled
use Rattle.kept_runs.specs.declared.clocks.Clock.{Clock}
use Rattle.kept_runs.specs.Clocks.{Clocks, elapsed, later_clock}
use Rattle.kept_runs.specs.Rule.{as_waiting, firsts, without_first}
use Rattle.kept_runs.specs.declared.works.Unmade.{Unmade}
use Rattle.kept_runs.specs.Works.{Placed, changed_work, with_clock, works_from}
use Rattle.kept_runs.proofs.Ahead.{head_or}
use Rattle.kept_runs.proofs.Firsts.{firsts_all}

-- ---- calls with clocks

abbrev pub waits_of : Placed → WaitingCall
waits_of placed = record { task = placed.task; call = placed.call }

abbrev pub clocks_of : ℕ → List Placed → List Clock
clocks_of task [] = []
clocks_of task (placed ∷ calls) = cond (eqb placed.task task) (placed.clock ∷ clocks_of task calls) (clocks_of task calls)

-- nothing changes its work
abbrev pub IsUnchanged : Placed → Type 0
IsUnchanged placed = placed.changes ≡ []

-- without the first of the task
abbrev pub placed_without : ℕ → List Placed → List Placed
placed_without task [] = []
placed_without task (placed ∷ calls) = cond (eqb placed.task task) calls (placed ∷ placed_without task calls)

pub waits_without : (task : ℕ) (placed : List Placed) → map waits_of (placed_without task placed) ≡ settled.without_first task (map waits_of placed)
waits_without task [] = refl
waits_without task (one ∷ placed) = at (eqb one.task task) (waits_without task placed)
  where
    at : (b : Bool) → map waits_of (placed_without task placed) ≡ settled.without_first task (map waits_of placed)
        → map waits_of (cond b placed (one ∷ placed_without task placed))
        ≡ cond b (map waits_of placed) (waits_of one ∷ settled.without_first task (map waits_of placed))
    at true rest = refl
    at false rest = ap (λ waits. waits_of one ∷ waits) rest

pub clocks_without : (task : ℕ) (placed : List Placed) (clock : Clock) (rest : List Clock) → clocks_of task placed ≡ clock ∷ rest
    → clocks_of task (placed_without task placed) ≡ rest
clocks_without task [] clock rest are = absurd (cc are)
clocks_without task (one ∷ placed) clock rest are = at (eqb one.task task) refl are (clocks_without task placed clock rest)
  where
    at : (b : Bool) → eqb one.task task ≡ b → cond b (one.clock ∷ clocks_of task placed) (clocks_of task placed) ≡ clock ∷ rest
        → (clocks_of task placed ≡ clock ∷ rest → clocks_of task (placed_without task placed) ≡ rest)
        → clocks_of task (cond b placed (one ∷ placed_without task placed)) ≡ rest
    at true own are later = cc are
    at false other are later = ap (λ b. cond b (one.clock ∷ clocks_of task (placed_without task placed)) (clocks_of task (placed_without task placed))) other ∙ later are

pub unchanged_without : (task : ℕ) (placed : List Placed) → AllByRecursion IsUnchanged placed → AllByRecursion IsUnchanged (placed_without task placed)
unchanged_without task [] all = tt
unchanged_without task (one ∷ placed) all = at (eqb one.task task) (unchanged_without task placed all.1)
  where
    at : (b : Bool) → AllByRecursion IsUnchanged (placed_without task placed)
        → AllByRecursion IsUnchanged (cond b placed (one ∷ placed_without task placed))
    at true rest = all.1
    at false rest = (all.0, rest)

pub clocks_other : (task other : ℕ) (placed : List Placed) → eqb task other ≡ false → clocks_of other (placed_without task placed) ≡ clocks_of other placed
clocks_other task other [] apart = refl
clocks_other task other (one ∷ placed) apart = at (eqb one.task task) refl (clocks_other task other placed apart)
  where
    at : (b : Bool) → eqb one.task task ≡ b → clocks_of other (placed_without task placed) ≡ clocks_of other placed
        → clocks_of other (cond b placed (one ∷ placed_without task placed)) ≡ clocks_of other (one ∷ placed)
    at true own rest =
        let away : eqb one.task other ≡ false = grind (arith, nat_tests, own, apart) in
        sym (ap (λ b. cond b (one.clock ∷ clocks_of other placed) (clocks_of other placed)) away)
    at false none rest = ap (λ rest. cond (eqb one.task other) (one.clock ∷ rest) rest) rest

-- ---- their works

module _ (ends : Clocks) (tasks : List ℕ) where
  ends_wait : (last : Clocks) (some : List ℕ) → filter_map as_waiting (works_from ends last some []) ≡ []
  ends_wait last [] = refl
  ends_wait last (task ∷ some) = ends_wait last some

  pub works_wait : (placed : List Placed) (last : Clocks) → filter_map as_waiting (works_from ends last tasks placed) ≡ map waits_of placed
  works_wait [] last = ends_wait last tasks
  works_wait (one ∷ placed) last =
      ap (λ waits. waits_of one ∷ waits) (works_wait placed (with_clock last one.task (later_clock (last one.task) one.clock)))

  -- the work of a first call, or of an end, is what elapses to the task's next clock
  abbrev pub IsNextWork : Clocks → List Placed → Unmade → Type 0
  IsNextWork last placed one = one.work ≡ elapsed (last one.task) (head_or (ends one.task) (clocks_of one.task placed))

  ends_next : (last : Clocks) (some : List ℕ) → AllByRecursion (IsNextWork last []) (works_from ends last some [])
  ends_next last [] = tt
  ends_next last (task ∷ some) = (refl, ends_next last some)

  pub firsts_next : (placed : List Placed) (last : Clocks) → AllByRecursion IsUnchanged placed → AllByRecursion (IsNextWork last placed) (firsts (works_from ends last tasks placed))
  firsts_next [] last unchanged = firsts_all (IsNextWork last []) (works_from ends last tasks []) (ends_next last tasks)
  firsts_next (one ∷ placed) last unchanged =
      let next = with_clock last one.task (later_clock (last one.task) one.clock) in
      let rest = firsts (works_from ends next tasks placed) in
      let apart : Unmade → Bool = λ (other : Unmade). not (eqb other.task one.task) in (
        ap (fold changed_work (elapsed (last one.task) one.clock)) unchanged.0
            ∙ ap (λ b. elapsed (last one.task) (head_or (ends one.task) (cond b (one.clock ∷ clocks_of one.task placed) (clocks_of one.task placed)))) (sym own),
        All-weaker (λ other. IsNextWork next placed other × (apart other ≡ true)) (IsNextWork last (one ∷ placed)) other_next (filter apart rest)
            (All-both (IsNextWork next placed) (λ other. apart other ≡ true) (filter apart rest)
            (All-filter (IsNextWork next placed) apart rest (firsts_next placed next unchanged.1))
            (All-filter_passes apart rest)),
      )
    where
      own : eqb one.task one.task ≡ true
      own = grind (arith, nat_tests)

      other_next : (other : Unmade)
          → IsNextWork (with_clock last one.task (later_clock (last one.task) one.clock)) placed other × (not (eqb other.task one.task) ≡ true)
          → IsNextWork last (one ∷ placed) other
      other_next other both =
          let away : eqb other.task one.task ≡ false = grind (arith, nat_tests, both.1) in
          let back : eqb one.task other.task ≡ false = grind (arith, nat_tests, away) in
          both.0
          ∙ ap (λ b. elapsed (cond b (later_clock (last one.task) one.clock) (last other.task)) (head_or (ends other.task) (clocks_of other.task placed))) away
          ∙ ap (λ b. elapsed (last other.task) (head_or (ends other.task) (cond b (one.clock ∷ clocks_of other.task placed) (clocks_of other.task placed))))
          (sym back)

  -- one clock more, of one task and of another one
  apart_clocks : (last : Clocks) (one other : ℕ) (first second : Clock) → eqb one other ≡ false
      → with_clock (with_clock last one first) other second ≡ with_clock (with_clock last other second) one first
  apart_clocks last one other first second apart = λ i task. at task (eqb task one) refl (eqb task other) refl i
    where
      at : (task : ℕ) (a : Bool) → eqb task one ≡ a → (b : Bool) → eqb task other ≡ b → cond b second (cond a first (last task)) ≡ cond a first (cond b second (last task))
      at task true is true same = absurd (let none : eqb one other ≡ true = grind (arith, nat_tests, is, same) in cc (none, apart))
      at task true is false same = refl
      at task false is b same = refl

  pub works_without :
      (placed : List Placed) (last : Clocks) (task : ℕ) (clock : Clock) (rest : List Clock) → clocks_of task placed ≡ clock ∷ rest
      → without_first task (works_from ends last tasks placed)
      ≡ works_from ends (with_clock last task (later_clock (last task) clock)) tasks (placed_without task placed)
  works_without [] last task clock rest are = absurd (cc are)
  works_without (one ∷ placed) last task clock rest are =
      at (eqb one.task task) refl are (works_without placed (with_clock last one.task (later_clock (last one.task) one.clock)) task clock rest)
    where
      next : Clocks
      next = with_clock last one.task (later_clock (last one.task) one.clock)

      first : Unmade
      first = record { task = one.task; call = Some one.call; work = fold changed_work (elapsed (last one.task) one.clock) one.changes }

      at : (b : Bool) → eqb one.task task ≡ b → cond b (one.clock ∷ clocks_of task placed) (clocks_of task placed) ≡ clock ∷ rest
          → (clocks_of task placed ≡ clock ∷ rest
          → without_first task (works_from ends next tasks placed)
          ≡ works_from ends (with_clock next task (later_clock (next task) clock)) tasks (placed_without task placed))
          → cond b (works_from ends next tasks placed) (first ∷ without_first task (works_from ends next tasks placed))
          ≡ works_from ends (with_clock last task (later_clock (last task) clock)) tasks (cond b placed (one ∷ placed_without task placed))
      at true own are later =
          let same : one.task ≡ task = grind (arith, nat_tests, own) in
          let alike : one.clock ≡ clock = cc are in
          λ i. works_from ends (with_clock last (same i) (later_clock (last (same i)) (alike i))) tasks placed
      at false other are later =
          let back : eqb task one.task ≡ false = grind (arith, nat_tests, other) in
          let kept : next task ≡ last task = ap (λ b. cond b (later_clock (last one.task) one.clock) (last task)) back in
          let more : Clock = later_clock (last task) clock in
          let other_kept : with_clock last task more one.task ≡ last one.task = ap (λ b. cond b more (last one.task)) other in
          ap (λ works. first ∷ works) (later are
          ∙ ap (λ last_clock. works_from ends (with_clock next task (later_clock last_clock clock)) tasks (placed_without task placed)) kept
          ∙ ap (λ lasts. works_from ends lasts tasks (placed_without task placed))
          (apart_clocks last one.task task (later_clock (last one.task) one.clock) more other)
          ∙ ap (λ own. works_from ends (with_clock (with_clock last task more) one.task (later_clock own one.clock)) tasks (placed_without task placed))
          (sym other_kept))
          ∙ ap (λ own. record { task = one.task; call = Some one.call; work = fold changed_work (elapsed own one.clock) one.changes }
          ∷ works_from ends (with_clock (with_clock last task more) one.task (later_clock (with_clock last task more one.task) one.clock)) tasks
          (placed_without task placed)) (sym other_kept)
