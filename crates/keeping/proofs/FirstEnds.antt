-- The first limit by an end, as the run grows.
use Rattle.std.proofs.Common.{◌≡◌, ℕ, zero, suc, ◌+◌, ◌<◌, ◌≤◌, Bool, true, false, cond, ltb, List, [], ◌∷◌, ◌++◌, length, take, Option, Some, None, refl, sym, ap, ◌∙◌, arith}
use Rattle.std.specs.Prelude.{filter_map, fold, option_map, slice_get}
use Rattle.std.specs.List.{cons_option, find, range_with_len, AllByRecursion}
use Rattle.std.specs.Option.{option_map_or, option_or}
use Rattle.std.proofs.Math.Seq.{take-append_seam}
use Rattle.std.proofs.lemmas.Bool.Decides.{nat_tests}
use Rattle.std.proofs.lemmas.List.{length-append, take-append-le}
use Rattle.std.proofs.lemmas.List.Elements.{filter_map-append}
use Rattle.list_orders.specs.Search.{numbers}
use Rattle.list_orders.proofs.Stamped.{numbers_more}
use Rattle.bench_types.specs.declared.step.Step.{Step}
use Rattle.settled_runs.specs.SettleLaws.{comes_from_outside}
use Rattle.kept_edits.specs.declared.edit.KeptEdit.{KeptEdit}
use Rattle.bench_types.specs.Session.{Session}
use Rattle.kept_runs.specs.declared.call_order.CallOrder.{CallOrder}
use Rattle.kept_runs.specs.declared.known_limit.KnownLimit.{KnownLimit}
use Rattle.kept_runs.specs.declared.known_limit.LimitReason.TheVariants.{End}
use Rattle.kept_runs.specs.Items.{passes_at}
use Rattle.kept_runs.specs.declared.works.Unmade.{Unmade}
use Rattle.kept_runs.specs.Known.{earlier, end_limit, is_due_end, task_at_end}
use Rattle.kept_runs.specs.Rule.{Progress, after_steps, first_progress, firsts, is_within_tick, progress_at}
use Rattle.keeping.specs.Ends.{end_limits, first_end}

-- ---- the last step

at_seam : {X : Type 0} (xs : List X) (x : X) → slice_get (xs ++ x ∷ []) (length xs) ≡ Some x
at_seam [] x = refl
at_seam (y ∷ xs) x = at_seam xs x

before_seam : {X : Type 0} (xs : List X) (x : X) (k : ℕ) → k < length xs → slice_get (xs ++ x ∷ []) k ≡ slice_get xs k
before_seam [] x k low = absurd (omega (arith, low))
before_seam (y ∷ xs) x zero low = refl
before_seam (y ∷ xs) x (suc k) low = before_seam xs x k (omega (arith, low))

-- the limit by the task at its end, if there is one
abbrev pub limit_by : ℕ → Option ℕ → Option KnownLimit
limit_by place o = option_map (λ task. record { place = place; task = task; reason = End }) o

module _ (steps : List Step) (step : Step) (now : Progress) where
  limit_here : end_limit (steps ++ step ∷ []) (length steps) now ≡ cond (comes_from_outside step) (limit_by (length steps) (task_at_end now)) None
  limit_here =
      ap (λ b. cond b (limit_by (length steps) (task_at_end now)) None) (ap (λ o. option_map_or comes_from_outside o false) (at_seam steps step))

  pub no_limit : comes_from_outside step ≡ false → None ≡ end_limit (steps ++ step ∷ []) (length steps) now
  no_limit inside = sym (limit_here ∙ ap (λ b. cond b (limit_by (length steps) (task_at_end now)) None) inside)

  pub limit_known : comes_from_outside step ≡ true → (o : Option ℕ) → o ≡ task_at_end now
      → limit_by (length steps) o ≡ end_limit (steps ++ step ∷ []) (length steps) now
  limit_known comes o is =
      ap (limit_by (length steps)) is ∙ sym (limit_here ∙ ap (λ b. cond b (limit_by (length steps) (task_at_end now)) None) comes)

-- where a unit was the last one of a tick no task is at its end
pub none_within : (now : Progress) → is_within_tick now ≡ true → None ≡ task_at_end now
unfolding task_at_end
none_within now within =
    sym (ap (λ b. cond b None (option_map (λ (one : Unmade). one.task) (find (is_due_end now) (firsts now.unmade)))) within)

pub else_found : (now : Progress) → is_within_tick now ≡ false
    → option_map (λ (one : Unmade). one.task) (find (is_due_end now) (firsts now.unmade)) ≡ task_at_end now
unfolding task_at_end
else_found now apart =
    sym (ap (λ b. cond b None (option_map (λ (one : Unmade). one.task) (find (is_due_end now) (firsts now.unmade)))) apart)

-- ---- the run grows

mapped_same : {Y : Type 0} (f g : ℕ → Option Y) (n a : ℕ) → ((k : ℕ) → a ≤ k → k < a + n → f k ≡ g k)
    → filter_map f (range_with_len a n) ≡ filter_map g (range_with_len a n)
mapped_same f g zero a same = refl
mapped_same f g (suc n) a same =
    let here = same a (omega arith) (omega arith) in
    let rest = mapped_same f g n (a + 1) (λ k low high. same k (omega (arith, low)) (omega (arith, high))) in
    λ i. cons_option (here i) (rest i)

head_of : {X : Type 0} (xs : List X) (o : Option X) → slice_get (xs ++ cons_option o []) 0 ≡ option_or (slice_get xs 0) o
head_of [] None = refl
head_of [] (Some y) = refl
head_of (x ∷ xs) o = refl

pub ends_begin : (start : Progress) → None ≡ first_end start []
unfolding first_end
ends_begin start = refl

module _ (start : Progress) (steps : List Step) (step : Step) where
  abbrev more : List Step
  more = steps ++ step ∷ []

  abbrev later : ℕ → Option KnownLimit
  later place = end_limit more place (after_steps start (take place more))

  abbrev before : ℕ → Option KnownLimit
  before place = end_limit steps place (after_steps start (take place steps))

  same : (place : ℕ) → place < length steps → later place ≡ before place
  same place low =
      let there = before_seam steps step place low in
      let made = take-append-le place steps (step ∷ []) (omega (arith, low)) in
      λ i. cond (option_map_or comes_from_outside (there i) false) (limit_by place (task_at_end (after_steps start (made i)))) None

  last : later (length steps) ≡ end_limit more (length steps) (after_steps start steps)
  last = ap (λ made. end_limit more (length steps) (after_steps start made)) (take-append_seam steps (step ∷ []))

  pub ends_more : option_or (first_end start steps) (end_limit more (length steps) (after_steps start steps)) ≡ first_end start more
  unfolding first_end
  ends_more =
      let count : length more ≡ length steps + 1 = omega (arith, length-append steps (step ∷ [])) in
      let kept = mapped_same later before (length steps) 0 (λ k past low. same k (omega (arith, low))) in
      sym (ap (λ places. slice_get (filter_map later places) 0) (ap numbers count ∙ numbers_more (length steps))
      ∙ ap (λ limits. slice_get limits 0) (filter_map-append later (numbers (length steps)) (length steps ∷ []))
      ∙ (λ i. slice_get (kept i ++ cons_option (last i) []) 0)
      ∙ head_of (filter_map before (numbers (length steps))) (end_limit more (length steps) (after_steps start steps)))

-- ---- it is the earliest one

-- one before which none comes stays the earliest
stays : (limit : KnownLimit) (others : List KnownLimit) → AllByRecursion (λ (other : KnownLimit). limit.place ≤ other.place) others
    → fold earlier (Some limit) others ≡ Some limit
stays limit [] all = refl
stays limit (other ∷ others) all =
    let late = all.0 in
    let test : ltb other.place limit.place ≡ false = grind (arith, nat_tests, late) in
    ap (λ b. fold earlier (cond b (Some other) (Some limit)) others) test ∙ stays limit others all.1

-- limits at ascending places
module _ (limit : ℕ → Option KnownLimit) (placed : (place : ℕ) (it : KnownLimit) → limit place ≡ Some it → it.place ≡ place) where
  behind : (n a least : ℕ) → least ≤ a → AllByRecursion (λ (other : KnownLimit). least ≤ other.place) (filter_map limit (range_with_len a n))
  behind zero a least low = tt
  behind (suc n) a least low = at (limit a) refl (behind n (a + 1) least (omega (arith, low)))
    where
      at : (o : Option KnownLimit) → limit a ≡ o
          → AllByRecursion (λ (other : KnownLimit). least ≤ other.place) (filter_map limit (range_with_len (a + 1) n))
          → AllByRecursion (λ (other : KnownLimit). least ≤ other.place) (cons_option o (filter_map limit (range_with_len (a + 1) n)))
      at None none rest = rest
      at (Some it) is rest = (let place = placed a it is in omega (arith, low, place), rest)

  earliest : (n a : ℕ) → fold earlier None (filter_map limit (range_with_len a n)) ≡ slice_get (filter_map limit (range_with_len a n)) 0
  earliest zero a = refl
  earliest (suc n) a = at (limit a) refl (earliest n (a + 1))
    where
      at : (o : Option KnownLimit) → limit a ≡ o
          → fold earlier None (filter_map limit (range_with_len (a + 1) n)) ≡ slice_get (filter_map limit (range_with_len (a + 1) n)) 0
          → fold earlier None (cons_option o (filter_map limit (range_with_len (a + 1) n)))
          ≡ slice_get (cons_option o (filter_map limit (range_with_len (a + 1) n))) 0
      at None none rest = rest
      at (Some it) is rest = let place = placed a it is in stays it (filter_map limit (range_with_len (a + 1) n)) (behind n (a + 1) it.place (omega (arith, place)))

limit_placed : (run : List Step) (place : ℕ) (now : Progress) (it : KnownLimit) → end_limit run place now ≡ Some it → it.place ≡ place
limit_placed run place now it is = at (passes_at comes_from_outside run place) (task_at_end now) is
  where
    at : (b : Bool) (o : Option ℕ) → cond b (limit_by place o) None ≡ Some it → it.place ≡ place
    at true (Some task) is = cc is
    at true None is = absurd (cc is)
    at false o is = absurd (cc is)

-- of all limits by ends the first is the earliest one
pub first_is_earliest : (start : Progress) (run : List Step) → fold earlier None (end_limits start run) ≡ first_end start run
unfolding first_end
first_is_earliest start run =
    earliest (λ place. end_limit run place (after_steps start (take place run)))
    (λ place it is. limit_placed run place (after_steps start (take place run)) it is) (length run) 0

-- so it is of the run that keeps work of an edited session
pub first_is_earliest_kept : (order : CallOrder) (session : Session) (edits : List KeptEdit) (settled run : List Step)
    → fold earlier None (filter_map (λ place. end_limit run place (progress_at order session edits settled run place)) (numbers (length run)))
    ≡ first_end (first_progress order session edits settled) run
unfolding progress_at
first_is_earliest_kept order session edits settled run = first_is_earliest (first_progress order session edits settled) run
