-- What a ready task is told to be hindered by is so, and all that is.
use Rattle.std.proofs.Common.{◌≡◌, ◌≢◌, ◌<◌, ◌≤◌, ℕ, List, [], ◌∷◌, length, map, get_or, Bool, true, false, nat_lt, nat_le, Option, Some, None, refl, sym, ap}
use Rattle.std.proofs.Common.{subst, ◌∙◌, arith, true≢false}
use Rattle.std.specs.Prelude.{◌==◌, ◌&&◌, not, All, Contains, position, cond, if◌then◌else◌}
use Rattle.std.specs.List.{list_any, position_or_len}
use Rattle.std.proofs.lemmas.Bool.Decides.{nat_tests}
use Rattle.std.proofs.lemmas.List.Sums.{fails_before_first}
use Rattle.bench_types.proofs.Passes.{header_facts, passes_whole}
use Rattle.bench_types.specs.declared.cause.Cause.{Cause}
use Rattle.bench_types.specs.declared.kernel_data.CoreLook.{CoreLook}
use Rattle.bench_types.specs.declared.kernel_data.Hold.{Hold}
use Rattle.bench_types.specs.declared.kernel_data.Settings.{Settings}
use Rattle.list_orders.specs.Search.{numbers}
use Rattle.bench_model.specs.Control.{core_at, current, is_allowed, is_due, task_at}
use Rattle.bench_model.specs.Seek.{effective}
use Rattle.bench_model.specs.Session.{state_at}
use Rattle.bench_model.specs.Sound.{IsSound}
use Rattle.bench_model.specs.Table.{stamp_queues, Table, is_ready}
use Rattle.bench_model.specs.Suspending.{is_suspended}
use Rattle.bench_model.specs.Tally.{outranks_some}
use Rattle.list_orders.proofs.Filters.{list_any-map}
use Rattle.session_laws.proofs.Tallies.{each_at, length_each, numbers_so}
use Rattle.run_pictures.specs.declared.hindrance.Hindrance.{Hindrance}
use Rattle.run_pictures.specs.declared.hindrance.Obstacle.{Obstacle}
use Rattle.run_pictures.specs.declared.hindrance.Obstacle.TheVariants.{Masked, Held, Due, Unpreempted, Outranked, Lower}
use Rattle.run_pictures.specs.declared.stance.Stance.TheVariants.{Ready, Blocked, Suspended}
use Rattle.run_pictures.specs.HindranceLaws.{in_use, is_lower, AreHindrances, HindrancesAreSo, IsHindered, IsFree, IsSettled, IsTask, RunsInstead}
use Rattle.run_pictures.specs.Hindrances.{hindrance_of, hindrances_of, hold_or, where_ready}
use Rattle.run_pictures.specs.Stances.{core_of, stance_of, stance_on}
use Rattle.run_pictures.proofs.Seen.{kept_settings, sound_state}

-- where no position is found nothing passes
none_passes : {X : Type 0} (p : X → Bool) (xs : List X) (k : ℕ) (d : X) → position p xs ≡ None → k < length xs → p (get_or xs k d) ≡ false
none_passes p xs k d none within = fails_before_first p xs k d (by (nat_lt (position_or_len p xs) (length xs)) refl none)
  where
    by : (b : Bool) → nat_lt (position_or_len p xs) (length xs) ≡ b → cond b (Some (position_or_len p xs)) None ≡ None → k < position_or_len p xs
    by true is found = absurd (cc found)
    by false is found = let beyond : length xs ≤ position_or_len p xs = grind (arith, nat_tests, is) in omega (arith, beyond, within)

-- a task stands ready where it is in a ready list and on no core
stood_ready : (b d : Bool) (core wake : Option ℕ) (cause : Option Cause) → (if b then stance_on core else (if d then Suspended else Blocked wake cause)) ≡ Ready
    → (b ≡ true) × (core ≡ None)
stood_ready true d None wake cause e = (refl, refl)
stood_ready true d (Some core) wake cause e = absurd (cc e)
stood_ready false true core wake cause e = absurd (cc e)
stood_ready false false core wake cause e = absurd (cc e)

cores_decided : (f : ℕ → Obstacle) (ns : List ℕ) → map (λ (hindrance : Hindrance). hindrance.core) (map (λ core. record { core = core; by = f core }) ns) ≡ ns
cores_decided f [] = refl
cores_decided f (n ∷ ns) = ap (λ ms. n ∷ ms) (cores_decided f ns)

-- the first of what keeps a core from a task
abbrev first_of : Bool → Option Hold → Bool → Bool → Bool → ℕ → ℕ → Obstacle
first_of allowed hold due higher preempt other priority =
    if allowed
    then hold_or hold (if due then Due else (if higher then Outranked other priority else
    (if preempt then Lower other priority else Unpreempted other priority)))
    else Masked

both_true : (a b : Bool) → (a && b) ≡ true → (a ≡ true) × (b ≡ true)
both_true true b are = (refl, are)
both_true false b are = absurd (true≢false (sym are))

-- one number is below the other where that is not at most the one
not_at_most : (a b : ℕ) → nat_lt a b ≡ not (nat_le b a)
not_at_most a b = at (nat_le b a) refl
  where
    at : (c : Bool) → nat_le b a ≡ c → nat_lt a b ≡ not c
    at true is = grind (arith, nat_tests, is)
    at false is = grind (arith, nat_tests, is)

-- of a core that is not due under no hold
lower_first : (allowed higher preempt : Bool) (other priority : ℕ) → is_lower (first_of allowed None false higher preempt other priority) ≡
    (allowed && not higher)
lower_first false higher preempt other priority = refl
lower_first true true preempt other priority = refl
lower_first true false true other priority = refl
lower_first true false false other priority = refl

-- of a sound state, and a ready task that is on no core
module _ (table : Table) (task : ℕ) (sound : IsSound table) (ready : stance_of table task ≡ Ready) where
  abbrev own : ℕ
  own = effective table.control task

  abbrev rank : ℕ → ℕ
  rank other = effective table.control other

  abbrev preempts : ℕ → Bool
  preempts other = (task_at table.control other).preempt

  -- what is found at the core
  abbrev found : ℕ → Obstacle
  found core = (hindrance_of table task core).by

  all_printed : hindrances_of table task ≡ map (hindrance_of table task) (numbers table.settings.cores)
  all_printed = ap (λ stance. where_ready stance (map (hindrance_of table task) (numbers table.settings.cores))) ready

  -- no core runs it
  not_current : (core : ℕ) → core < table.settings.cores → current table.control core ≢ task
  not_current core few same =
      let cores = map (core_at table.control) (numbers table.settings.cores) in
      let none = (stood_ready (is_ready task table.orders) (is_suspended stamp_queues task table) (core_of task cores) _ _ ready).1 in
      let first : CoreLook = core_at table.control core in
      let fails = none_passes (λ (look : CoreLook). look.current == task) cores core first none
      (omega (arith, few, length_each (core_at table.control) table.settings.cores)) in
      let is : get_or cores core first ≡ first = each_at (core_at table.control) table.settings.cores core first few in
      let differs : (current table.control core == task) ≡ false = ap (λ (look : CoreLook). look.current == task) (sym is) ∙ fails in
      grind (arith, nat_tests, differs, same)

  -- the current task of a core that is not due is ready
  current_ready : (core : ℕ) → core < table.settings.cores → is_due table.control core ≡ false → is_ready (current table.control core) table.orders ≡ true
  current_ready core few settled = by (is_ready (current table.control core) table.orders) refl
    where
      by : (b : Bool) → is_ready (current table.control core) table.orders ≡ b → b ≡ true
      by true is = refl
      by false is = absurd (true≢false (sym (sound.consistent.in_place.blocked_is_due core (omega (arith, few, sound.consistent.sized.cores)) is) ∙ settled))

  -- ---- what is found is so
  module _ (core : ℕ) (few : core < table.settings.cores) where
    abbrev other : ℕ
    other = current table.control core

    runs : IsFree table task core → RunsInstead table task core other (in_use table other)
    runs free = record { free = free; current = refl; another = not_current core few; ready = current_ready core few free.settled; level = refl }

    by_task : IsFree table task core → IsHindered table task core (if nat_le own (rank other) then Outranked other (in_use table other) else
        (if preempts other then Lower other (in_use table other) else Unpreempted other (in_use table other)))
    by_task free = by (nat_le own (rank other)) refl
      where
        lower : (b : Bool) → preempts other ≡ b → rank other < own → IsHindered table task core
            (if b then Lower other (in_use table other) else Unpreempted other (in_use table other))
        lower true is less =
            let below : nat_lt (rank other) own ≡ true = grind (arith, nat_tests, less) in
            (runs free, λ i. not (free.settled i) && is i && below i)
        lower false is less = (runs free, less, is)

        by : (b : Bool) → nat_le own (rank other) ≡ b → IsHindered table task core
            (if b then Outranked other (in_use table other) else (if preempts other then Lower other (in_use table other) else Unpreempted other
            (in_use table other)))
        by true is = (runs free, grind (arith, nat_tests, is))
        by false is = lower (preempts other) refl (grind (arith, nat_tests, is))

    so : IsHindered table task core (found core)
    so = by_mask (is_allowed table.control core task) refl
      where
        rest : Obstacle
        rest = if nat_le own (rank other) then Outranked other (in_use table other) else
            (if preempts other then Lower other (in_use table other) else Unpreempted other (in_use table other))

        by_due : is_allowed table.control core task ≡ true → table.hold ≡ None → (b : Bool) → is_due table.control core ≡ b → IsHindered table task core
            (if b then Due else rest)
        by_due allowed unheld true is = (allowed, unheld, is)
        by_due allowed unheld false is = by_task (record { allowed = allowed; unheld = unheld; settled = is })

        by_hold : is_allowed table.control core task ≡ true → (hold : Option Hold) → table.hold ≡ hold → IsHindered table task core
            (hold_or hold (if is_due table.control core then Due else rest))
        by_hold allowed None is = by_due allowed is (is_due table.control core) refl
        by_hold allowed (Some hold) is = (allowed, record { hold = hold; held = is; by_core = refl })

        by_mask : (b : Bool) → is_allowed table.control core task ≡ b → IsHindered table task core
            (if b then hold_or table.hold (if is_due table.control core then Due else rest) else Masked)
        by_mask true is = by_hold is table.hold refl
        by_mask false is = is

    -- ---- and nothing else
    runs_found : {rival priority : ℕ} (higher preempt : Bool) → RunsInstead table task core rival priority → nat_le own (rank rival) ≡ higher → preempts rival ≡
        preempt → found core ≡ first_of true None false higher preempt rival priority
    runs_found {rival} {priority} higher preempt instead ranks is =
        let level : in_use table other ≡ priority = ap (in_use table) instead.current ∙ instead.level in
        let ranked : nat_le own (rank other) ≡ higher = ap (λ n. nat_le own (rank n)) instead.current ∙ ranks in
        let off : preempts other ≡ preempt = ap preempts instead.current ∙ is in
        λ i. first_of (instead.free.allowed i) (instead.free.unheld i) (instead.free.settled i) (ranked i) (off i) (instead.current i) (level i)

    alone : (by : Obstacle) → IsHindered table task core by → found core ≡ by
    alone Masked is = λ i. first_of (is i) table.hold (is_due table.control core) (nat_le own (rank other)) (preempts other) other (in_use table other)
    alone (Held holder) is =
        (λ i. first_of (is.0 i) (is.1.held i) (is_due table.control core) (nat_le own (rank other)) (preempts other) other (in_use table other))
        ∙ ap Held is.1.by_core
    alone Due is = λ i. first_of (is.0 i) (is.1 i) (is.2 i) (nat_le own (rank other)) (preempts other) other (in_use table other)
    alone (Unpreempted rival priority) is = runs_found false false is.0 (grind (arith, nat_tests, is.1)) is.2
    alone (Outranked rival priority) is = runs_found true (preempts rival) is.0 (grind (arith, nat_tests, is.1)) refl
    alone (Lower rival priority) is =
        let tests = both_true (not (is_due table.control core) && preempts other) (nat_lt (rank other) own) is.1 in
        let preempt : preempts other ≡ true = (both_true (not (is_due table.control core)) (preempts other) tests.0).1 in
        let ranks : nat_le own (rank other) ≡ false = grind (arith, nat_tests, tests.1) in
        runs_found false true is.0 (ap (λ n. nat_le own (rank n)) (sym is.0.current) ∙ ranks) (ap preempts (sym is.0.current) ∙ preempt)

    -- ---- once no core is due
    tasks : IsSettled table → is_allowed table.control core task ≡ true → IsTask (found core)
    tasks settled allowed =
        subst IsTask (sym (λ i. first_of (allowed i) (settled.unheld i) (settled.settled core few i) (nat_le own (rank other)) (preempts other) other
        (in_use table other)))
        (by (nat_le own (rank other)) (preempts other))
      where
        by : (higher preempt : Bool) → IsTask (first_of true None false higher preempt other (in_use table other))
        by true preempt = tt
        by false true = tt
        by false false = tt

    lower_so : IsSettled table → is_lower (found core) ≡ (is_allowed table.control core task && nat_lt (rank other) own)
    lower_so settled =
        (λ i. is_lower (first_of (is_allowed table.control core task) (settled.unheld i) (settled.settled core few i) (nat_le own (rank other)) (preempts other)
        other (in_use table other)))
        ∙ lower_first (is_allowed table.control core task) (nat_le own (rank other)) (preempts other) other (in_use table other)
        ∙ ap (λ b. is_allowed table.control core task && b) (sym (not_at_most (rank other) own))

  -- a lower task is among them where a tick counts an inverted wait
  inverted_so : IsSettled table → list_any (λ (hindrance : Hindrance). is_lower hindrance.by) (hindrances_of table task) ≡ outranks_some table.control task
  inverted_so settled =
      let lowers : ℕ → Bool = λ core. is_allowed table.control core task && nat_lt (rank (current table.control core)) own in
      ap (list_any (λ (hindrance : Hindrance). is_lower hindrance.by)) all_printed
      ∙ list_any-map (λ (hindrance : Hindrance). is_lower hindrance.by) (hindrance_of table task) (numbers table.settings.cores)
      ∙ sym (list_any-map (λ b. b) (λ core. is_lower (found core)) (numbers table.settings.cores))
      ∙ ap (list_any (λ b. b)) (numbers_so (λ core. is_lower (found core)) lowers table.settings.cores table.settings.cores refl
      (λ core few. lower_so core few settled))
      ∙ list_any-map (λ b. b) lowers (numbers table.settings.cores)
      ∙ ap (λ n. list_any lowers (numbers n)) (sym sound.consistent.sized.cores)

  -- what holds of the hindrance at each core holds of each
  each_decided : (P : Hindrance → Type 0) → ((core : ℕ) → core < table.settings.cores → P (hindrance_of table task core)) → All P (hindrances_of table task)
  each_decided P at = subst (All P) (sym all_printed) (λ k d within.
      let few : k < table.settings.cores = omega (arith, within, length_each (hindrance_of table task) table.settings.cores) in
      subst P (sym (each_at (hindrance_of table task) table.settings.cores k d few)) (at k few))

  is_decided : (hindrance : Hindrance) → hindrance.core < table.settings.cores → IsHindered table task hindrance.core hindrance.by → Contains
      (hindrances_of table task) hindrance
  is_decided hindrance few is =
      let cores = table.settings.cores in
      let same : hindrance_of table task hindrance.core ≡ hindrance = λ i. record { core = hindrance.core; by = alone hindrance.core few hindrance.by is i } in
      subst (λ (found : List Hindrance). Contains found hindrance) (sym all_printed) (
        hindrance.core,
        omega (arith, few, length_each (hindrance_of table task) cores),
        each_at (hindrance_of table task) cores hindrance.core hindrance few ∙
            same,
      )

  pub are_hindrances : 2 ≤ table.settings.cores → AreHindrances table task (hindrances_of table task)
  are_hindrances many = record {
    each = ap (map (λ (hindrance : Hindrance). hindrance.core)) all_printed ∙ cores_decided found (numbers table.settings.cores);
    some = omega (arith, many, ap length all_printed, length_each (hindrance_of table task) table.settings.cores);
    so = each_decided (λ hindrance. IsHindered table task hindrance.core hindrance.by) so;
    alone = is_decided;
    tasks = λ settled. each_decided (λ hindrance. is_allowed table.control hindrance.core task ≡ true → IsTask hindrance.by)
        (λ core few. tasks core few settled);
    inverted = inverted_so;
  }

pub hindrances_are_so : HindrancesAreSo
hindrances_are_so header steps place task is checked few ready =
    let table = state_at header steps place in
    let limits = header_facts header (passes_whole header is.passes) in
    let cores : table.settings.cores ≡ header.config.cores = ap (λ (settings : Settings). settings.cores) (kept_settings header steps place is checked) in
    are_hindrances table task (sound_state header steps place is checked) ready (omega (arith, cores, limits.enough_cores))
