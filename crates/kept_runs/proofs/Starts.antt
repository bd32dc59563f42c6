-- Without edits a run that keeps work stands at the start as the settled run does.
use Rattle.std.proofs.Common.{◌≡◌, ℕ, zero, suc, ◌+◌, ◌-◌, ◌<◌, ◌≤◌, Bool, true, false, cond, not, eqb, leb, ◌&&◌, List, [], ◌∷◌, ◌++◌, length, map, take, drop, replicate, Some, None, refl, sym, ap, subst, ◌∙◌, inl, inr, append_assoc, arith}
use Rattle.std.specs.Prelude.{count_by, slice_get, slice_index_or}
use Rattle.std.specs.List.{cons_option, filter, find, range_with_len, sum_by}
use Rattle.std.specs.Option.{option_map_or}
use Rattle.std.proofs.lemmas.Bool.{cases_eq}
use Rattle.std.proofs.lemmas.Bool.Decides.{nat_tests}
use Rattle.std.proofs.lemmas.List.{length-append}
use Rattle.std.proofs.lemmas.List.Sums.{sum_by-append, sum_by-cons}
use Rattle.std.proofs.Math.Seq.{take-append_seam, take-length}
use Rattle.bench_types.specs.declared.step.Call.{Call}
use Rattle.bench_types.specs.declared.step.Step.{Step}
use Rattle.bench_types.specs.declared.step.Step.TheVariants.{Tick, Switch, Interrupt, QueueInterrupt, ResumeInterrupt, Pass}
use Rattle.bench_types.specs.declared.step.Step.TheVariants as steps
use Rattle.bench_types.specs.Session.{Session}
use Rattle.list_orders.specs.Search.{numbers}
use Rattle.list_orders.proofs.Filters.{All-weaker, filter-map, find_none}
use Rattle.list_orders.proofs.Stamped.{numbers_below}
use Rattle.bench_model.specs.Session.{step_of}
use Rattle.bench_model.specs.Start.{start}
use Rattle.bench_model.specs.Table.{Table}
use Rattle.settled_runs.specs.declared.waiting_call.WaitingCall.{WaitingCall}
use Rattle.settled_runs.specs.Settled.{events_of, is_event, is_finish, IsSettled}
use Rattle.settled_runs.specs.SettleLaws.{call_of, calls_of, waiting_of}
use Rattle.settled_runs.proofs.Settlings.{settling_keeps_calls}
use Rattle.kept_runs.specs.declared.clocks.Clock.{Clock}
use Rattle.kept_runs.specs.Clocks.{Clocks, clocks_after, clocks_along, clocks_at, zero_clock}
use Rattle.kept_runs.specs.Items.{Item, begins_call, event_from, is_alike, items_from, passes_at, place_of_event, places_of, settled_place}
use Rattle.kept_runs.specs.Works.{anchor_clocks, placed_calls}
use Rattle.kept_runs.proofs.Agreeing.{calls_in}
use Rattle.kept_runs.proofs.Ahead.{ahead, head_or}
use Rattle.kept_runs.proofs.Placings.{clocks_of, waits_of}

-- ---- places

range_shift : (n a : ℕ) → range_with_len (suc a) n ≡ map suc (range_with_len a n)
range_shift zero a = refl
range_shift (suc n) a =
    let same : suc a + 1 ≡ suc (a + 1) = omega arith in
    ap (λ first. suc a ∷ range_with_len first n) same ∙ ap (λ rest. suc a ∷ rest) (range_shift n (a + 1))

map_shift : {X : Type 0} (f : ℕ → X) (places : List ℕ) → map f (map suc places) ≡ map (λ place. f (suc place)) places
map_shift f [] = refl
map_shift f (place ∷ places) = ap (λ rest. f (suc place) ∷ rest) (map_shift f places)

module _ (test : Step → Bool) where
  pub places_cons : (step : Step) (run : List Step)
      → places_of test (step ∷ run) ≡ cond (test step) (0 ∷ map suc (places_of test run)) (map suc (places_of test run))
  places_cons step run =
      ap (λ rest. cond (test step) (0 ∷ rest) rest)
      (ap (filter (passes_at test (step ∷ run))) (range_shift (length run) 0) ∙ filter-map (passes_at test (step ∷ run)) suc (numbers (length run)))

  -- something of each place, by what is at the first place and at the others
  pub at_places : {X : Type 0} (f : ℕ → X) (step : Step) (run : List Step)
      → map f (places_of test (step ∷ run))
      ≡ cond (test step) (f 0 ∷ map (λ place. f (suc place)) (places_of test run)) (map (λ place. f (suc place)) (places_of test run))
  at_places f step run = ap (map f) (places_cons step run) ∙ at (test step)
    where
      at : (b : Bool)
          → map f (cond b (0 ∷ map suc (places_of test run)) (map suc (places_of test run)))
          ≡ cond b (f 0 ∷ map (λ place. f (suc place)) (places_of test run)) (map (λ place. f (suc place)) (places_of test run))
      at true = ap (λ rest. f 0 ∷ rest) (map_shift f (places_of test run))
      at false = map_shift f (places_of test run)

-- the clocks at a task's calls
clocks_ahead : (run : List Step) (task : ℕ) (table : Table) (clocks : Clocks)
    → map (λ place. clocks_along table clocks (take place run) task) (places_of (begins_call task) run) ≡ ahead task table clocks run
clocks_ahead [] task table clocks = refl
clocks_ahead (step ∷ run) task table clocks =
    at_places (begins_call task) (λ place. clocks_along table clocks (take place (step ∷ run)) task) step run
    ∙ ap (λ rest. cond (begins_call task step) (clocks task ∷ rest) rest) (clocks_ahead run task (step_of step table).1 (clocks_after step table clocks))

-- ---- so many of them

spread : Clock → List Clock → ℕ → List Clock
spread end clocks zero = []
spread end [] (suc count) = end ∷ spread end [] count
spread end (clock ∷ clocks) (suc count) = clock ∷ spread end clocks count

spread_more : (end : Clock) (count : ℕ) (clocks : List Clock) → length clocks ≤ count
    → spread end clocks count ≡ clocks ++ replicate (count - length clocks) end
unfolding spread
spread_more end zero [] few = refl
spread_more end zero (clock ∷ clocks) few = absurd (omega (arith, few))
spread_more end (suc count) [] few =
    let same : suc count - 0 ≡ suc (count - 0) = omega arith in
    ap (λ rest. end ∷ rest) (spread_more end count [] (omega arith)) ∙ sym (ap (λ n. replicate n end) same)
spread_more end (suc count) (clock ∷ clocks) few =
    let same : suc count - suc (length clocks) ≡ count - length clocks = omega arith in
    ap (λ rest. clock ∷ rest) (spread_more end count clocks (omega (arith, few))) ∙ sym (ap (λ n. clock ∷ (clocks ++ replicate n end)) same)

spread_next : (end : Clock) (clocks : List Clock) (from count : ℕ)
    → spread end (drop from clocks) (suc count) ≡ head_or end (drop from clocks) ∷ spread end (drop (suc from) clocks) count
unfolding spread
spread_next end [] zero count = refl
spread_next end [] (suc from) count = refl
spread_next end (clock ∷ clocks) zero count = refl
spread_next end (clock ∷ clocks) (suc from) count = spread_next end clocks from count

nth_head : {X : Type 0} (f : ℕ → X) (g : X → List X → X) (places : List ℕ) (from last : ℕ) → ((x : X) → g x [] ≡ x)
    → ((x y : X) (rest : List X) → g x (y ∷ rest) ≡ y)
    → f (slice_index_or places from last) ≡ g (f last) (drop from (map f places))
nth_head f g [] zero last empty full = sym (empty (f last))
nth_head f g [] (suc from) last empty full = sym (empty (f last))
nth_head f g (place ∷ places) zero last empty full = sym (full (f last) (f place) (map f places))
nth_head f g (place ∷ places) (suc from) last empty full = nth_head f g places from last empty full

-- ---- where an event is made

find_is : (p : ℕ → Bool) (n a c : ℕ) → a ≤ c → c < a + n → p c ≡ true → ((less : ℕ) → less < c → p less ≡ false)
    → find p (range_with_len a n) ≡ Some c
find_is p zero a c low high passes none = absurd (omega (arith, low, high))
find_is p (suc n) a c low high passes none = elim (cases_eq a c) [
  | inl same ↦ ap (λ b. cond b (Some a) (find p (range_with_len (a + 1) n))) (subst (λ c. p c ≡ true) (sym same) passes) ∙ ap Some same
  | inr other ↦
      ap (λ b. cond b (Some a) (find p (range_with_len (a + 1) n))) (none a (omega (arith, low, other)))
      ∙ find_is p n (a + 1) c (omega (arith, low, other)) (omega (arith, high)) passes none
]

stands_there : (before rest : List Step) (step : Step) → slice_get (before ++ step ∷ rest) (length before) ≡ Some step
stands_there [] rest step = refl
stands_there (other ∷ before) rest step = stands_there before rest step

reads_there : (before rest : List Step) (step : Step) → slice_index_or (before ++ step ∷ rest) (length before) Tick ≡ step
reads_there [] rest step = refl
reads_there (other ∷ before) rest step = reads_there before rest step

event_there : (before rest : List Step) (event : Step) → is_event event ≡ true
    → event_from (before ++ event ∷ rest) (length before) ≡ Some (length before)
event_there before rest event is =
    let many : length (before ++ event ∷ rest) ≡ length before + suc (length rest) = length-append before (event ∷ rest) in
    find_is (λ later. leb (length before) later && passes_at is_event (before ++ event ∷ rest) later) (length (before ++ event ∷ rest)) 0 (length before)
    (omega arith) (omega (arith, many)) here below
  where
    here : (leb (length before) (length before) && passes_at is_event (before ++ event ∷ rest) (length before)) ≡ true
    here =
        let test : leb (length before) (length before) ≡ true = grind (arith, nat_tests) in
        (λ i. test i && option_map_or is_event (stands_there before rest event i) false) ∙ is

    below : (less : ℕ) → less < length before → (leb (length before) less && passes_at is_event (before ++ event ∷ rest) less) ≡ false
    below less low =
        let test : leb (length before) less ≡ false = grind (arith, nat_tests, low) in
        ap (λ b. b && passes_at is_event (before ++ event ∷ rest) less) test

pub event_place : (before rest settled : List Step) (event : Step) → is_event event ≡ true
    → settled_place (before ++ event ∷ rest) settled (length before)
    ≡ slice_index_or (places_of (is_alike event) settled) (count_by (is_alike event) before) (length settled)
unfolding settled_place
event_place before rest settled event is =
    ap
    (λ o. option_map_or
    (λ later. place_of_event (before ++ event ∷ rest) settled later (slice_index_or (before ++ event ∷ rest) later Tick)) o (length settled))
    (event_there before rest event is)
    ∙ ap (place_of_event (before ++ event ∷ rest) settled (length before)) (reads_there before rest event)
    ∙ ap (λ front. slice_index_or (places_of (is_alike event) settled) (count_by (is_alike event) front) (length settled))
    (take-append_seam before (event ∷ rest))

pub end_place : (document settled : List Step) → settled_place document settled (length document) ≡ length settled
unfolding settled_place
end_place document settled =
    ap (λ o. option_map_or (λ later. place_of_event document settled later (slice_index_or document later Tick)) o (length settled))
    (find_none (λ later. leb (length document) later && passes_at is_event document later) (numbers (length document))
    (All-weaker (λ later. later < length document) (λ later. (leb (length document) later && passes_at is_event document later) ≡ false) past
    (numbers (length document)) (numbers_below (length document))))
  where
    past : (later : ℕ) → later < length document → (leb (length document) later && passes_at is_event document later) ≡ false
    past later low =
        let test : leb (length document) later ≡ false = grind (arith, nat_tests, low) in
        ap (λ b. b && passes_at is_event document later) test

-- ---- counts

pub counted : (test : Step → Bool) (before : List Step) (step : Step) → count_by test (before ++ step ∷ []) ≡ count_by test before + cond (test step) 1 0
counted test before step =
    let one : sum_by (λ x. cond (test x) 1 0) (step ∷ []) ≡ cond (test step) 1 0 + 0 = sum_by-cons (λ x. cond (test x) 1 0) step [] in
    let both = sum_by-append (λ x. cond (test x) 1 0) before (step ∷ []) in
    omega (arith, one, both)

pub counted_first : (test : Step → Bool) (step : Step) (rest : List Step) → count_by test (step ∷ rest) ≡ cond (test step) 1 0 + count_by test rest
counted_first test step rest = sum_by-cons (λ x. cond (test x) 1 0) step rest

-- ---- a task's calls

pub alike_calls : (core task : ℕ) (call : Call) → is_finish call ≡ false → (step : Step) → is_alike (steps.Call core task call) step ≡ begins_call task step
alike_calls core task call begins (steps.Call other_core other_task other) =
    ap (λ f. eqb task other_task && not f && not (is_finish other)) begins ∙ at (eqb task other_task) refl (eqb other_task task) refl
  where
    at : (a : Bool) → eqb task other_task ≡ a → (b : Bool) → eqb other_task task ≡ b
        → (a && not false && not (is_finish other)) ≡ (b && not (is_finish other))
    at true one true two = refl
    at false one false two = refl
    at true one false two = absurd (let same : eqb other_task task ≡ true = grind (arith, nat_tests, one) in cc (two, same))
    at false one true two = absurd (let same : eqb task other_task ≡ true = grind (arith, nat_tests, two) in cc (one, same))
alike_calls core task call begins Tick = refl
alike_calls core task call begins (Switch other) = refl
alike_calls core task call begins (Interrupt other note) = refl
alike_calls core task call begins (QueueInterrupt other queue direction) = refl
alike_calls core task call begins (ResumeInterrupt other it) = refl
alike_calls core task call begins (Pass units) = refl

module _ (session : Session) (settled : List Step) (task : ℕ) where
  abbrev clock_at : ℕ → Clock
  clock_at place = clocks_at session.header settled place task

  abbrev last_clock : Clock
  last_clock = clock_at (length settled)

  abbrev own_clocks : List Clock
  own_clocks = map clock_at (places_of (begins_call task) settled)

  -- the clock of a call of the document
  call_clock : (before rest : List Step) (core : ℕ) (call : Call) → session.steps ≡ before ++ steps.Call core task call ∷ rest → is_finish call ≡ false
      → anchor_clocks session settled (length before) task ≡ head_or last_clock (drop (count_by (begins_call task) before) own_clocks)
  call_clock before rest core call parts begins =
      let event = steps.Call core task call in
      let same : is_alike event ≡ begins_call task = λ i step. alike_calls core task call begins step i in
      ap (λ steps. clock_at (settled_place steps settled (length before))) parts
      ∙ ap clock_at (event_place before rest settled event (ap not begins))
      ∙ ap (λ test. clock_at (slice_index_or (places_of test settled) (count_by test before) (length settled))) same
      ∙ nth_head clock_at head_or (places_of (begins_call task) settled) (count_by (begins_call task) before) (length settled) (λ x. refl) (λ x y rest. refl)

  -- a step whose call is the task's
  own_clock : (before rest : List Step) (step : Step) → session.steps ≡ before ++ step ∷ rest → begins_call task step ≡ true
      → anchor_clocks session settled (length before) task ≡ head_or last_clock (drop (count_by (begins_call task) before) own_clocks)
  own_clock before rest (steps.Call core other call) parts is =
      let same : other ≡ task = grind (arith, nat_tests, is) in
      call_clock before rest core call (parts ∙ ap (λ task. before ++ steps.Call core task call ∷ rest) same) (at (eqb other task) (is_finish call) is)
    where
      at : (a b : Bool) → (a && not b) ≡ true → b ≡ false
      at a false is = refl
      at true true is = absurd (cc is)
      at false true is = absurd (cc is)
  own_clock before rest Tick parts is = absurd (cc is)
  own_clock before rest (Switch core) parts is = absurd (cc is)
  own_clock before rest (Interrupt core note) parts is = absurd (cc is)
  own_clock before rest (QueueInterrupt core queue direction) parts is = absurd (cc is)
  own_clock before rest (ResumeInterrupt core other) parts is = absurd (cc is)
  own_clock before rest (Pass units) parts is = absurd (cc is)

  placed_first : (clocks : ℕ → Clocks) (anchor : ℕ) (step : Step) (items : List Item)
      → clocks_of task (placed_calls clocks (record { step = step; anchor = anchor; inserted = false; changes = [] } ∷ items))
      ≡ cond (begins_call task step) (clocks anchor task ∷ clocks_of task (placed_calls clocks items)) (clocks_of task (placed_calls clocks items))
  placed_first clocks anchor Tick items = refl
  placed_first clocks anchor (Switch core) items = refl
  placed_first clocks anchor (Interrupt core note) items = refl
  placed_first clocks anchor (QueueInterrupt core queue direction) items = refl
  placed_first clocks anchor (ResumeInterrupt core other) items = refl
  placed_first clocks anchor (Pass units) items = refl
  placed_first clocks anchor (steps.Call core other call) items = at (is_finish call) (eqb other task) refl
    where
      at : (f own : Bool) → eqb other task ≡ own
          → clocks_of task
          (cons_option (cond f None (Some (record { task = other; call = call; clock = clocks anchor other; changes = [] }))) (placed_calls clocks items))
          ≡ cond (own && not f) (clocks anchor task ∷ clocks_of task (placed_calls clocks items)) (clocks_of task (placed_calls clocks items))
      at true true is = refl
      at true false is = refl
      at false true is =
          let same : other ≡ task = grind (arith, nat_tests, is) in
          ap (λ b. cond b (clocks anchor other ∷ clocks_of task (placed_calls clocks items)) (clocks_of task (placed_calls clocks items))) is
          ∙ ap (λ task_there. clocks anchor task_there ∷ clocks_of task (placed_calls clocks items)) same
      at false false is = ap (λ b. cond b (clocks anchor other ∷ clocks_of task (placed_calls clocks items)) (clocks_of task (placed_calls clocks items))) is

  placed_places :
      (rest before : List Step) → session.steps ≡ before ++ rest
      → clocks_of task (placed_calls (anchor_clocks session settled) (items_from (length before) rest))
      ≡ spread last_clock (drop (count_by (begins_call task) before) own_clocks) (count_by (begins_call task) rest)
  unfolding spread
  placed_places [] before parts = refl
  placed_places (step ∷ rest) before parts =
      placed_first (anchor_clocks session settled) (length before) step (items_from (suc (length before)) rest)
      ∙ at (begins_call task step) refl
      (subst
      (λ index. clocks_of task (placed_calls (anchor_clocks session settled) (items_from index rest))
      ≡ spread last_clock (drop (count_by (begins_call task) (before ++ step ∷ [])) own_clocks) (count_by (begins_call task) rest)) one_more
      (placed_places rest (before ++ step ∷ []) (parts ∙ sym (append_assoc before (step ∷ []) rest))))
      ∙ ap (spread last_clock (drop (count_by (begins_call task) before) own_clocks)) (sym (counted_first (begins_call task) step rest))
    where
      one_more : length (before ++ step ∷ []) ≡ suc (length before)
      one_more = let many : length (before ++ step ∷ []) ≡ length before + 1 = length-append before (step ∷ []) in omega (arith, many)

      at : (b : Bool) → begins_call task step ≡ b
          → clocks_of task (placed_calls (anchor_clocks session settled) (items_from (suc (length before)) rest))
          ≡ spread last_clock (drop (count_by (begins_call task) (before ++ step ∷ [])) own_clocks) (count_by (begins_call task) rest)
          → cond b (anchor_clocks session settled (length before) task
          ∷ clocks_of task (placed_calls (anchor_clocks session settled) (items_from (suc (length before)) rest)))
          (clocks_of task (placed_calls (anchor_clocks session settled) (items_from (suc (length before)) rest)))
          ≡ spread last_clock (drop (count_by (begins_call task) before) own_clocks) (cond b 1 0 + count_by (begins_call task) rest)
      at true is later =
          let more : count_by (begins_call task) (before ++ step ∷ []) ≡ suc (count_by (begins_call task) before)
          = let sum = counted (begins_call task) before step ∙ ap (λ b. count_by (begins_call task) before + cond b 1 0) is in omega (arith, sum) in
          let sum : 1 + count_by (begins_call task) rest ≡ suc (count_by (begins_call task) rest) = omega arith in
          (λ i. own_clock before rest step parts is i
          ∷ (later ∙ ap (λ from. spread last_clock (drop from own_clocks) (count_by (begins_call task) rest)) more) i)
          ∙ sym (spread_next last_clock own_clocks (count_by (begins_call task) before) (count_by (begins_call task) rest))
          ∙ ap (spread last_clock (drop (count_by (begins_call task) before) own_clocks)) (sym sum)
      at false is later =
          let same : count_by (begins_call task) (before ++ step ∷ []) ≡ count_by (begins_call task) before
          = let sum = counted (begins_call task) before step ∙ ap (λ b. count_by (begins_call task) before + cond b 1 0) is in omega (arith, sum) in
          let sum : 0 + count_by (begins_call task) rest ≡ count_by (begins_call task) rest = omega arith in
          later ∙ ap (λ from. spread last_clock (drop from own_clocks) (count_by (begins_call task) rest)) same
          ∙ ap (spread last_clock (drop (count_by (begins_call task) before) own_clocks)) (sym sum)

-- ---- all calls

calls_counted : (task : ℕ) (run : List Step) → length (calls_of task run) ≡ count_by (begins_call task) run
calls_counted task [] = refl
calls_counted task (step ∷ run) =
    let both : length (call_of task step ++ calls_of task run) ≡ length (call_of task step) + length (calls_of task run)
    = length-append (call_of task step) (calls_of task run) in
    let one = own step in
    let rest = calls_counted task run in
    let sum = counted_first (begins_call task) step run in
    omega (arith, both, one, rest, sum)
  where
    own : (step : Step) → length (call_of task step) ≡ cond (begins_call task step) 1 0
    own (steps.Call core other call) = at (eqb other task && not (is_finish call))
      where
        at : (b : Bool) → length (cond b (call ∷ []) []) ≡ cond b 1 0
        at true = refl
        at false = refl
    own Tick = refl
    own (Switch core) = refl
    own (Interrupt core note) = refl
    own (QueueInterrupt core queue direction) = refl
    own (ResumeInterrupt core other) = refl
    own (Pass units) = refl

ahead_counted : (run : List Step) (task : ℕ) (table : Table) (clocks : Clocks) → length (ahead task table clocks run) ≡ count_by (begins_call task) run
ahead_counted [] task table clocks = refl
ahead_counted (step ∷ run) task table clocks =
    at (begins_call task step) (ahead_counted run task (step_of step table).1 (clocks_after step table clocks))
    ∙ sym (counted_first (begins_call task) step run)
  where
    at : (b : Bool) → length (ahead task (step_of step table).1 (clocks_after step table clocks) run) ≡ count_by (begins_call task) run
        → length
        (cond b (clocks task ∷ ahead task (step_of step table).1 (clocks_after step table clocks) run)
        (ahead task (step_of step table).1 (clocks_after step table clocks) run))
        ≡ cond b 1 0 + count_by (begins_call task) run
    at true same = omega (arith, same)
    at false same = omega (arith, same)

pub waits_from : (clocks : ℕ → Clocks) (session : List Step) (index : ℕ) → map waits_of (placed_calls clocks (items_from index session)) ≡ calls_in (events_of session)
waits_from clocks [] index = refl
waits_from clocks (Tick ∷ session) index = waits_from clocks session (suc index)
waits_from clocks (Switch core ∷ session) index = waits_from clocks session (suc index)
waits_from clocks (Interrupt core note ∷ session) index = waits_from clocks session (suc index)
waits_from clocks (QueueInterrupt core queue direction ∷ session) index = waits_from clocks session (suc index)
waits_from clocks (ResumeInterrupt core task ∷ session) index = waits_from clocks session (suc index)
waits_from clocks (Pass units ∷ session) index = waits_from clocks session (suc index)
waits_from clocks (steps.Call core task call ∷ session) index = at (is_finish call) (waits_from clocks session (suc index))
  where
    at : (f : Bool) → map waits_of (placed_calls clocks (items_from (suc index) session)) ≡ calls_in (events_of session)
        → map waits_of
        (cons_option (cond f None (Some (record { task = task; call = call; clock = clocks index task; changes = [] }))) (placed_calls clocks (items_from (suc index) session)))
        ≡ calls_in (cond (not f) (steps.Call core task call ∷ events_of session) (events_of session))
    at true rest = rest
    at false rest = ap (λ waits. record { task = task; call = call } ∷ waits) rest

module _ (session : Session) (run : List Step) (left : List WaitingCall) (settled : IsSettled session.header session.steps run left) where
  abbrev beginning : Table
  beginning = start session.header

  abbrev no_clocks : Clocks
  no_clocks = λ task. zero_clock

  pub end_clocks : anchor_clocks session run (length session.steps) ≡ clocks_along beginning no_clocks run
  end_clocks = ap (clocks_at session.header run) (end_place session.steps run) ∙ ap (clocks_along beginning no_clocks) (take-length run)

  pub count_of : ℕ → ℕ
  count_of task = count_by (begins_call task) session.steps - length (ahead task beginning no_clocks run)

  pub places_at_start : (task : ℕ) → clocks_of task (placed_calls (anchor_clocks session run) (items_from 0 session.steps))
      ≡ ahead task beginning no_clocks run ++ replicate (count_of task) (clocks_along beginning no_clocks run task)
  unfolding count_of
  places_at_start task =
      placed_places session run task session.steps [] refl
      ∙ ap (λ clocks. spread (last_clock session run task) clocks (count_by (begins_call task) session.steps)) (clocks_ahead run task beginning no_clocks)
      ∙ ap (λ end. spread end (ahead task beginning no_clocks run) (count_by (begins_call task) session.steps)) same
      ∙ spread_more (clocks_along beginning no_clocks run task) (count_by (begins_call task) session.steps) (ahead task beginning no_clocks run) few
    where
      same : last_clock session run task ≡ clocks_along beginning no_clocks run task
      same = ap (λ run. clocks_along beginning no_clocks run task) (take-length run)

      few : length (ahead task beginning no_clocks run) ≤ count_by (begins_call task) session.steps
      few =
          let all = calls_counted task session.steps in
          let made = calls_counted task run in
          let there = ahead_counted run task beginning no_clocks in
          let keeps : length (calls_of task session.steps) ≡ length (calls_of task run ++ waiting_of task left)
          = ap length (settling_keeps_calls session.header session.steps run left task settled) in
          let sum : length (calls_of task run ++ waiting_of task left) ≡ length (calls_of task run) + length (waiting_of task left)
          = length-append (calls_of task run) (waiting_of task left) in
          omega (arith, all, made, there, keeps, sum)
