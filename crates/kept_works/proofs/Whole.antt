-- The calls of an edited session with their works, and its steps from outside, put together.
use Rattle.std.proofs.Common.{◌≡◌, ℕ, zero, suc, ◌+◌, ◌<◌, ◌≤◌, ◌^◌, Bool, true, false, cond, leb, ltb, ◌&&◌, List, [], ◌∷◌, ◌++◌, length, map, get_or, Option, Some, None, Result, Ok, Err, refl, sym, ap, subst, ◌∙◌, arith}
use Rattle.std.specs.Prelude.{All, slice_index, slice_index_or, ⊤}
use Rattle.std.specs.List.{cons_option, filter}
use Rattle.std.specs.Option.{option_map_or, option_to_list}
use Rattle.std.proofs.lemmas.Bool.Decides.{nat_tests}
use Rattle.std.proofs.lemmas.List.{get_or-append-add, length-append, length-map, map-append}
use Rattle.std.proofs.lemmas.List.Elements.{All-cons, All-filter, All-nil, All-from_recursion}
use Rattle.std.proofs.lemmas.List.FromFn.{get_or-map-range_with_len, length-map-range_with_len}
use Rattle.std.proofs.lemmas.Simd.{map-map}
use Rattle.bench_types.specs.declared.kernel_data.Settings.{Settings}
use Rattle.bench_types.specs.declared.step.Step.{Step}
use Rattle.bench_types.specs.declared.step.Step.TheVariants.{Tick, Switch, Interrupt, QueueInterrupt, ResumeInterrupt, Pass}
use Rattle.bench_types.specs.declared.step.Step.TheVariants as steps
use Rattle.bench_types.specs.Session.{IsCheckedSession, Session}
use Rattle.bench_types.specs.declared.fault.Fault.{Fault}
use Rattle.bench_types.specs.declared.fault.Fault.TheVariants.{BadTask}
use Rattle.bench_types.specs.Limits.{max_cores, max_tasks}
use Rattle.bench_types.specs.Step.{call_check, core_check, settings_of, task_check, ◌>>◌, IsCheckedCall, IsCheckedStep}
use Rattle.bench_types.proofs.Passes.{header_facts, passes_whole}
use Rattle.kept_edits.specs.declared.edit.WorkChange.{WorkChange}
use Rattle.list_orders.specs.Search.{numbers}
use Rattle.list_orders.proofs.Stamped.{numbers_below}
use Rattle.settled_runs.specs.declared.waiting_call.WaitingCall.{WaitingCall}
use Rattle.settled_runs.specs.Settled.{is_finish}
use Rattle.settled_runs.specs.SettleLaws.{comes_from_outside}
use Rattle.kept_runs.specs.declared.clocks.Clock.{Clock}
use Rattle.kept_runs.specs.declared.works.Unmade.{Unmade}
use Rattle.kept_runs.specs.Clocks.{Clocks, clocks_at, elapsed, later_clock, zero_clock}
use Rattle.kept_runs.specs.Items.{Item, event_from, place_of_event, settled_place}
use Rattle.kept_runs.specs.Works.{Placed, anchor_clocks, outside_item, outside_steps, placed_call, placed_calls, placed_item, unmade_calls, user_tasks, with_clock, works_from}
use Rattle.kept_runs.proofs.Starts.{end_place}
use Rattle.keeping.specs.Progress.{IsComing}
use Rattle.keeping.specs.Works.{IsUnmade}
use Rattle.kept_works.specs.declared.asked.Asked.{Asked}
use Rattle.kept_works.specs.Asked.{clock_of, IsAsked}
use Rattle.keeping.specs.Works.{clock_at}
use Rattle.kept_works.specs.Items.{AreItems, IsItem}
use Rattle.kept_works.specs.Places.{waiting_call}
use Rattle.kept_works.specs.Works.{asked_ends, asked_item, is_joined, outside_of, outsides, placed_by, AreEnds, HasPlace, HasTask}

-- ---- places

-- a place of a step is one of the run, or its end
place_low : (run : List Step) (own : List ℕ) (k : ℕ) → All (λ place. place < length run) own → slice_index_or own k (length run) ≤ length run
place_low run [] k all = omega arith
place_low run (place ∷ own) zero all = let low : place < length run = all zero 0 (omega arith) in omega (arith, low)
place_low run (place ∷ own) (suc k) all = place_low run own k (λ j d within. all (suc j) d (omega (arith, within)))

all_below : (n : ℕ) → All (λ k. k < n) (numbers n)
all_below n = All-from_recursion (λ k. k < n) (numbers n) (numbers_below n)

pub settled_low : (document settled : List Step) (index : ℕ) → settled_place document settled index ≤ length settled
unfolding settled_place
settled_low document settled index = at (event_from document index)
  where
    at : (o : Option ℕ)
        → option_map_or (λ later. place_of_event document settled later (slice_index_or document later Tick)) o (length settled) ≤ length settled
    at None = omega arith
    at (Some later) =
        place_low settled _ _
        (All-filter _ (λ place. place < length settled) (numbers (length settled)) (all_below (length settled)))

module _ (session run : Session) (places : List ℕ) (headers : run.header ≡ session.header)
    (are : places ≡ map (settled_place session.steps run.steps) (numbers (suc (length session.steps)))) where
  pub place_at : (anchor : ℕ) → anchor ≤ length session.steps → slice_index places anchor ≡ settled_place session.steps run.steps anchor
  place_at anchor few =
      ap (λ places. slice_index places anchor) are
      ∙ get_or-map-range_with_len (settled_place session.steps run.steps) 0 (suc (length session.steps)) anchor anchor 0 (omega (arith, few)) (omega arith)

  pub many_places : length places ≡ suc (length session.steps)
  many_places = ap length are ∙ length-map-range_with_len (settled_place session.steps run.steps) 0 (suc (length session.steps))

  pub low_places : All (λ place. place ≤ length run.steps) places
  low_places =
      subst (λ places. All (λ place. place ≤ length run.steps) places) (sym are)
      (all_mapped (settled_place session.steps run.steps) (numbers (suc (length session.steps))) (settled_low session.steps run.steps))
    where
      all_mapped : (f : ℕ → ℕ) (ks : List ℕ) → ((k : ℕ) → f k ≤ length run.steps) → All (λ place. place ≤ length run.steps) (map f ks)
      all_mapped f [] low = All-nil (λ place. place ≤ length run.steps)
      all_mapped f (k ∷ ks) low = All-cons (λ place. place ≤ length run.steps) (f k) (map f ks) (low k) (all_mapped f ks low)

  -- ---- steps from outside

  module _ (settings : Settings) (edits : ℕ) where
    abbrev AreIts : List Item → Type 0
    AreIts items = All (IsItem settings (length session.steps) edits) items

    outside_more : (item : Item) (rest : List Item) → outside_of run.steps places item ≡ outside_item session run.steps item
        → map (outside_of run.steps places) rest ≡ map (outside_item session run.steps) rest
        → (b : Bool) → map (outside_of run.steps places) (cond b (item ∷ rest) rest) ≡ map (outside_item session run.steps) (cond b (item ∷ rest) rest)
    outside_more item rest head tail true = λ i. head i ∷ tail i
    outside_more item rest head tail false = tail

    outside_same : (items : List Item) → AreIts items → outsides run.steps places items
        ≡ map (outside_item session run.steps) (filter (λ (item : Item). comes_from_outside item.step) items)
    outside_same [] all = refl
    outside_same (item ∷ items) all =
        let own = all zero item (omega arith) in
        outside_more item (filter (λ (item : Item). comes_from_outside item.step) items)
        (ap (λ place. record { step = item.step; joined = is_joined run.steps place item.step }) (place_at item.anchor own.anchor))
        (outside_same items (λ k d within. all (suc k) d (omega (arith, within)))) (comes_from_outside item.step)

    pub outside_is : (items : List Item) → AreIts items → outsides run.steps places items ≡ outside_steps session run.steps items
    unfolding outside_steps
    outside_is items all = outside_same items all

    -- ---- calls

    abbrev asked_step : ℕ → Step → Asked
    asked_step anchor step =
        option_map_or (λ (waits : WaitingCall). record { task = waits.task; place = slice_index places anchor }) (waiting_call step)
        (record { task = 0; place = 0 })

    placed_alike : (anchor : ℕ) → anchor ≤ length session.steps → (changes : List WorkChange) (step : Step)
        → placed_call (λ anchor_ task. clock_of run (asked_step anchor step)) anchor changes step
        ≡ placed_call (anchor_clocks session run.steps) anchor changes step
    placed_alike anchor few changes (steps.Call core task call) = at (is_finish call)
      where
        clocks : clocks_at run.header run.steps (slice_index places anchor) task ≡ anchor_clocks session run.steps anchor task
        clocks = λ i. clocks_at (headers i) run.steps (place_at anchor few i) task

        made : Clock → Option Placed
        made clock = Some (record { task = task; call = call; clock = clock; changes = changes })

        waits : Option WaitingCall
        waits = Some (record { task = task; call = call })

        asked : Option WaitingCall → Asked
        asked o =
            option_map_or (λ (waits : WaitingCall). record { task = waits.task; place = slice_index places anchor }) o (record { task = 0; place = 0 })

        at : (b : Bool) → cond b None (made (clock_of run (asked (cond b None waits)))) ≡ cond b None (made (anchor_clocks session run.steps anchor task))
        at true = refl
        at false = ap made clocks
    placed_alike anchor few changes Tick = refl
    placed_alike anchor few changes (Switch core) = refl
    placed_alike anchor few changes (Interrupt core note) = refl
    placed_alike anchor few changes (QueueInterrupt core queue direction) = refl
    placed_alike anchor few changes (ResumeInterrupt core task) = refl
    placed_alike anchor few changes (Pass units) = refl

    as_option : (o : Option Placed) (placed : List Placed) → option_to_list o ++ placed ≡ cons_option o placed
    as_option None placed = refl
    as_option (Some one) placed = refl

    placed_none : (clocks : List Clock) → placed_by clocks [] ≡ []
    placed_none [] = refl
    placed_none (clock ∷ clocks) = refl

    pub placed_same : (items : List Item) (more : List Clock) → AreIts items
        → placed_by (map (clock_of run) (map (asked_item places) items) ++ more) items ≡ placed_calls (anchor_clocks session run.steps) items
    placed_same [] more all = placed_none more
    placed_same (item ∷ items) more all =
        let own = all zero item (omega arith) in
        (λ i. option_to_list (placed_alike item.anchor own.anchor item.changes item.step i)
        ++ placed_same items more (λ k d within. all (suc k) d (omega (arith, within))) i)
        ∙ as_option (placed_item (anchor_clocks session run.steps) item) (placed_calls (anchor_clocks session run.steps) items)

  -- ---- the ends of tasks

  pub ends_are : (cores users : ℕ) (items : List Item) (clocks : List Clock)
      → clocks ≡ map (clock_of run) (map (asked_item places) items ++ asked_ends cores users (length run.steps))
      → AreEnds cores (length items) clocks (anchor_clocks session run.steps (length session.steps))
  ends_are cores users items clocks is user within =
      sym
      (ap (λ clocks. clock_at clocks (length items + user)) (is ∙ parts)
      ∙ ap (λ n. clock_at (front ++ back) (n + user)) (sym front_many)
      ∙ get_or-append-add front back user zero_clock
      ∙ get_or-map-range_with_len (λ user. clock_of run (record { task = cores + user; place = length run.steps })) 0 users user user zero_clock below
      (omega arith)
      ∙ (λ i. clocks_at (headers i) run.steps (sym (end_place session.steps run.steps) i) (cores + user)))
    where
      front : List Clock
      front = map (clock_of run) (map (asked_item places) items)

      back : List Clock
      back = map (λ user. clock_of run (record { task = cores + user; place = length run.steps })) (numbers users)

      parts : map (clock_of run) (map (asked_item places) items ++ asked_ends cores users (length run.steps)) ≡ front ++ back
      parts =
          map-append (clock_of run) (map (asked_item places) items) (asked_ends cores users (length run.steps))
          ∙ ap (λ back. front ++ back)
          (map-map (clock_of run) (λ user. record { task = cores + user; place = length run.steps }) (numbers users))

      front_many : length front ≡ length items
      front_many = length-map (map (asked_item places) items) (clock_of run) ∙ length-map items (asked_item places)

      below : user < users
      below =
          let all : length clocks ≡ length front + length back = ap length (is ∙ parts) ∙ length-append front back in
          let many : length back ≡ users
          = length-map-range_with_len (λ user. clock_of run (record { task = cores + user; place = length run.steps })) 0 users in
          omega (arith, within, all, many, front_many)

-- ---- what was checked

-- both tests pass
second_ok : {Why : Type 0} (one two : Result ⊤ Why) → (one >> two) ≡ Ok tt → (one ≡ Ok tt) × (two ≡ Ok tt)
second_ok (Ok tt) two is = (refl, is)
second_ok (Err why) two is = absurd (cc is)

abbrev passed : Result ⊤ Fault
passed = Ok tt

user_task : (settings : Settings) (task : ℕ) → task_check settings task ≡ passed → (settings.cores ≤ task) × (task < settings.tasks)
user_task settings task is = at (leb settings.cores task) refl (ltb task settings.tasks) refl is
  where
    at : (a : Bool) → leb settings.cores task ≡ a → (b : Bool) → ltb task settings.tasks ≡ b → cond (a && b) passed (Err BadTask) ≡ passed
        → (settings.cores ≤ task) × (task < settings.tasks)
    at true low true high is =
        let first : settings.cores ≤ task = grind (arith, nat_tests, low) in
        let second : task < settings.tasks = grind (arith, nat_tests, high) in
        (first, second)
    at true low false high is = absurd (cc is)
    at false low b high is = absurd (cc is)

-- a call that was checked
call_fits : (settings : Settings) (step : Step) (waits : WaitingCall) → IsCheckedStep settings step → waiting_call step ≡ Some waits
    → (settings.cores ≤ waits.task) × (waits.task < settings.tasks) × IsCheckedCall settings waits.call × (is_finish waits.call ≡ false)
call_fits settings (steps.Call core task call) waits checked is = at (is_finish call) refl is
  where
    at : (b : Bool) → is_finish call ≡ b → cond b None (Some (record { task = task; call = call })) ≡ Some waits
        → (settings.cores ≤ waits.task) × (waits.task < settings.tasks) × IsCheckedCall settings waits.call × (is_finish waits.call ≡ false)
    at true ends is = absurd (cc is)
    at false begins is =
        let same : record { task = task; call = call } ≡ waits = cc is in
        let both = second_ok (core_check settings core >> task_check settings task) (call_check settings call) checked.passes in
        let tests = second_ok (core_check settings core) (task_check settings task) both.0 in
        let low = user_task settings task tests.1 in
        subst
        (λ (waits : WaitingCall). (settings.cores ≤ waits.task) × (waits.task < settings.tasks) × IsCheckedCall settings waits.call
        × (is_finish waits.call ≡ false))
        same (low.0, low.1, record { passes = both.1; words = checked.words }, begins)
call_fits settings Tick waits checked is = absurd (cc is)
call_fits settings (Switch core) waits checked is = absurd (cc is)
call_fits settings (Interrupt core note) waits checked is = absurd (cc is)
call_fits settings (QueueInterrupt core queue direction) waits checked is = absurd (cc is)
call_fits settings (ResumeInterrupt core task) waits checked is = absurd (cc is)
call_fits settings (Pass units) waits checked is = absurd (cc is)

module _ (settings : Settings) (count edits : ℕ) (items : List Item) (all : All (IsItem settings count edits) items) where
  pub items_have_places : (places : List ℕ) → length places ≡ suc count → All (HasPlace places) items
  items_have_places places many k d within = let own = all k d within in let low = own.anchor in omega (arith, many, low)

  pub items_have_tasks : All (HasTask settings.tasks) items
  items_have_tasks k d within waits is = (call_fits settings (get_or items k d).step waits (all k d within).checked is).1

-- ---- what a run may be made of

module _ (settings : Settings) where
  abbrev IsFitPlaced : Placed → Type 0
  IsFitPlaced placed = (settings.cores ≤ placed.task) × (placed.task < settings.tasks) × IsCheckedCall settings placed.call × (is_finish placed.call ≡ false)

  works_fit : (ends last : Clocks) (tasks : List ℕ) (placed : List Placed) → All IsFitPlaced placed
      → All (λ task. (settings.cores ≤ task) × (task < settings.tasks)) tasks → All (IsUnmade settings) (works_from ends last tasks placed)
  works_fit ends last [] [] calls users = All-nil (IsUnmade settings)
  works_fit ends last (task ∷ tasks) [] calls users =
      let own = users zero task (omega arith) in
      All-cons (IsUnmade settings) _ _ (record { low = own.0; task = own.1; checked = λ call is. absurd (cc is); begins = λ call is. absurd (cc is) })
      (works_fit ends last tasks [] calls (λ k d within. users (suc k) d (omega (arith, within))))
  works_fit ends last tasks (placed ∷ calls_left) calls users =
      let own = calls zero placed (omega arith) in
      All-cons (IsUnmade settings) _ _
      (record {
        low = own.0;
        task = own.1;
        checked = λ call is. let same : placed.call ≡ call = cc is in subst (IsCheckedCall settings) same own.2;
        begins = λ call is. let same : placed.call ≡ call = cc is in subst (λ call. is_finish call ≡ false) same own.3;
      })
      (works_fit ends (with_clock last placed.task (later_clock (last placed.task) placed.clock)) tasks calls_left (λ k d within. calls (suc k) d (omega (arith, within))) users)

  works_few : (ends last : Clocks) (tasks : List ℕ) (placed : List Placed) → length (works_from ends last tasks placed) ≡ length placed + length tasks
  works_few ends last tasks [] =
      let many : length (works_from ends last tasks []) ≡ length tasks
      = length-map tasks (λ task. record { task = task; call = None; work = elapsed (last task) (ends task) }) in
      omega (arith, many)
  works_few ends last tasks (placed ∷ calls) =
      let many = works_few ends (with_clock last placed.task (later_clock (last placed.task) placed.clock)) tasks calls in omega (arith, many)

  placed_fits : (clocks : ℕ → Clocks) (anchor : ℕ) (changes : List WorkChange) (step : Step) (placed : Placed) → IsCheckedStep settings step
      → placed_call clocks anchor changes step ≡ Some placed → IsFitPlaced placed
  placed_fits clocks anchor changes (steps.Call core task call) placed checked is = at (is_finish call) refl is
    where
      at : (b : Bool) → is_finish call ≡ b
          → cond b None (Some (record { task = task; call = call; clock = clocks anchor task; changes = changes })) ≡ Some placed → IsFitPlaced placed
      at true ends is = absurd (cc is)
      at false begins is =
          let same : record { task = task; call = call; clock = clocks anchor task; changes = changes } ≡ placed = cc is in
          let begun : waiting_call (steps.Call core task call) ≡ Some (record { task = task; call = call })
          = ap (λ b. cond b None (Some (record { task = task; call = call }))) begins in
          subst IsFitPlaced same (call_fits settings (steps.Call core task call) (record { task = task; call = call }) checked begun)
  placed_fits clocks anchor changes Tick placed checked is = absurd (cc is)
  placed_fits clocks anchor changes (Switch core) placed checked is = absurd (cc is)
  placed_fits clocks anchor changes (Interrupt core note) placed checked is = absurd (cc is)
  placed_fits clocks anchor changes (QueueInterrupt core queue direction) placed checked is = absurd (cc is)
  placed_fits clocks anchor changes (ResumeInterrupt core task) placed checked is = absurd (cc is)
  placed_fits clocks anchor changes (Pass units) placed checked is = absurd (cc is)

  module _ (count edits : ℕ) (clocks : ℕ → Clocks) where
    one_fits : (item : Item) (rest : List Placed) → IsCheckedStep settings item.step → All IsFitPlaced rest → (o : Option Placed)
        → placed_item clocks item ≡ o → All IsFitPlaced (cons_option o rest)
    one_fits item rest checked all None is = all
    one_fits item rest checked all (Some placed) is =
        All-cons IsFitPlaced placed rest (placed_fits clocks item.anchor item.changes item.step placed checked is) all

    calls_fit : (items : List Item) → All (IsItem settings count edits) items → All IsFitPlaced (placed_calls clocks items)
    calls_fit [] all = All-nil IsFitPlaced
    calls_fit (item ∷ items) all =
        one_fits item (placed_calls clocks items) (all zero item (omega arith)).checked
        (calls_fit items (λ k d within. all (suc k) d (omega (arith, within)))) (placed_item clocks item) refl

  one_more : (o : Option Placed) (rest : List Placed) (n : ℕ) → length rest ≤ n → length (cons_option o rest) ≤ suc n
  one_more None rest n few = omega (arith, few)
  one_more (Some placed) rest n few = omega (arith, few)

  calls_few : (clocks : ℕ → Clocks) (items : List Item) → length (placed_calls clocks items) ≤ length items
  calls_few clocks [] = omega arith
  calls_few clocks (item ∷ items) = one_more (placed_item clocks item) (placed_calls clocks items) (length items) (calls_few clocks items)

  one_comes : (session : Session) (run : List Step) (item : Item) (rest : List Item) → IsCheckedStep settings item.step
      → All (IsComing settings) (map (outside_item session run) rest) → (b : Bool) → comes_from_outside item.step ≡ b
      → All (IsComing settings) (map (outside_item session run) (cond b (item ∷ rest) rest))
  one_comes session run item rest checked all true is =
      All-cons (IsComing settings) (outside_item session run item) (map (outside_item session run) rest) (record { checked = checked; comes = is }) all
  one_comes session run item rest checked all false is = all

  comings_fit : (session : Session) (run : List Step) (count edits : ℕ) (items : List Item) → All (IsItem settings count edits) items
      → All (IsComing settings) (map (outside_item session run) (filter (λ (item : Item). comes_from_outside item.step) items))
  comings_fit session run count edits [] all = All-nil (IsComing settings)
  comings_fit session run count edits (item ∷ items) all =
      one_comes session run item (filter (λ (item : Item). comes_from_outside item.step) items) (all zero item (omega arith)).checked
      (comings_fit session run count edits items (λ k d within. all (suc k) d (omega (arith, within)))) (comes_from_outside item.step) refl

-- ---- of a session

module _ (session : Session) (run : List Step) (edits : ℕ) (items : List Item) (are : AreItems (settings_of session.header) (length session.steps) edits items) where
  abbrev IsUser : ℕ → Type 0
  IsUser task = (session.header.config.cores ≤ task) × (task < session.header.config.cores + length session.header.tasks)

  users_mapped : (ks : List ℕ) → All (λ k. k < length session.header.tasks) ks → All IsUser (map (λ user. session.header.config.cores + user) ks)
  users_mapped [] all = All-nil IsUser
  users_mapped (k ∷ ks) all =
      let low : k < length session.header.tasks = all zero 0 (omega arith) in
      let here : IsUser (session.header.config.cores + k) = (omega arith, omega (arith, low)) in
      All-cons IsUser (session.header.config.cores + k) (map (λ user. session.header.config.cores + user) ks) here
      (users_mapped ks (λ j d within. all (suc j) d (omega (arith, within))))

  users_fit : All IsUser (user_tasks session.header)
  users_fit = users_mapped (numbers (length session.header.tasks)) (all_below (length session.header.tasks))

  pub unmade_fit : All (IsUnmade (settings_of session.header)) (unmade_calls session run items)
  unfolding unmade_calls
  unmade_fit =
      works_fit (settings_of session.header) _ _ (user_tasks session.header) _
      (calls_fit (settings_of session.header) (length session.steps) edits (anchor_clocks session run) items are.each) users_fit

  pub unmade_few : length session.header.tasks ≤ max_tasks → length (unmade_calls session run items) < 2 ^ 32
  unfolding unmade_calls
  unmade_few few =
      let room = are.room in
      let all = works_few (settings_of session.header) (anchor_clocks session run (length session.steps)) (λ task. zero_clock) (user_tasks session.header)
      (placed_calls (anchor_clocks session run) items) in
      let calls = calls_few (settings_of session.header) (anchor_clocks session run) items in
      let users = length-map-range_with_len (λ user. session.header.config.cores + user) 0 (length session.header.tasks) in
      omega (arith, few, room, all, calls, users)

  pub outside_fit : All (IsComing (settings_of session.header)) (outside_steps session run items)
  unfolding outside_steps
  outside_fit = comings_fit (settings_of session.header) session run (length session.steps) edits items are.each

pub few_settings : (session : Session) → IsCheckedSession session
    → (session.header.config.cores ≤ max_cores) × (length session.header.tasks ≤ max_tasks) × (0 < session.header.config.cores)
few_settings session is =
    let facts = header_facts session.header (passes_whole session.header is.checked.header.passes) in
    (facts.few_cores, facts.few_tasks, facts.some_core)

pub asked_many : (places : List ℕ) (items : List Item) (cores users end : ℕ)
    → length (map (asked_item places) items ++ asked_ends cores users end) ≡ length items + users
asked_many places items cores users end =
    let both = length-append (map (asked_item places) items) (asked_ends cores users end) in
    let own = length-map items (asked_item places) in
    let more = length-map-range_with_len {X = Asked} (λ user. record { task = cores + user; place = end }) 0 users in
    omega (arith, both, own, more)

pub clocks_many : (run : Session) (places : List ℕ) (items : List Item) (cores users end : ℕ) (clocks : List Clock)
    → clocks ≡ map (clock_of run) (map (asked_item places) items ++ asked_ends cores users end) → length clocks ≡ length items + users
clocks_many run places items cores users end clocks is =
    let all = ap length is in
    let mapped = length-map (map (asked_item places) items ++ asked_ends cores users end) (clock_of run) in
    let many = asked_many places items cores users end in
    omega (arith, all, mapped, many)

module _ (session run : Session) (places : List ℕ) (headers : run.header ≡ session.header)
    (are : places ≡ map (settled_place session.steps run.steps) (numbers (suc (length session.steps)))) (settings : Settings) (edits : ℕ)
    (items : List Item) (all : All (IsItem settings (length session.steps) edits) items) where
  pub unmade_is : (cores users : ℕ) (clocks : List Clock) (unmade : List Unmade) → cores ≡ session.header.config.cores
      → users ≡ length session.header.tasks
      → clocks ≡ map (clock_of run) (map (asked_item places) items ++ asked_ends cores users (length run.steps))
      → ((ends : Clocks) → AreEnds cores (length items) clocks ends
      → unmade ≡ works_from ends (λ task. zero_clock) (map (λ user. cores + user) (numbers users)) (placed_by clocks items))
      → unmade ≡ unmade_calls session run.steps items
  unfolding unmade_calls
  unmade_is cores users clocks unmade same_cores same_users is made =
      made (anchor_clocks session run.steps (length session.steps)) (ends_are session run places headers are cores users items clocks is)
      ∙ (λ i. works_from (anchor_clocks session run.steps (length session.steps)) (λ task. zero_clock)
      (map (λ user. same_cores i + user) (numbers (same_users i))) (placed i))
    where
      placed : placed_by clocks items ≡ placed_calls (anchor_clocks session run.steps) items
      placed =
          ap (λ clocks. placed_by clocks items)
          (is ∙ map-append (clock_of run) (map (asked_item places) items) (asked_ends cores users (length run.steps)))
          ∙ placed_same session run places headers are settings edits items (map (clock_of run) (asked_ends cores users (length run.steps))) all

-- ---- what is asked

module _ (run : Session) where
  one_asked : (places : List ℕ) (item : Item) → 0 < (settings_of run.header).tasks → All (λ place. place ≤ length run.steps) places
      → HasPlace places item → HasTask (settings_of run.header).tasks item → IsAsked run (asked_item places item)
  one_asked places item some low placed fits = at (waiting_call item.step) refl
    where
      none : Asked
      none = record { task = 0; place = 0 }

      by : WaitingCall → Asked
      by waits = record { task = waits.task; place = slice_index places item.anchor }

      at : (o : Option WaitingCall) → waiting_call item.step ≡ o → IsAsked run (option_map_or by o none)
      at None is = record { task = some; place = omega arith }
      at (Some waits) is = record { task = fits waits is; place = low item.anchor 0 placed }

  pub items_asked : (places : List ℕ) (items : List Item) → 0 < (settings_of run.header).tasks → All (λ place. place ≤ length run.steps) places
      → All (HasPlace places) items → All (HasTask (settings_of run.header).tasks) items → All (IsAsked run) (map (asked_item places) items)
  items_asked places [] some low placed fits = All-nil (IsAsked run)
  items_asked places (item ∷ items) some low placed fits =
      All-cons (IsAsked run) (asked_item places item) (map (asked_item places) items)
      (one_asked places item some low (placed zero item (omega arith)) (fits zero item (omega arith)))
      (items_asked places items some low (λ k d within. placed (suc k) d (omega (arith, within))) (λ k d within. fits (suc k) d (omega (arith, within))))

  pub ends_asked : (cores users : ℕ) → cores + users ≡ (settings_of run.header).tasks → All (IsAsked run) (asked_ends cores users (length run.steps))
  ends_asked cores users all = mapped (numbers users) (all_below users)
    where
      end_of : ℕ → Asked
      end_of user = record { task = cores + user; place = length run.steps }

      mapped : (ks : List ℕ) → All (λ k. k < users) ks → All (IsAsked run) (map end_of ks)
      mapped [] below = All-nil (IsAsked run)
      mapped (k ∷ ks) below =
          let low : k < users = below zero 0 (omega arith) in
          let here : IsAsked run (end_of k) = record { task = omega (arith, low, all); place = omega arith } in
          All-cons (IsAsked run) (end_of k) (map end_of ks) here (mapped ks (λ j d within. below (suc j) d (omega (arith, within))))
