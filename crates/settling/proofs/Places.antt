-- What waits, as a step comes and as a call is made, and which of the calls that wait is found first.
use Rattle.std.proofs.Common.{◌≡◌, ℕ, zero, suc, ◌<◌, ◌≤◌, ◌≢◌, Bool, true, false, cond, eqb, leb, ◌&&◌, ◌||◌, List, [], ◌∷◌, ◌++◌, length, map, Option, Some}
use Rattle.std.proofs.Common.{None, refl, sym, ap, subst, ◌∙◌, inl, inr, arith}
use Rattle.std.specs.Prelude.{All, option_map, slice_set, slice_index}
use Rattle.std.specs.List.{find, list_any, AllByRecursion}
use Rattle.std.specs.Option.{option_or}
use Rattle.std.proofs.lemmas.Bool.{cases_eq, cases_lt, and_parts}
use Rattle.std.proofs.lemmas.Bool.Decides.{nat_tests}
use Rattle.std.proofs.lemmas.List.{append-nil, map-append, get_or-set_same, get_or-set_other, length-set}
use Rattle.std.proofs.lemmas.List.Elements.{All-get_or}
use Rattle.std.proofs.lemmas.List.Folds.{find-append, list_any-append}
use Rattle.std.proofs.Math.Numerals.{add-one}
use Rattle.bench_types.specs.declared.kernel_data.Settings.{Settings}
use Rattle.bench_types.specs.declared.step.Step.{Step}
use Rattle.bench_types.specs.declared.step.Step.TheVariants.{Tick, Switch, Interrupt, QueueInterrupt, ResumeInterrupt, Pass}
use Rattle.bench_types.specs.declared.step.Step.TheVariants as steps
use Rattle.bench_types.specs.Step.{IsCheckedStep}
use Rattle.list_orders.specs.Search.{numbers}
use Rattle.list_orders.proofs.Filters.{All-weaker, find_none}
use Rattle.list_orders.proofs.Stamped.{numbers_below, numbers_more}
use Rattle.bench_model.specs.Table.{Table}
use Rattle.settled_runs.specs.declared.waiting_call.WaitingCall.{WaitingCall}
use Rattle.settled_runs.specs.Settled.{is_event, is_timely, on_its_core, waiting_with, without_first}
use Rattle.settled_runs.specs.SettleLaws.{MayWait}
use Rattle.settled_runs.proofs.Rests.{event_waits}
use Rattle.settling.specs.Places.{step_at, call_in, begins, is_call_of, IsNext, is_waiting_call, waiting_at, made_from, can_come, AreQueues}

-- ---- searches over numbers

pub none_of_numbers : (q : ℕ → Bool) (n : ℕ) → ((k : ℕ) → k < n → q k ≡ false) → find q (numbers n) ≡ None
none_of_numbers q n fails = find_none q (numbers n) (All-weaker (λ k. k < n) (λ k. q k ≡ false) fails (numbers n) (numbers_below n))

numbers_suc : (n : ℕ) → numbers (suc n) ≡ numbers n ++ n ∷ []
numbers_suc n = ap numbers (sym (add-one n)) ∙ numbers_more n

find_suc : (q : ℕ → Bool) (n : ℕ) → find q (numbers (suc n)) ≡ option_or (find q (numbers n)) (cond (q n) (Some n) None)
find_suc q n = ap (find q) (numbers_suc n) ∙ find-append q (numbers n) (n ∷ [])

pub one_of_numbers : (q : ℕ → Bool) (c n : ℕ) → c < n → q c ≡ true → ((k : ℕ) → k < c → q k ≡ false) → find q (numbers n) ≡ Some c
one_of_numbers q c zero below passes fails = absurd (omega (arith, below))
one_of_numbers q c (suc n) below passes fails = find_suc q n ∙ elim (cases_eq c n) [
  | inl here ↦
      ap (λ o. option_or o (cond (q n) (Some n) None)) (none_of_numbers q n (λ k low. fails k (omega (arith, low, here))))
      ∙ ap (λ b. cond b (Some n) None) (ap q (sym here) ∙ passes) ∙ ap Some (sym here)
  | inr away ↦ ap (λ o. option_or o (cond (q n) (Some n) None)) (one_of_numbers q c n (omega (arith, below, away)) passes fails)
]

-- ---- what waits

pub waiting_suc : (heads : List ℕ) (session : List Step) (place : ℕ)
    → waiting_at heads session (suc place) ≡ waiting_at heads session place ++ cond (is_waiting_call heads session place) (call_in (step_at session place) ∷ []) []
unfolding waiting_at
waiting_suc heads session place = refl

-- a step that is an event waits just where it is a call that begins
with_step : (step : Step) (waiting : List WaitingCall) (here : Bool) → is_event step ≡ true → (begins step ≡ true → here ≡ true)
    → waiting ++ cond (begins step && here) (call_in step ∷ []) [] ≡ waiting_with waiting step
with_step Tick waiting here is come = append-nil waiting
with_step (Switch core) waiting here is come = absurd (cc (is))
with_step (Interrupt core note) waiting here is come = append-nil waiting
with_step (QueueInterrupt core queue direction) waiting here is come = append-nil waiting
with_step (ResumeInterrupt core task) waiting here is come = append-nil waiting
with_step (Pass units) waiting here is come = append-nil waiting
with_step (steps.Call core task call) waiting here is come = ap (λ b. waiting ++ cond b (record { task = task; call = call } ∷ []) []) (λ k. is k && come is k)

no_step : (step : Step) (waiting : List WaitingCall) (here : Bool) → is_event step ≡ false
    → waiting ++ cond (begins step && here) (call_in step ∷ []) [] ≡ waiting
no_step Tick waiting here none = absurd (cc (none))
no_step (Switch core) waiting here none = append-nil waiting
no_step (Interrupt core note) waiting here none = absurd (cc (none))
no_step (QueueInterrupt core queue direction) waiting here none = absurd (cc (none))
no_step (ResumeInterrupt core task) waiting here none = absurd (cc (none))
no_step (Pass units) waiting here none = absurd (cc (none))
no_step (steps.Call core task call) waiting here none = ap (λ b. waiting ++ cond (b && here) (record { task = task; call = call } ∷ []) []) none
    ∙ append-nil waiting

none_both : (b : Bool) → (b && false) ≡ false
none_both true = refl
none_both false = refl

-- a list without its first call of the task, where another follows
without_append : (task : ℕ) (one other : List WaitingCall)
    → without_first task (one ++ other) ≡ cond (list_any (λ (waits : WaitingCall). eqb waits.task task) one) (without_first task one ++ other)
    (one ++ without_first task other)
without_append task [] other = refl
without_append task (waits ∷ one) other = at (eqb waits.task task) (list_any (λ (waits : WaitingCall). eqb waits.task task) one) (without_append task one other)
  where
    at :
        (own any : Bool) → without_first task (one ++ other) ≡ cond any (without_first task one ++ other) (one ++ without_first task other)
        → cond own (one ++ other) (waits ∷ without_first task (one ++ other)) ≡ cond (own || any) (cond own one (waits ∷ without_first task one) ++ other)
        (waits ∷ (one ++ without_first task other))
    at true any same = refl
    at false true same = ap (λ (rest : List WaitingCall). waits ∷ rest) same
    at false false same = ap (λ (rest : List WaitingCall). waits ∷ rest) same

own_call : (step : Step) → begins step ≡ true → is_call_of (call_in step).task step ≡ true
own_call step begin = λ k. begin k && own k
  where
    own : eqb (call_in step).task (call_in step).task ≡ true
    own = grind (arith, nat_tests)

-- where nothing waits of a task, the list has no call of it to lose
without_none : (task : ℕ) (waiting : List WaitingCall) → list_any (λ (waits : WaitingCall). eqb waits.task task) waiting ≡ false
    → without_first task waiting ≡ waiting
without_none task [] none = refl
without_none task (waits ∷ waiting) none = at (eqb waits.task task) none (without_none task waiting)
  where
    at :
        (own : Bool) → (own || list_any (λ (waits : WaitingCall). eqb waits.task task) waiting) ≡ false
        → (list_any (λ (waits : WaitingCall). eqb waits.task task) waiting ≡ false → without_first task waiting ≡ waiting)
        → cond own waiting (waits ∷ without_first task waiting) ≡ waits ∷ waiting
    at true none rest = absurd (cc (none))
    at false none rest = ap (λ (rest : List WaitingCall). waits ∷ rest) (rest none)

module _ (session : List Step) (heads : List ℕ) (task : ℕ) where
  -- before the place of a task's next call nothing of it waits
  front_none : (k : ℕ) → k ≤ slice_index heads task → list_any (λ (waits : WaitingCall). eqb waits.task task) (waiting_at heads session k) ≡ false
  unfolding waiting_at
  front_none zero low = refl
  front_none (suc j) low =
      list_any-append (λ (waits : WaitingCall). eqb waits.task task) (waiting_at heads session j) _
      ∙ ap (λ b. b || list_any (λ (waits : WaitingCall). eqb waits.task task) (cond (is_waiting_call heads session j) (call_in (step_at session j) ∷ []) []))
      (front_none j (omega (arith, low)))
      ∙ at (is_waiting_call heads session j) refl (eqb (call_in (step_at session j)).task task) refl
    where
      at : (b : Bool) → is_waiting_call heads session j ≡ b → (d : Bool) → eqb (call_in (step_at session j)).task task ≡ d
          → list_any (λ (waits : WaitingCall). eqb waits.task task) (cond (is_waiting_call heads session j) (call_in (step_at session j) ∷ []) []) ≡ false
      at false none d same = ap (λ b. list_any (λ (waits : WaitingCall). eqb waits.task task) (cond b (call_in (step_at session j) ∷ []) [])) none
      at true is false other = ap (λ b. list_any (λ (waits : WaitingCall). eqb waits.task task) (cond b (call_in (step_at session j) ∷ []) [])) is
          ∙ ap (λ b. b || false) other
      at true is true same =
          let both = and_parts (begins (step_at session j)) (leb (slice_index heads (call_in (step_at session j)).task) j) is in
          let caller : (call_in (step_at session j)).task ≡ task = grind (arith, nat_tests, same) in
          let least : leb (slice_index heads task) j ≡ true = ap (λ task. leb (slice_index heads task) j) (sym caller) ∙ both.1 in
          let early : leb (slice_index heads task) j ≡ false = grind (arith, nat_tests, low) in
          absurd (cc (least, early))

  -- so where one is lost, the next call of the task has come
  pub has_come : (come : ℕ) → suc (length (without_first task (waiting_at heads session come))) ≡ length (waiting_at heads session come)
      → slice_index heads task < come
  has_come come fewer = elim (cases_lt (slice_index heads task) come) [
    | inl low ↦ low
    | inr high ↦ absurd (omega (arith, fewer, ap length (without_none task (waiting_at heads session come) (front_none come high))))
  ]

module _ (session : List Step) (come tasks : ℕ) (heads next : List ℕ) (queues : AreQueues session come tasks heads next) where
  -- a step comes
  module _ (more : come < length session) where
    pub come_queues : AreQueues session (suc come) tasks heads next
    come_queues = record {
      reached = omega (arith, more);
      head_each = queues.head_each;
      next_each = queues.next_each;
      few = queues.few;
      calls = queues.calls;
      later = λ task place low past below is. queues.later task place low (omega (arith, past)) below is;
      after = queues.after;
    }

    pub come_event : is_event (step_at session come) ≡ true → (begins (step_at session come) ≡ true → (call_in (step_at session come)).task < tasks)
        → waiting_at heads session (suc come) ≡ waiting_with (waiting_at heads session come) (step_at session come)
    come_event is user =
        let step = step_at session come in
        waiting_suc heads session come
        ∙ with_step step (waiting_at heads session come) (leb (slice_index heads (call_in step).task) come) is
        (λ begin. let low = queues.later (call_in step).task come (user begin) (omega arith) more (own_call step begin) in grind (arith, nat_tests, low))

    pub come_other : is_event (step_at session come) ≡ false → waiting_at heads session (suc come) ≡ waiting_at heads session come
    come_other none = let step = step_at session come in waiting_suc heads session come
        ∙ no_step step (waiting_at heads session come) (leb (slice_index heads (call_in step).task) come) none

  -- the next call of a task is made
  module _ (task : ℕ) (user : task < tasks) (here : slice_index heads task < come) where
    abbrev later_heads : List ℕ
    later_heads = slice_set heads task (slice_index next (slice_index heads task))

    its_call : is_call_of task (step_at session (slice_index heads task)) ≡ true
    its_call = queues.calls task user (omega (arith, here, queues.reached))

    its_next : IsNext session task (suc (slice_index heads task)) (slice_index next (slice_index heads task))
    its_next = queues.after task (slice_index heads task) (omega (arith, here, queues.reached)) its_call

    head_here : slice_index later_heads task ≡ slice_index next (slice_index heads task)
    head_here = get_or-set_same heads task _ 0 (omega (arith, user, queues.head_each))

    head_other : (other : ℕ) → other ≢ task → slice_index later_heads other ≡ slice_index heads other
    head_other other away = get_or-set_other heads task other _ 0 away

    -- the task's calls past the one that was made are not before its next one
    past_next : (other : ℕ) → slice_index heads task < other → is_call_of task (step_at session other) ≡ true
        → slice_index next (slice_index heads task) ≤ other
    past_next other past is = elim (cases_lt other (slice_index next (slice_index heads task))) [
      | inl low ↦ absurd (cc (is, its_next.between other (omega (arith, past)) low))
      | inr high ↦ high
    ]

    pub made_queues : AreQueues session come tasks later_heads next
    made_queues = record {
      reached = queues.reached;
      head_each = length-set heads task _ ∙ queues.head_each;
      next_each = queues.next_each;
      few = λ other low. elim (cases_eq other task) [
        | inl same ↦ omega (arith, ap (slice_index later_heads) same, head_here, its_next.high)
        | inr away ↦ omega (arith, head_other other away, queues.few other low)
      ];
      calls = λ other low. elim (cases_eq other task) as
          (λ _. slice_index later_heads other < length session → is_call_of other (step_at session (slice_index later_heads other)) ≡ true) [
            | inl same ↦ λ below.
                let at : slice_index later_heads other ≡ slice_index next (slice_index heads task) = ap (slice_index later_heads) same ∙ head_here in
                (λ k. is_call_of (same k) (step_at session (at k))) ∙ its_next.call (omega (arith, at, below))
            | inr away ↦ λ below.
                let at = head_other other away in
                ap (λ place. is_call_of other (step_at session place)) at ∙ queues.calls other low (omega (arith, at, below))
          ];
      later = λ other where' low past below is. elim (cases_eq other task) [
        | inl same ↦
            omega (
              arith,
              ap (slice_index later_heads) same,
              head_here,
              past_next where' (omega (arith, here, past))
                  (ap (λ task. is_call_of task (step_at session where')) (sym same) ∙ is),
            )
        | inr away ↦ omega (arith, head_other other away, queues.later other where' low past below is)
      ];
      after = queues.after;
    }

    -- where another call waits it does so before and after
    same_test : (other : ℕ) → other ≢ slice_index heads task → (b : Bool) → begins (step_at session other) ≡ b → is_call_of task (step_at session other) ≡ true
        → leb (slice_index later_heads task) other ≡ leb (slice_index heads task) other
    same_test other away b is own = elim (cases_lt other (slice_index heads task)) [
      | inl low ↦
          let first : leb (slice_index later_heads task) other ≡ false = grind (arith, nat_tests, head_here, its_next.low, low) in
          let second : leb (slice_index heads task) other ≡ false = grind (arith, nat_tests, low) in
          first ∙ sym second
      | inr high ↦
          let past : slice_index heads task < other = omega (arith, high, away) in
          let least = past_next other past own in
          let first : leb (slice_index later_heads task) other ≡ true = grind (arith, nat_tests, head_here, least) in
          let second : leb (slice_index heads task) other ≡ true = grind (arith, nat_tests, past) in
          first ∙ sym second
    ]

    same_waiting : (other : ℕ) → other ≢ slice_index heads task → is_waiting_call later_heads session other ≡ is_waiting_call heads session other
    same_waiting other away = at (begins (step_at session other)) refl
      where
        at : (b : Bool) → begins (step_at session other) ≡ b
            → (begins (step_at session other) && leb (slice_index later_heads (call_in (step_at session other)).task) other) ≡
            (begins (step_at session other) && leb (slice_index heads (call_in (step_at session other)).task) other)
        at false none = ap (λ b. b && leb (slice_index later_heads (call_in (step_at session other)).task) other) none
            ∙ ap (λ b. b && leb (slice_index heads (call_in (step_at session other)).task) other) (sym none)
        at true begin = ap (λ b. begins (step_at session other) && b) (elim (cases_eq (call_in (step_at session other)).task task) [
          | inl same ↦
              let own : is_call_of task (step_at session other) ≡ true = ap (λ task. is_call_of task (step_at session other)) (sym same)
              ∙ own_call (step_at session other) begin in
              ap (λ task. leb (slice_index later_heads task) other) same ∙ same_test other away true begin own
              ∙ ap (λ task. leb (slice_index heads task) other) (sym same)
          | inr apart ↦ ap (λ place. leb place other) (head_other _ apart)
        ])

    here_before : is_waiting_call heads session (slice_index heads task) ≡ true
    here_before =
        let both =
        and_parts (begins (step_at session (slice_index heads task))) (eqb (call_in (step_at session (slice_index heads task))).task task) its_call in
        let same : (call_in (step_at session (slice_index heads task))).task ≡ task = grind (arith, nat_tests, both.1) in
        let low : leb (slice_index heads task) (slice_index heads task) ≡ true = grind (arith, nat_tests) in
        (λ k. both.0 k && (ap (λ other. leb (slice_index heads other) (slice_index heads task)) same ∙ low) k)

    here_after : is_waiting_call later_heads session (slice_index heads task) ≡ false
    here_after =
        let step = step_at session (slice_index heads task) in
        let both = and_parts (begins step) (eqb (call_in step).task task) its_call in
        let same : (call_in step).task ≡ task = grind (arith, nat_tests, both.1) in
        let high : leb (slice_index later_heads task) (slice_index heads task) ≡ false = grind (arith, nat_tests, head_here, its_next.low) in
        ap (λ other. begins step && leb (slice_index later_heads other) (slice_index heads task)) same ∙ ap (λ b. begins step && b) high
        ∙ none_both (begins step)

    abbrev own : WaitingCall → Bool
    own waits = eqb waits.task task

    -- before its place all that waits does so after
    front_same : (k : ℕ) → k ≤ slice_index heads task → waiting_at later_heads session k ≡ waiting_at heads session k
    unfolding waiting_at
    front_same zero low = refl
    front_same (suc j) low =
        let away : j ≢ slice_index heads task = λ same. absurd (omega (arith, low, same)) in
        (λ i. front_same j (omega (arith, low)) i ++ cond (same_waiting j away i) (call_in (step_at session j) ∷ []) [])

    IsMade : ℕ → Type 0
    IsMade k = (waiting_at later_heads session k ≡ without_first task (waiting_at heads session k)) × (list_any own (waiting_at heads session k) ≡ true)

    made_at : (k : ℕ) → slice_index heads task < k → IsMade k
    unfolding IsMade
    made_at zero past = absurd (omega (arith, past))
    made_at (suc j) past =
        elim (cases_eq j (slice_index heads task)) as
        (λ _. (waiting_at later_heads session (suc j) ≡ without_first task (waiting_at heads session (suc j)))
        × (list_any own (waiting_at heads session (suc j)) ≡ true)) [
          | inl same ↦
              subst (λ j. (waiting_at later_heads session (suc j) ≡ without_first task (waiting_at heads session (suc j)))
              × (list_any own (waiting_at heads session (suc j)) ≡ true)) (sym same) at_head
          | inr away ↦ at_more j away (made_at j (omega (arith, past, away)))
        ]
      where
        at_head : (waiting_at later_heads session (suc (slice_index heads task)) ≡ without_first task (waiting_at heads session (suc (slice_index heads task))))
            × (list_any own (waiting_at heads session (suc (slice_index heads task))) ≡ true)
        at_head =
            let h = slice_index heads task in
            let all = waiting_at heads session h in
            let call = call_in (step_at session h) in
            let is = (and_parts (begins (step_at session h)) (eqb call.task task) its_call).1 in
            let before : waiting_at heads session (suc h) ≡ all ++ call ∷ [] = waiting_suc heads session h
            ∙ ap (λ b. all ++ cond b (call ∷ []) []) here_before in
            let after : waiting_at later_heads session (suc h) ≡ all
            = waiting_suc later_heads session h ∙ (λ i. front_same h (omega arith) i ++ cond (here_after i) (call ∷ []) []) ∙ append-nil all in
            let none = front_none session heads task h (omega arith) in
            let gone : without_first task (all ++ call ∷ []) ≡ all
            = without_append task all (call ∷ []) ∙ ap (λ b. cond b (without_first task all ++ call ∷ []) (all ++ without_first task (call ∷ []))) none
            ∙ ap (λ b. all ++ cond b [] (call ∷ [])) is ∙ append-nil all in (
              after ∙ sym gone ∙ ap (without_first task) (sym before),
              ap (list_any own) before ∙ list_any-append own all (call ∷ []) ∙ (λ i. none i || (is i || false)),
            )

        at_more : (j : ℕ) → j ≢ slice_index heads task → (waiting_at later_heads session j ≡ without_first task (waiting_at heads session j))
            × (list_any own (waiting_at heads session j) ≡ true)
            → (waiting_at later_heads session (suc j) ≡ without_first task (waiting_at heads session (suc j)))
            × (list_any own (waiting_at heads session (suc j)) ≡ true)
        at_more j away made =
            let one = cond (is_waiting_call heads session j) (call_in (step_at session j) ∷ []) [] in
            let all = waiting_at heads session j in
            let after : waiting_at later_heads session (suc j) ≡ without_first task all ++ one
            = waiting_suc later_heads session j ∙ (λ i. made.0 i ++ cond (same_waiting j away i) (call_in (step_at session j) ∷ []) []) in
            let gone : without_first task (all ++ one) ≡ without_first task all ++ one
            = without_append task all one ∙ ap (λ b. cond b (without_first task all ++ one) (all ++ without_first task one)) made.1 in (
              after ∙ sym gone ∙ ap (without_first task) (sym (waiting_suc heads session j)),
              ap (list_any own) (waiting_suc heads session j) ∙ list_any-append own all one ∙ ap (λ b. b || list_any own one) made.1,
            )

    pub made_waiting : waiting_at later_heads session come ≡ without_first task (waiting_at heads session come)
    unfolding IsMade
    made_waiting = (made_at come here).0

-- ---- the first call that may be made

option_map_or_else : {A B : Type 0} (f : A → B) (one other : Option A) → option_map f (option_or one other) ≡ option_or (option_map f one) (option_map f other)
option_map_or_else f None other = refl
option_map_or_else f (Some x) other = refl

module _ (table : Table) (heads : List ℕ) (session : List Step) where
  found_one : (waits : Bool) (place : ℕ)
      → find (is_timely table) (map (on_its_core table) (cond waits (call_in (step_at session place) ∷ []) [])) ≡ option_map (made_from table session)
      (cond (waits && is_timely table (on_its_core table (call_in (step_at session place)))) (Some place) None)
  found_one false place = refl
  found_one true place = at (is_timely table (on_its_core table (call_in (step_at session place))))
    where
      at : (b : Bool)
          → cond b (Some (on_its_core table (call_in (step_at session place)))) None ≡ option_map (made_from table session) (cond b (Some place) None)
      at true = refl
      at false = refl

  pub found_place : (come : ℕ)
      → find (is_timely table) (map (on_its_core table) (waiting_at heads session come)) ≡ option_map (made_from table session)
      (find (can_come table heads session) (numbers come))
  unfolding waiting_at
  found_place zero = refl
  found_place (suc place) =
      let one = cond (is_waiting_call heads session place) (call_in (step_at session place) ∷ []) [] in
      ap (find (is_timely table)) (map-append (on_its_core table) (waiting_at heads session place) one)
      ∙ find-append (is_timely table) (map (on_its_core table) (waiting_at heads session place)) (map (on_its_core table) one)
      ∙ (λ i. option_or (found_place place i) (found_one (is_waiting_call heads session place) place i))
      ∙ sym (option_map_or_else (made_from table session) (find (can_come table heads session) (numbers place))
      (cond (can_come table heads session place) (Some place) None))
      ∙ ap (option_map (made_from table session)) (sym (find_suc (can_come table heads session) place))

-- ---- calls that wait are checked

call_may : (settings : Settings) (step : Step) → begins step ≡ true → IsCheckedStep settings step → MayWait settings (call_in step)
call_may settings Tick is checked = absurd (cc (is))
call_may settings (Switch core) is checked = absurd (cc (is))
call_may settings (Interrupt core note) is checked = absurd (cc (is))
call_may settings (QueueInterrupt core queue direction) is checked = absurd (cc (is))
call_may settings (ResumeInterrupt core task) is checked = absurd (cc (is))
call_may settings (Pass units) is checked = absurd (cc (is))
call_may settings (steps.Call core task call) is checked = event_waits settings (steps.Call core task call) is checked core task call refl

append_each : (P : WaitingCall → Type 0) (one other : List WaitingCall) → AllByRecursion P one → AllByRecursion P other → AllByRecursion P (one ++ other)
append_each P [] other first second = second
append_each P (x ∷ one) other first second = (first.0, append_each P one other first.1 second)

pub waiting_may : (settings : Settings) (heads : List ℕ) (session : List Step) → All (IsCheckedStep settings) session → (come : ℕ) → come ≤ length session
    → AllByRecursion (MayWait settings) (waiting_at heads session come)
unfolding waiting_at
waiting_may settings heads session all zero low = tt
waiting_may settings heads session all (suc place) low =
    append_each (MayWait settings) (waiting_at heads session place) _ (waiting_may settings heads session all place (omega (arith, low)))
    (at (is_waiting_call heads session place) refl)
  where
    at : (b : Bool) → is_waiting_call heads session place ≡ b → AllByRecursion (MayWait settings) (cond b (call_in (step_at session place) ∷ []) [])
    at false none = tt
    at true is =
        let both = and_parts (begins (step_at session place)) (leb (slice_index heads (call_in (step_at session place)).task) place) is in
        (call_may settings (step_at session place) both.0 (All-get_or (IsCheckedStep settings) session place Tick (omega (arith, low)) all), tt)
