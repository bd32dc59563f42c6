-- The answers of a run, from its last step on back.
use Rattle.std.proofs.Common.{◌≡◌, ◌≢◌, ℕ, zero, suc, ◌+◌, ◌<◌, ◌≤◌, Bool, true, false, cond, not, eqb, leb, ◌&&◌, List, [], ◌∷◌, ◌++◌, length, map, take, Option, Some, None, refl, sym, ap, subst, ◌∙◌, inl, inr, arith}
use Rattle.std.specs.Prelude.{option_and_then, option_map, slice_get, slice_index_or, slice_set}
use Rattle.std.specs.List.{find, range_with_len}
use Rattle.std.specs.Option.{option_map_or, option_or}
use Rattle.std.proofs.lemmas.Bool.{cases_eq}
use Rattle.std.proofs.lemmas.Bool.Decides.{nat_tests}
use Rattle.std.proofs.lemmas.List.{ext_get_or, get_or-set_same, get_or-set_other, length-set, map-append, take_more}
use Rattle.std.proofs.lemmas.List.FromFn.{get_or-map-range_with_len, length-map-range_with_len}
use Rattle.std.proofs.lemmas.Option.{slice_get-get_or}
use Rattle.list_orders.specs.Search.{numbers}
use Rattle.list_orders.proofs.Filters.{fold-append}
use Rattle.list_orders.proofs.Stamped.{numbers_more}
use Rattle.bench_types.specs.declared.header.Header.{Header}
use Rattle.bench_types.specs.declared.kernel_data.Settings.{Settings}
use Rattle.bench_types.specs.declared.reply.Reply.{Reply}
use Rattle.bench_types.specs.declared.step.Call.{Call}
use Rattle.bench_types.specs.declared.step.Step.{Step}
use Rattle.bench_types.specs.declared.step.Step.TheVariants.{Tick, Switch, Interrupt, QueueInterrupt, ResumeInterrupt, Pass}
use Rattle.bench_types.specs.declared.step.Step.TheVariants as steps
use Rattle.bench_types.specs.Step.{call_check, core_check, task_check, ◌>>◌, IsCheckedStep}
use Rattle.bench_types.proofs.Passes.{both_pass, checked_task}
use Rattle.bench_model.specs.Session.{reply_at, state_after, state_at, step_of}
use Rattle.bench_model.specs.Start.{start}
use Rattle.bench_model.specs.Table.{Table}
use Rattle.workload_runs.specs.Courses.{is_affirmative, is_blocked}
use Rattle.kept_runs.specs.Known.{answer_of, answer_place, answers_at, is_step_of}
use Rattle.run_answers.specs.declared.answer.Answer.{Answer}
use Rattle.run_answers.specs.Answers.{answer_at, answer_to, own_answer, own_answers, own_at, task_of}

-- ---- searches from a number on

find_same : (f g : ℕ → Bool) (n a : ℕ) → ((k : ℕ) → a ≤ k → f k ≡ g k) → find f (range_with_len a n) ≡ find g (range_with_len a n)
find_same f g zero a same = refl
find_same f g (suc n) a same =
    let here = same a (omega arith) in
    let rest = find_same f g n (a + 1) (λ k low. same k (omega (arith, low))) in
    λ i. cond (here i) (Some a) (rest i)

find_none : (f : ℕ → Bool) (p n a : ℕ) → a + n ≤ p → find (λ k. leb p k && f k) (range_with_len a n) ≡ None
find_none f p zero a past = refl
find_none f p (suc n) a past =
    let early : leb p a ≡ false = grind (arith, nat_tests, past) in
    ap (λ b. cond (b && f a) (Some a) (find (λ k. leb p k && f k) (range_with_len (a + 1) n))) early ∙ find_none f p n (a + 1) (omega (arith, past))

find_here : (f : ℕ → Bool) (n a : ℕ)
    → find (λ k. leb a k && f k) (range_with_len a (suc n)) ≡ cond (f a) (Some a) (find (λ k. leb (a + 1) k && f k) (range_with_len a (suc n)))
find_here f n a =
    let from : leb a a ≡ true = grind (arith, nat_tests) in
    let past : leb (a + 1) a ≡ false = grind (arith, nat_tests) in
    ap (λ b. cond (b && f a) (Some a) (find (λ k. leb a k && f k) (range_with_len (a + 1) n))) from
    ∙ ap (cond (f a) (Some a))
    (find_same (λ k. leb a k && f k) (λ k. leb (a + 1) k && f k) n (a + 1) (λ k low.
    let one : leb a k ≡ true = grind (arith, nat_tests, low) in
    let other : leb (a + 1) k ≡ true = grind (arith, nat_tests, low) in
    λ i. (one ∙ sym other) i && f k)
    ∙ sym (ap (λ b. cond (b && f a) (Some a) (find (λ k. leb (a + 1) k && f k) (range_with_len (a + 1) n))) past))

find_from : (f : ℕ → Bool) (p n a : ℕ) → a ≤ p → p < a + n
    → find (λ k. leb p k && f k) (range_with_len a n) ≡ cond (f p) (Some p) (find (λ k. leb (p + 1) k && f k) (range_with_len a n))
find_from f p zero a low high = absurd (omega (arith, low, high))
find_from f p (suc n) a low high = elim (cases_eq a p) [
  | inl same ↦
      subst
      (λ p. find (λ k. leb p k && f k) (range_with_len a (suc n)) ≡ cond (f p) (Some p) (find (λ k. leb (p + 1) k && f k) (range_with_len a (suc n))))
      same (find_here f n a)
  | inr away ↦
      let early : leb p a ≡ false = grind (arith, nat_tests, low, away) in
      let before : leb (p + 1) a ≡ false = grind (arith, nat_tests, low, away) in
      ap (λ b. cond (b && f a) (Some a) (find (λ k. leb p k && f k) (range_with_len (a + 1) n))) early
      ∙ find_from f p n (a + 1) (omega (arith, low, away)) (omega (arith, high))
      ∙ ap (cond (f p) (Some p)) (sym (ap (λ b. cond (b && f a) (Some a) (find (λ k. leb (p + 1) k && f k) (range_with_len (a + 1) n))) before))
]

-- ---- answers from a place on

module _ (header : Header) (run : List Step) where
  abbrev told_at : ℕ → Bool → Answer
  told_at later affirmative = record { place = later; affirmative = affirmative }

  -- what the reply at the place tells
  abbrev told : ℕ → Option Answer
  told later = option_map (λ reply. told_at later (is_affirmative reply)) (reply_at header run later)

  answer_known : (place task : ℕ) → answer_to header run place task ≡ option_and_then told (answer_place header run task place)
  unfolding answer_of
  answer_known place task = at (answer_place header run task place)
    where
      of_reply : (later : ℕ) (o : Option Reply)
          → option_map (told_at later) (option_map is_affirmative o) ≡ option_map (λ reply. told_at later (is_affirmative reply)) o
      of_reply later None = refl
      of_reply later (Some reply) = refl

      at : (o : Option ℕ)
          → option_and_then (λ later. option_map (told_at later) (option_and_then (λ later. option_map is_affirmative (reply_at header run later)) o)) o
          ≡ option_and_then told o
      at None = refl
      at (Some later) = of_reply later (reply_at header run later)

  -- behind the last step there is none
  none_behind : (task : ℕ) → answer_to header run (length run) task ≡ None
  none_behind task =
      answer_known (length run) task
      ∙ ap (option_and_then told) (find_none (answers_at header run task) (length run) (length run) 0 (omega arith))

  answer_next : (place task : ℕ) → place < length run
      → answer_to header run place task ≡ cond (answers_at header run task place) (told place) (answer_to header run (place + 1) task)
  answer_next place task low =
      answer_known place task
      ∙ ap (option_and_then told) (find_from (answers_at header run task) place (length run) 0 (omega arith) (omega (arith, low)))
      ∙ at (answers_at header run task place)
      ∙ ap (cond (answers_at header run task place) (told place)) (sym (answer_known (place + 1) task))
    where
      at : (b : Bool)
          → option_and_then told (cond b (Some place) (answer_place header run task (place + 1)))
          ≡ cond b (told place) (option_and_then told (answer_place header run task (place + 1)))
      at true = refl
      at false = refl

  module _ (place : ℕ) (step : Step) (low : place < length run) (is : slice_get run place ≡ Some step) where
    abbrev reply : Reply
    reply = (step_of step (state_after (start header) (take place run))).0

    reply_here : reply_at header run place ≡ Some reply
    unfolding reply_at state_at
    reply_here = ap (option_map (λ (step : Step). (step_of step (state_after (start header) (take place run))).0)) is

    own_here : own_at (start header) run place ≡ own_answer place step reply
    own_here =
        ap (option_and_then (λ (step : Step). own_answer place step (step_of step (state_after (start header) (take place run))).0)) is

    told_here : told place ≡ Some (told_at place (is_affirmative reply))
    told_here = ap (option_map (λ (reply : Reply). told_at place (is_affirmative reply))) reply_here

    answers_here : (task : ℕ) → answers_at header run task place ≡ (is_step_of task step && not (is_blocked reply))
    answers_here task i = option_map_or (is_step_of task) (is i) false && option_map_or (λ (reply : Reply). not (is_blocked reply)) (reply_here i) false

    -- the answer of the step
    answer_here : (o : Option ℕ) → task_of step ≡ o → answer_at header run place ≡ option_and_then (answer_to header run place) o
    answer_here o known = ap (λ o. option_and_then (answer_to header run place) (option_and_then task_of o)) is ∙ ap (option_and_then (answer_to header run place)) known

    -- a task whose step it is not has the same answer next
    not_its : (task : ℕ) → is_step_of task step ≡ false → answer_to header run (place + 1) task ≡ answer_to header run place task
    not_its task other =
        sym (answer_next place task low
        ∙ ap (λ b. cond b (told place) (answer_to header run (place + 1) task)) (answers_here task ∙ ap (λ b. b && not (is_blocked reply)) other))

    -- its own task has that of the step, or else the next one
    its : (core task : ℕ) (call : Call) → step ≡ steps.Call core task call
        → answer_to header run place task ≡ option_or (own_at (start header) run place) (answer_to header run (place + 1) task)
    its core task call same =
        answer_next place task low
        ∙ ap (λ b. cond b (told place) (answer_to header run (place + 1) task)) (answers_here task ∙ ap (λ b. b && not (is_blocked reply)) own)
        ∙ ap (λ o. cond (not (is_blocked reply)) o (answer_to header run (place + 1) task)) told_here
        ∙ at (is_blocked reply)
        ∙ ap (λ o. option_or o (answer_to header run (place + 1) task)) (sym (own_here ∙ ap (λ step. own_answer place step reply) same))
      where
        own : is_step_of task step ≡ true
        own = let test : eqb task task ≡ true = grind (arith, nat_tests) in ap (is_step_of task) same ∙ test

        at : (b : Bool)
            → cond (not b) (Some (told_at place (is_affirmative reply))) (answer_to header run (place + 1) task)
            ≡ option_or (cond b None (Some (told_at place (is_affirmative reply)))) (answer_to header run (place + 1) task)
        at true = refl
        at false = refl

-- ---- steps of tasks

its_call : (step : Step) (task : ℕ) → task_of step ≡ Some task → (core : ℕ) × (call : Call) × (step ≡ steps.Call core task call)
its_call (steps.Call core other call) task is = let same : other ≡ task = cc is in (core, call, ap (λ task. steps.Call core task call) same)
its_call Tick task is = absurd (cc is)
its_call (Switch core) task is = absurd (cc is)
its_call (Interrupt core note) task is = absurd (cc is)
its_call (QueueInterrupt core queue direction) task is = absurd (cc is)
its_call (ResumeInterrupt core other) task is = absurd (cc is)
its_call (Pass units) task is = absurd (cc is)

of_none : (step : Step) → task_of step ≡ None → ((task : ℕ) → is_step_of task step ≡ false) × ((place : ℕ) (reply : Reply) → own_answer place step reply ≡ None)
of_none (steps.Call core other call) is = absurd (cc is)
of_none Tick is = (λ task. refl, λ place reply. refl)
of_none (Switch core) is = (λ task. refl, λ place reply. refl)
of_none (Interrupt core note) is = (λ task. refl, λ place reply. refl)
of_none (QueueInterrupt core queue direction) is = (λ task. refl, λ place reply. refl)
of_none (ResumeInterrupt core other) is = (λ task. refl, λ place reply. refl)
of_none (Pass units) is = (λ task. refl, λ place reply. refl)

-- the task of a checked step is one of the tasks
pub task_low : (settings : Settings) (step : Step) (task : ℕ) → IsCheckedStep settings step → task_of step ≡ Some task → task < settings.tasks
task_low settings step task checked is =
    let call = its_call step task is in
    let passes = subst (IsCheckedStep settings) call.2 checked in
    let parts = both_pass (core_check settings call.0 >> task_check settings task) (call_check settings call.1) passes.passes in
    (checked_task settings task (both_pass (core_check settings call.0) (task_check settings task) parts.0).1).1

-- ---- back over the run

-- from the place on the steps have their answers, and each task has its next one there
pub record AreAnswered (header : Header) (run : List Step) (tasks place : ℕ) (answers next : List (Option Answer)) : Type 0 where
  pub within : place ≤ length run
  pub each : length answers ≡ length run
  pub tasks_each : length next ≡ tasks
  pub own : (at : ℕ) → at < place → slice_index_or answers at None ≡ own_at (start header) run at
  pub told : (at : ℕ) → place ≤ at → at < length run → slice_index_or answers at None ≡ answer_at header run at
  pub next_each : (task : ℕ) → task < tasks → slice_index_or next task None ≡ answer_to header run place task

module _ (header : Header) (run : List Step) (tasks : ℕ) where
  pub answered_begins : (place : ℕ) (answers next : List (Option Answer)) → place ≡ length run → answers ≡ own_answers (start header) run
      → length next ≡ tasks → ((task : ℕ) → slice_index_or next task None ≡ None) → AreAnswered header run tasks place answers next
  unfolding own_answers
  answered_begins place answers next all own count none = record {
    within = omega (arith, all);
    each = ap length own ∙ length-map-range_with_len (own_at (start header) run) 0 (length run);
    tasks_each = count;
    own = λ at low.
        ap (λ answers. slice_index_or answers at None) own
        ∙ get_or-map-range_with_len (own_at (start header) run) 0 (length run) at at None (omega (arith, low, all)) (omega arith);
    told = λ at past low. absurd (omega (arith, all, past, low));
    next_each = λ task low. none task ∙ sym (ap (λ place. answer_to header run place task) all ∙ none_behind header run task);
  }

  module _ (place : ℕ) (step : Step) (answers next : List (Option Answer)) (low : place < length run) (is : slice_get run place ≡ Some step)
      (before : AreAnswered header run tasks (place + 1) answers next) where
    pub answered_other : task_of step ≡ None → AreAnswered header run tasks place answers next
    answered_other none = record {
      within = omega (arith, low);
      each = before.each;
      tasks_each = before.tasks_each;
      own = λ at early. before.own at (omega (arith, early));
      told = λ at past few. elim (cases_eq at place) [
        | inl same ↦
            subst (λ at. slice_index_or answers at None ≡ answer_at header run at) (sym same)
            (before.own place (omega arith) ∙ own_here header run place step low is ∙ (of_none step none).1 place (reply header run place step low is)
            ∙ sym (answer_here header run place step low is None none))
        | inr away ↦ before.told at (omega (arith, past, away)) few
      ];
      next_each = λ task few. before.next_each task few ∙ not_its header run place step low is task ((of_none step none).0 task);
    }

    pub answered_call : (task : ℕ) → task_of step ≡ Some task → task < tasks
        → AreAnswered header run tasks place
        (slice_set answers place (option_or (slice_index_or answers place None) (slice_index_or next task None)))
        (slice_set next task (option_or (slice_index_or answers place None) (slice_index_or next task None)))
    answered_call task known user = record {
      within = omega (arith, low);
      each = length-set answers place found ∙ before.each;
      tasks_each = length-set next task found ∙ before.tasks_each;
      own = λ at early. get_or-set_other answers place at found None (λ same. absurd (omega (arith, same, early))) ∙ before.own at (omega (arith, early));
      told = λ at past few. elim (cases_eq at place) [
        | inl same ↦
            subst (λ at. slice_index_or (slice_set answers place found) at None ≡ answer_at header run at) (sym same)
            (get_or-set_same answers place found None (omega (arith, low, before.each)) ∙ found_is
            ∙ sym (answer_here header run place step low is (Some task) known))
        | inr away ↦ get_or-set_other answers place at found None away ∙ before.told at (omega (arith, past, away)) few
      ];
      next_each = λ other few. elim (cases_eq other task) [
        | inl same ↦
            subst (λ other. slice_index_or (slice_set next task found) other None ≡ answer_to header run place other) (sym same)
            (get_or-set_same next task found None (omega (arith, user, before.tasks_each)) ∙ found_is)
        | inr away ↦
            get_or-set_other next task other found None away ∙ before.next_each other few
            ∙ not_its header run place step low is other (not_own other away)
      ];
    }
      where
        found : Option Answer
        found = option_or (slice_index_or answers place None) (slice_index_or next task None)

        found_is : option_or (slice_index_or answers place None) (slice_index_or next task None) ≡ answer_to header run place task
        found_is =
            let call = its_call step task known in
            (λ i. option_or (before.own place (omega arith) i) (before.next_each task user i))
            ∙ sym (its header run place step low is call.0 task call.1 call.2)

        not_own : (other : ℕ) → other ≢ task → is_step_of other step ≡ false
        not_own other away =
            let call = its_call step task known in
            let apart : eqb task other ≡ false = grind (arith, nat_tests, away) in
            ap (is_step_of other) call.2 ∙ apart

  pub answered_ends : (place : ℕ) (answers next : List (Option Answer)) → place ≡ 0 → AreAnswered header run tasks place answers next
      → answers ≡ map (answer_at header run) (numbers (length run))
  answered_ends place answers next none all =
      let count = length-map-range_with_len (answer_at header run) 0 (length run) in
      ext_get_or None answers (map (answer_at header run) (range_with_len 0 (length run))) (all.each ∙ sym count) (λ at low.
      all.told at (omega (arith, none)) (omega (arith, low, all.each))
      ∙ sym (get_or-map-range_with_len (answer_at header run) 0 (length run) at at None (omega (arith, low, all.each)) (omega arith)))

-- ---- over the run

pub own_more : (table : Table) (run : List Step) (place : ℕ) (d : Step) (reply : Reply) → place < length run
    → reply ≡ (step_of (slice_index_or run place d) (state_after table (take place run))).0
    → map (own_at table run) (numbers place) ++ own_answer place (slice_index_or run place d) reply ∷ [] ≡ map (own_at table run) (numbers (place + 1))
own_more table run place d reply low replied =
    let own : own_at table run place ≡ own_answer place (slice_index_or run place d) reply
    = ap (option_and_then (λ (step : Step). own_answer place step (step_of step (state_after table (take place run))).0)) (slice_get-get_or run place d low)
    ∙ ap (own_answer place (slice_index_or run place d)) (sym replied) in
    ap (λ o. map (own_at table run) (numbers place) ++ o ∷ []) (sym own)
    ∙ sym (ap (map (own_at table run)) (numbers_more place) ∙ map-append (own_at table run) (numbers place) (place ∷ []))

pub state_more : (table : Table) (run : List Step) (place : ℕ) (d : Step) → place < length run
    → state_after table (take (place + 1) run) ≡ (step_of (slice_index_or run place d) (state_after table (take place run))).1
state_more table run place d low =
    let go : Table → Step → Table = λ (table : Table) (step : Step). (step_of step table).1 in
    ap (state_after table) (take_more run place d low) ∙ fold-append go table (take place run) (slice_index_or run place d ∷ [])

pub own_all : (table : Table) (run : List Step) (place : ℕ) (answers : List (Option Answer)) → place ≡ length run
    → answers ≡ map (own_at table run) (numbers place) → answers ≡ own_answers table run
unfolding own_answers
own_all table run place answers all is = is ∙ ap (λ place. map (own_at table run) (numbers place)) all
