-- The first of all limits.
use Rattle.std.proofs.Common.{◌≡◌, ℕ, suc, ◌+◌, ◌<◌, Bool, true, false, cond, not, ltb, ◌&&◌, List, [], ◌∷◌, length, map, take, get_or, count_by, Option, Some, None, refl, sym, ap, ◌∙◌, arith}
use Rattle.std.specs.Prelude.{fold, filter_map, option_and_then, option_map, slice_get}
use Rattle.std.specs.List.{cons_option, filter}
use Rattle.std.specs.Option.{option_map_or}
use Rattle.std.proofs.lemmas.Bool.Decides.{nat_tests}
use Rattle.std.proofs.lemmas.List.Elements.{filter_map-append}
use Rattle.std.proofs.lemmas.List.FromFn.{get_or-map-range_with_len}
use Rattle.std.proofs.lemmas.List.Sums.{fold-append}
use Rattle.std.proofs.lemmas.Option.{slice_get-get_or, slice_get-map}
use Rattle.list_orders.specs.Search.{numbers}
use Rattle.list_orders.proofs.Stamped.{numbers_more}
use Rattle.bench_types.specs.declared.header.Header.{Header}
use Rattle.bench_types.specs.declared.reply.Reply.{Reply}
use Rattle.bench_types.specs.declared.step.Step.{Step}
use Rattle.bench_types.specs.declared.step.Step.TheVariants.{Tick, Switch, Interrupt, QueueInterrupt, ResumeInterrupt, Pass}
use Rattle.bench_types.specs.declared.step.Step.TheVariants as steps
use Rattle.bench_types.specs.Session.{Session}
use Rattle.bench_model.specs.Session.{reply_at}
use Rattle.workload_runs.specs.Courses.{is_affirmative}
use Rattle.settled_runs.specs.Settled.{is_finish}
use Rattle.kept_edits.specs.declared.edit.KeptEdit.{KeptEdit}
use Rattle.kept_runs.specs.declared.call_order.CallOrder.{CallOrder}
use Rattle.kept_runs.specs.declared.known_limit.KnownLimit.{KnownLimit}
use Rattle.kept_runs.specs.Items.{Item, begins_call, edited_items, edited_session}
use Rattle.kept_runs.specs.Known.{answer_before, answer_limit, answer_of, answer_place, differ, earlier, end_limit, is_affirmed, is_other_answer, item_of, known_until, limit_behind}
use Rattle.kept_runs.specs.Rule.{first_progress, progress_at}
use Rattle.keeping.specs.Ends.{first_end}
use Rattle.keeping.proofs.FirstEnds.{first_is_earliest_kept}
use Rattle.run_answers.specs.declared.answer.Answer.{Answer}
use Rattle.run_answers.specs.Answers.{answer_at, answer_to, task_of}
use Rattle.known_limits.specs.Before.{answer_in, row_at, AreRows}
use Rattle.known_limits.specs.Calls.{begun_task}
use Rattle.known_limits.specs.Limits.{answer_limits, limit_by, sooner}
use Rattle.known_limits.proofs.Begun.{begun_call, IsCallOf}

-- ---- the first of limits

-- of three it is the same, whichever two are taken first
sooner_three : (a b c : Option KnownLimit) → sooner (sooner a b) c ≡ sooner a (sooner b c)
sooner_three a b None = refl
sooner_three a None (Some c) = refl
sooner_three None (Some b) (Some c) = at (ltb c.place b.place)
  where
    at : (test : Bool) → cond test (Some c) (Some b) ≡ sooner None (cond test (Some c) (Some b))
    at true = refl
    at false = refl
sooner_three (Some a) (Some b) (Some c) =
    at (ltb b.place a.place) (ltb c.place b.place) (ltb c.place a.place) refl refl refl
  where
    at : (ba cb ca : Bool) → ltb b.place a.place ≡ ba → ltb c.place b.place ≡ cb → ltb c.place a.place ≡ ca
        → sooner (cond ba (Some b) (Some a)) (Some c) ≡ sooner (Some a) (cond cb (Some c) (Some b))
    at true true true b_a c_b c_a = ap (λ t. cond t (Some c) (Some b)) c_b ∙ sym (ap (λ t. cond t (Some c) (Some a)) c_a)
    at true true false b_a c_b c_a = absurd (grind (arith, nat_tests, b_a, c_b, c_a))
    at true false ca b_a c_b c_a = ap (λ t. cond t (Some c) (Some b)) c_b ∙ sym (ap (λ t. cond t (Some b) (Some a)) b_a)
    at false true ca b_a c_b c_a = refl
    at false false true b_a c_b c_a = absurd (grind (arith, nat_tests, b_a, c_b, c_a))
    at false false false b_a c_b c_a = ap (λ t. cond t (Some c) (Some a)) c_a ∙ sym (ap (λ t. cond t (Some b) (Some a)) b_a)

one_sooner : (first : Option KnownLimit) (limit : KnownLimit) → earlier first limit ≡ sooner first (Some limit)
one_sooner first limit = refl

-- from one on it is the sooner of that and of the first of the others
fold_sooner : (first : Option KnownLimit) (limits : List KnownLimit) → fold earlier first limits ≡ sooner first (fold earlier None limits)
fold_sooner first [] = refl
fold_sooner first (limit ∷ limits) =
    fold_sooner (earlier first limit) limits
    ∙ sooner_three first (Some limit) (fold earlier None limits)
    ∙ ap (sooner first) (sym (fold_sooner (Some limit) limits))

-- the run is known up to the sooner of the first limits by answers and by ends
pub both_sooner : (order : CallOrder) (session : Session) (edits : List KeptEdit) (settled run : List Step)
    → sooner (fold earlier None (answer_limits session edits settled run (length run))) (first_end (first_progress order session edits settled) run)
    ≡ known_until order session edits settled run
unfolding known_until
both_sooner order session edits settled run =
    sym
    (fold-append earlier None (answer_limits session edits settled run (length run))
    (filter_map (λ place. end_limit run place (progress_at order session edits settled run place)) (numbers (length run)))
    ∙ fold_sooner (fold earlier None (answer_limits session edits settled run (length run)))
    (filter_map (λ place. end_limit run place (progress_at order session edits settled run place)) (numbers (length run)))
    ∙ ap (sooner (fold earlier None (answer_limits session edits settled run (length run))))
    (first_is_earliest_kept order session edits settled run))

-- ---- the limit by one answer

module _ (header : Header) (run : List Step) (task place : ℕ) (before : Option Bool) where
  limit_is : limit_by task before (answer_to header run place task)
      ≡ cond (differ before (answer_of header run task place)) (option_map (limit_behind task (is_affirmed header run task place)) (answer_place header run task place)) None
  unfolding answer_of
  limit_is = at (answer_place header run task place)
    where
      unlike : (before : Option Bool) → differ before None ≡ false
      unlike None = refl
      unlike (Some true) = refl
      unlike (Some false) = refl

      of_reply : (later : ℕ) (o : Option Reply)
          → limit_by task before (option_map (λ (affirmative : Bool). record { place = later; affirmative = affirmative }) (option_map is_affirmative o))
          ≡ cond (differ before (option_map is_affirmative o))
          (Some (limit_behind task (option_map_or (λ affirmative. affirmative) (option_map is_affirmative o) false) later)) None
      of_reply later None = sym (ap (λ b. cond b (Some (limit_behind task false later)) None) (unlike before))
      of_reply later (Some reply) = refl

      at : (o : Option ℕ)
          → limit_by task before
          (option_and_then
          (λ later. option_map (λ (affirmative : Bool). record { place = later; affirmative = affirmative })
          (option_and_then (λ later. option_map is_affirmative (reply_at header run later)) o))
          o)
          ≡ cond (differ before (option_and_then (λ later. option_map is_affirmative (reply_at header run later)) o))
          (option_map
          (limit_behind task
          (option_map_or (λ affirmative. affirmative) (option_and_then (λ later. option_map is_affirmative (reply_at header run later)) o) false))
          o)
          None
      at None = sym (ap (λ b. cond b None None) (unlike before))
      at (Some later) = of_reply later (reply_at header run later)

-- an entry that a function made of an item
made_in : {X : Type 0} (f : X → Option Bool) (xs : List X) (k : ℕ) → answer_in (map f xs) k ≡ option_and_then f (slice_get xs k)
made_in {X} f xs k = ap (option_and_then (λ answer. answer)) (slice_get-map f xs k) ∙ at (slice_get xs k)
  where
    at : (o : Option X) → option_and_then (λ answer. answer) (option_map f o) ≡ option_and_then f o
    at None = refl
    at (Some x) = refl

module _ (session : Session) (edits : List KeptEdit) (settled run : List Step) where
  abbrev header : Header
  header = (edited_session session edits).header

  abbrev limit_of : ℕ → Option KnownLimit
  limit_of place = option_and_then (answer_limit session edits settled run place) (slice_get run place)

  -- the first limit by an answer, with a place more
  first_more : (place : ℕ)
      → fold earlier None (answer_limits session edits settled run (place + 1))
      ≡ sooner (fold earlier None (answer_limits session edits settled run place)) (limit_of place)
  first_more place =
      ap (λ places. fold earlier None (filter_map limit_of places)) (numbers_more place)
      ∙ ap (fold earlier None) (filter_map-append limit_of (numbers place) (place ∷ []))
      ∙ fold-append earlier None (filter_map limit_of (numbers place)) (cons_option (limit_of place) [])
      ∙ at (limit_of place)
    where
      at : (o : Option KnownLimit)
          → fold earlier (fold earlier None (filter_map limit_of (numbers place))) (cons_option o [])
          ≡ sooner (fold earlier None (filter_map limit_of (numbers place))) o
      at None = refl
      at (Some limit) = refl

  module _ (place : ℕ) (d : Step) (within : place < length run) where
    there : limit_of place ≡ answer_limit session edits settled run place (get_or run place d)
    there = ap (option_and_then (answer_limit session edits settled run place)) (slice_get-get_or run place d within)

    -- a step that is no call sets none
    pub first_pass : (first : Option KnownLimit) → begun_task (get_or run place d) ≡ None
        → first ≡ fold earlier None (answer_limits session edits settled run place)
        → first ≡ fold earlier None (answer_limits session edits settled run (place + 1))
    first_pass first none is = is ∙ sym (first_more place ∙ ap (sooner (fold earlier None (answer_limits session edits settled run place))) (there ∙ of_none (get_or run place d) none))
      where
        finished : (own place : ℕ) (b other : Bool) → cond b None (Some own) ≡ None → (o : Option KnownLimit) → cond (not b && other) o None ≡ None
        finished own place true other none o = refl
        finished own place false other none o = absurd (cc none)

        of_none : (step : Step) → begun_task step ≡ None → answer_limit session edits settled run place step ≡ None
        of_none (steps.Call core own call) none =
            finished own place (is_finish call) (is_other_answer session edits settled run own place) none
            (option_map (limit_behind own (is_affirmed header run own place))
            (answer_place (edited_session session edits).header run own place))
        of_none Tick none = refl
        of_none (Switch core) none = refl
        of_none (Interrupt core note) none = refl
        of_none (QueueInterrupt core queue direction) none = refl
        of_none (ResumeInterrupt core other) none = refl
        of_none (Pass units) none = refl

    -- a call may set one
    pub first_on : (tasks task count : ℕ) (rows : List (List (Option Bool))) (answers : List (Option Answer)) (first : Option KnownLimit)
        → begun_task (get_or run place d) ≡ Some task → task < tasks → count ≡ count_by (begins_call task) (take place run)
        → AreRows session settled tasks (edited_items session edits) rows
        → answers ≡ map (answer_at (edited_session session edits).header run) (numbers (length run))
        → first ≡ fold earlier None (answer_limits session edits settled run place)
        → sooner first (limit_by task (answer_in (row_at rows task) count) (get_or answers place None))
        ≡ fold earlier None (answer_limits session edits settled run (place + 1))
    unfolding is_other_answer
    first_on tasks task count rows answers first begins low counts are answered is =
        ap (λ first. sooner first (limit_by task (answer_in (row_at rows task) count) (get_or answers place None))) is
        ∙ ap (sooner (fold earlier None (answer_limits session edits settled run place))) its
        ∙ sym (first_more place)
      where
        it : IsCallOf task (get_or run place d)
        it = begun_call task (get_or run place d) begins

        before : answer_in (row_at rows task) count ≡ option_and_then (answer_before session settled task) (item_of (edited_items session edits) run task place)
        before =
            (λ i. answer_in (are.each task low i) (counts i))
            ∙ made_in (answer_before session settled task) (filter (λ (item : Item). begins_call task item.step) (edited_items session edits))
            (count_by (begins_call task) (take place run))

        now : get_or answers place None ≡ answer_to header run place task
        now =
            ap (λ answers. get_or answers place None) answered
            ∙ get_or-map-range_with_len (answer_at header run) 0 (length run) place place None within (omega arith)
            ∙ ap (λ o. option_and_then (answer_to header run place) (option_and_then task_of o)) (slice_get-get_or run place d within)
            ∙ ap (λ step. option_and_then (answer_to header run place) (task_of step)) it.is

        call_limit : answer_limit session edits settled run place (steps.Call it.core task it.call)
            ≡ cond (differ (option_and_then (answer_before session settled task) (item_of (edited_items session edits) run task place)) (answer_of header run task place))
            (option_map (limit_behind task (is_affirmed header run task place)) (answer_place header run task place)) None
        call_limit =
            ap (λ b. cond (not b && is_other_answer session edits settled run task place)
            (option_map (limit_behind task (is_affirmed header run task place)) (answer_place header run task place)) None) it.begins

        its : limit_by task (answer_in (row_at rows task) count) (get_or answers place None) ≡ limit_of place
        its =
            (λ i. limit_by task (before i) (now i))
            ∙ limit_is header run task place (option_and_then (answer_before session settled task) (item_of (edited_items session edits) run task place))
            ∙ sym (there ∙ ap (answer_limit session edits settled run place) it.is ∙ call_limit)
