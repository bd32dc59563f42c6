-- Where a call of the document is answered in the settled run.
use Rattle.std.proofs.Common.{◌≡◌, ◌⊎◌, ℕ, zero, suc, ◌+◌, ◌<◌, ◌≤◌, Bool, true, false, cond, not, leb, ◌&&◌, List, [], ◌∷◌, length, map, take, get_or, All, Option, Some, None, refl, sym, ap, ◌∙◌, inl, inr, arith}
use Rattle.std.specs.Prelude.{count_by, option_and_then, option_map, slice_get, slice_index_or}
use Rattle.std.specs.List.{find, range_with_len}
use Rattle.std.specs.Option.{option_map_or}
use Rattle.std.proofs.lemmas.Bool.{cases_eq}
use Rattle.std.proofs.lemmas.Bool.Decides.{nat_tests}
use Rattle.std.proofs.lemmas.List.Elements.{filter_passes}
use Rattle.std.proofs.lemmas.List.FromFn.{get_or-map-range_with_len, length-map-range_with_len}
use Rattle.std.proofs.lemmas.Option.{slice_get-get_or, slice_get_past, slice_get_within}
use Rattle.list_orders.specs.Search.{numbers}
use Rattle.bench_types.specs.declared.header.Header.{Header}
use Rattle.bench_types.specs.declared.reply.Reply.{Reply}
use Rattle.bench_types.specs.declared.step.Step.{Step}
use Rattle.bench_types.specs.declared.step.Step.TheVariants.{Tick}
use Rattle.bench_types.specs.Session.{Session}
use Rattle.bench_model.specs.Session.{reply_at}
use Rattle.workload_runs.specs.Courses.{is_affirmative}
use Rattle.settled_runs.specs.Settled.{is_event}
use Rattle.kept_runs.specs.Items.{Item, begins_call, event_from, is_alike, passes_at, place_of_event, places_of, settled_place}
use Rattle.kept_runs.specs.Known.{answer_before, answer_of, answer_place, answers_at, was_call}
use Rattle.run_answers.specs.declared.answer.Answer.{Answer}
use Rattle.run_answers.specs.Answers.{answer_at, answer_to, task_of}
use Rattle.known_limits.specs.Before.{affirmative_at, IsBefore}
use Rattle.known_limits.specs.Calls.{begun_task}
use Rattle.known_limits.proofs.Begun.{alike_begins, begins_begun, begun_call, call_event, call_task}

-- ---- searches from a number on

-- a number that passes is the first from it on
find_own : (f : ℕ → Bool) (p n a : ℕ) → a ≤ p → p < a + n → f p ≡ true → find (λ k. leb p k && f k) (range_with_len a n) ≡ Some p
find_own f p zero a low high own = absurd (omega (arith, low, high))
find_own f p (suc n) a low high own = elim (cases_eq a p) [
  | inl same ↦
      let here : (leb p a && f a) ≡ true
      = (λ i. leb (sym same i) a && f a) ∙ (let test : leb a a ≡ true = grind (arith, nat_tests) in ap (λ b. b && f a) test) ∙ ap f same ∙ own in
      ap (λ b. cond b (Some a) (find (λ k. leb p k && f k) (range_with_len (a + 1) n))) here ∙ ap Some same
  | inr away ↦
      let early : leb p a ≡ false = grind (arith, nat_tests, low, away) in
      ap (λ b. cond (b && f a) (Some a) (find (λ k. leb p k && f k) (range_with_len (a + 1) n))) early
      ∙ find_own f p n (a + 1) (omega (arith, low, away)) (omega (arith, high)) own
]

-- none is behind the last
find_past : (f : ℕ → Bool) (p n a : ℕ) → a + n ≤ p → find (λ k. leb p k && f k) (range_with_len a n) ≡ None
find_past f p zero a past = refl
find_past f p (suc n) a past =
    let early : leb p a ≡ false = grind (arith, nat_tests, past) in
    ap (λ b. cond (b && f a) (Some a) (find (λ k. leb p k && f k) (range_with_len (a + 1) n))) early ∙ find_past f p n (a + 1) (omega (arith, past))

-- ---- answers

-- what the answer tells
pub affirmative_is : (header : Header) (run : List Step) (task place : ℕ)
    → option_map (λ (answer : Answer). answer.affirmative) (answer_to header run place task) ≡ answer_of header run task place
unfolding answer_of
affirmative_is header run task place = at (answer_place header run task place)
  where
    of_reply : (later : ℕ) (o : Option Reply)
        → option_map (λ (answer : Answer). answer.affirmative)
        (option_map (λ (affirmative : Bool). record { place = later; affirmative = affirmative }) (option_map is_affirmative o))
        ≡ option_map is_affirmative o
    of_reply later None = refl
    of_reply later (Some reply) = refl

    at : (o : Option ℕ)
        → option_map (λ (answer : Answer). answer.affirmative)
        (option_and_then
        (λ later. option_map (λ (affirmative : Bool). record { place = later; affirmative = affirmative })
        (option_and_then (λ later. option_map is_affirmative (reply_at header run later)) o))
        o)
        ≡ option_and_then (λ later. option_map is_affirmative (reply_at header run later)) o
    at None = refl
    at (Some later) = of_reply later (reply_at header run later)

none_behind : (header : Header) (run : List Step) (task : ℕ) → answer_of header run task (length run) ≡ None
unfolding answer_of
none_behind header run task =
    ap (option_and_then (λ later. option_map is_affirmative (reply_at header run later)))
    (find_past (answers_at header run task) (length run) (length run) 0 (omega arith))

-- ---- the place of a call

passing : (test : Step → Bool) (run : List Step) (place : ℕ) → passes_at test run place ≡ true → (step : Step) × (slice_get run place ≡ Some step) × (test step ≡ true)
passing test run place passes = at (slice_get run place) passes
  where
    at : (o : Option Step) → option_map_or test o false ≡ true → (step : Step) × (o ≡ Some step) × (test step ≡ true)
    at (Some step) passes = (step, refl, passes)
    at None passes = absurd (cc passes)

-- a call has its own place
own_place : (document settled : List Step) (index : ℕ) (step : Step) → slice_get document index ≡ Some step → is_event step ≡ true
    → settled_place document settled index ≡ place_of_event document settled index step
unfolding settled_place
own_place document settled index step there event =
    let low = slice_get_within document index step there in
    let passes : passes_at is_event document index ≡ true = ap (λ o. option_map_or is_event o false) there ∙ event in
    let first : event_from document index ≡ Some index = find_own (passes_at is_event document) index (length document) 0 (omega arith) (omega (arith, low)) passes in
    let same : slice_index_or document index Tick ≡ step = cc (sym (slice_get-get_or document index Tick low) ∙ there) in
    ap (λ o. option_map_or (λ later. place_of_event document settled later (slice_index_or document later Tick)) o (length settled)) first
    ∙ ap (place_of_event document settled index) same

-- an entry of a list of places that pass is one that passes, or the end
entry : (test : ℕ → Bool) (places : List ℕ) (k end : ℕ) → All (λ place. test place ≡ true) places
    → (test (slice_index_or places k end) ≡ true) ⊎ (slice_index_or places k end ≡ end)
entry test [] k end all = inr refl
entry test (place ∷ places) zero end all = inl (all 0 0 (omega arith))
entry test (place ∷ places) (suc k) end all = entry test places k end (λ j d within. all (suc j) d (omega (arith, within)))

module _ (session : Session) (settled : List Step) (places : List ℕ) (answers : List (Option Answer)) (is : IsBefore session settled places answers) where
  -- what the answer of a call there tells
  at_call : (task place : ℕ) (step : Step) → slice_get settled place ≡ Some step → begins_call task step ≡ true
      → affirmative_at answers place ≡ answer_of session.header settled task place
  at_call task place step at_place begins =
      let low = slice_get_within settled place step at_place in
      let many = length-map-range_with_len (answer_at session.header settled) 0 (length settled) in
      let there : slice_get answers place ≡ Some (answer_at session.header settled place)
      = ap (λ answers. slice_get answers place) is.answers_are
      ∙ slice_get-get_or (map (answer_at session.header settled) (numbers (length settled))) place None (omega (arith, low, many))
      ∙ ap Some (get_or-map-range_with_len (answer_at session.header settled) 0 (length settled) place place None low (omega arith)) in
      let own : option_and_then task_of (slice_get settled place) ≡ Some task
      = ap (option_and_then task_of) at_place ∙ call_task task step (begun_call task step (begins_begun task step begins)) in
      ap (λ o. option_map (λ (answer : Answer). answer.affirmative) (option_and_then (λ (answer : Option Answer). answer) o)) there
      ∙ ap (λ o. option_map (λ (answer : Answer). answer.affirmative) (option_and_then (answer_to session.header settled place) o)) own
      ∙ affirmative_is session.header settled task place

  -- at the end there is none
  at_end : (task place : ℕ) → place ≡ length settled → affirmative_at answers place ≡ answer_of session.header settled task place
  at_end task place end =
      let many = ap length is.answers_are ∙ length-map-range_with_len (answer_at session.header settled) 0 (length settled) in
      ap (λ o. option_map (λ (answer : Answer). answer.affirmative) (option_and_then (λ (answer : Option Answer). answer) o))
      (slice_get_past answers place (omega (arith, many, end)))
      ∙ sym (ap (answer_of session.header settled task) end ∙ none_behind session.header settled task)

  -- at the place of a call of the document
  at_its : (task index : ℕ) (own : Step) → begun_task own ≡ Some task
      → affirmative_at answers (place_of_event session.steps settled index own)
      ≡ answer_of session.header settled task (place_of_event session.steps settled index own)
  at_its task index own begins =
      which (place_of_event session.steps settled index own)
      (entry (passes_at (is_alike own) settled) (places_of (is_alike own) settled) (count_by (is_alike own) (take index session.steps)) (length settled)
      (filter_passes (passes_at (is_alike own) settled) (numbers (length settled))))
    where
      which : (place : ℕ) → (passes_at (is_alike own) settled place ≡ true) ⊎ (place ≡ length settled)
          → affirmative_at answers place ≡ answer_of session.header settled task place
      which place (inl passes) =
          let it = passing (is_alike own) settled place passes in
          at_call task place it.0 it.1 (sym (alike_begins task own it.0 begins) ∙ it.2)
      which place (inr end) = at_end task place end

  pub was_known : (task : ℕ) (item : Item) → begun_task item.step ≡ Some task → was_call session.steps item ≡ true
      → affirmative_at answers (settled_place session.steps settled item.anchor) ≡ answer_before session settled task item
  was_known task item begins was =
      let it = passing (is_alike item.step) session.steps item.anchor (second (not item.inserted) (passes_at (is_alike item.step) session.steps item.anchor) was) in
      let own = begins_begun task it.0 (sym (alike_begins task item.step it.0 begins) ∙ it.2) in
      let place = own_place session.steps settled item.anchor it.0 it.1 (call_event task it.0 (begun_call task it.0 own)) in
      ap (affirmative_at answers) place ∙ at_its task item.anchor it.0 own
      ∙ ap (answer_of session.header settled task) (sym place)
      ∙ sym (ap (λ b. cond b (answer_of session.header settled task (settled_place session.steps settled item.anchor)) None) was)
    where
      second : (a b : Bool) → (a && b) ≡ true → b ≡ true
      second true b both = both
      second false b both = absurd (cc both)

  -- the place of an anchor
  pub place_at : (anchor : ℕ) → anchor < length places → get_or places anchor 0 ≡ settled_place session.steps settled anchor
  place_at anchor low =
      let many = ap length is.places_are ∙ length-map-range_with_len (settled_place session.steps settled) 0 (suc (length session.steps)) in
      ap (λ places. get_or places anchor 0) is.places_are
      ∙ get_or-map-range_with_len (settled_place session.steps settled) 0 (suc (length session.steps)) anchor anchor 0 (omega (arith, low, many)) (omega arith)
