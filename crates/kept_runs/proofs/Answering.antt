-- Without edits each call is answered as it was.
use Rattle.std.proofs.Common.{◌≡◌, ℕ, zero, suc, ◌+◌, Bool, true, false, cond, not, eqb, ◌&&◌, List, [], ◌∷◌, ◌++◌, length, map, take, Option, Some, None, refl, sym, ap, subst, ◌∙◌, append_assoc, arith}
use Rattle.std.specs.Prelude.{count_by, filter_map, option_and_then, option_map, slice_get, slice_index_or}
use Rattle.std.specs.List.{cons_option, filter}
use Rattle.std.proofs.lemmas.Bool.Decides.{nat_tests}
use Rattle.std.proofs.lemmas.List.{length-append}
use Rattle.bench_types.specs.declared.step.Step.{Step}
use Rattle.bench_types.specs.declared.step.Step.TheVariants.{Tick, Switch, Interrupt, QueueInterrupt, ResumeInterrupt, Pass}
use Rattle.bench_types.specs.declared.step.Step.TheVariants as steps
use Rattle.bench_types.specs.Session.{Session}
use Rattle.settled_runs.specs.Settled.{is_event, is_finish}
use Rattle.kept_runs.specs.Items.{Item, begins_call, edited_items, is_alike, items_from, places_of, settled_place}
use Rattle.kept_runs.specs.Known.{answer_before, answer_limit, answer_of, answer_place, differ, is_affirmed, is_other_answer, item_of, limit_behind, was_call}
use Rattle.kept_runs.proofs.Starts.{alike_calls, counted, counted_first, event_place, places_cons}

-- ---- lists

-- nothing comes of those that give nothing
pub all_none : {X Y : Type 0} (h : X → Option Y) (xs : List X) → ((x : X) → h x ≡ None) → filter_map h xs ≡ []
all_none h [] none = refl
all_none h (x ∷ xs) none = ap (λ o. cons_option o (filter_map h xs)) (none x) ∙ all_none h xs none

get_mapped : {X Y : Type 0} (f : X → Y) (xs : List X) (at : ℕ) → slice_get (map f xs) at ≡ option_map f (slice_get xs at)
get_mapped f [] at = refl
get_mapped f (x ∷ xs) zero = refl
get_mapped f (x ∷ xs) (suc at) = get_mapped f xs at

read_there : {X : Type 0} (xs : List X) (at : ℕ) (x last : X) → slice_get xs at ≡ Some x → slice_index_or xs at last ≡ x
read_there [] at x last is = absurd (cc is)
read_there (y ∷ xs) zero x last is = cc is
read_there (y ∷ xs) (suc at) x last is = read_there xs at x last is

-- ---- the place behind so many steps that pass

module _ (test : Step → Bool) where
  -- of the places where steps pass, that one behind as many as come before it
  counted_place : (run : List Step) (place : ℕ) (step : Step) → slice_get run place ≡ Some step → test step ≡ true
      → slice_get (places_of test run) (count_by test (take place run)) ≡ Some place
  counted_place [] place step is passes = absurd (cc is)
  counted_place (first ∷ run) zero step is passes =
      let same : first ≡ step = cc is in
      ap (λ places. slice_get places 0) (places_cons test first run)
      ∙ ap (λ b. slice_get (cond b (0 ∷ map suc (places_of test run)) (map suc (places_of test run))) 0) (ap test same ∙ passes)
  counted_place (first ∷ run) (suc place) step is passes =
      ap (λ places. slice_get places (count_by test (first ∷ take place run))) (places_cons test first run)
      ∙ ap (slice_get (cond (test first) (0 ∷ map suc (places_of test run)) (map suc (places_of test run)))) (counted_first test first (take place run))
      ∙ at (test first) ∙ get_mapped suc (places_of test run) (count_by test (take place run))
      ∙ ap (option_map suc) (counted_place run place step is passes)
    where
      at : (b : Bool)
          → slice_get (cond b (0 ∷ map suc (places_of test run)) (map suc (places_of test run))) (cond b 1 0 + count_by test (take place run))
          ≡ slice_get (map suc (places_of test run)) (count_by test (take place run))
      at true =
          let sum : 1 + count_by test (take place run) ≡ suc (count_by test (take place run)) = omega arith in
          ap (slice_get (0 ∷ map suc (places_of test run))) sum
      at false =
          let sum : 0 + count_by test (take place run) ≡ count_by test (take place run) = omega arith in
          ap (slice_get (map suc (places_of test run))) sum

-- ---- the call of the document

alike_begins : (task : ℕ) (event : Step) → begins_call task event ≡ true → (is_event event ≡ true) × (is_alike event ≡ begins_call task)
alike_begins task (steps.Call core other call) is =
    let same : other ≡ task = grind (arith, nat_tests, is) in
    let begins : is_finish call ≡ false = at (eqb other task) (is_finish call) is in (
      ap not begins,
      (λ i step. alike_calls core other call begins step i) ∙ ap begins_call same,
    )
  where
    at : (a b : Bool) → (a && not b) ≡ true → b ≡ false
    at a false is = refl
    at true true is = absurd (cc is)
    at false true is = absurd (cc is)
alike_begins task Tick is = absurd (cc is)
alike_begins task (Switch core) is = absurd (cc is)
alike_begins task (Interrupt core note) is = absurd (cc is)
alike_begins task (QueueInterrupt core queue direction) is = absurd (cc is)
alike_begins task (ResumeInterrupt core other) is = absurd (cc is)
alike_begins task (Pass units) is = absurd (cc is)

-- the item is a call of the task in the document, before which so many come
record IsCallAt (document : List Step) (task count : ℕ) (item : Item) : Type 0 where
  pub front : List Step
  pub back : List Step
  pub event : Step
  pub parts : document ≡ front ++ event ∷ back
  pub anchor : item.anchor ≡ length front
  pub begins : begins_call task event ≡ true
  pub counts : count_by (begins_call task) front ≡ count

module _ (document : List Step) (task : ℕ) where
  item_at_call : (rest before : List Step) (count : ℕ) (item : Item) → document ≡ before ++ rest
      → slice_get (filter (λ (item : Item). begins_call task item.step) (items_from (length before) rest)) count ≡ Some item
      → IsCallAt document task (count_by (begins_call task) before + count) item
  item_at_call [] before count item parts is = absurd (cc is)
  item_at_call (step ∷ rest) before count item parts is =
      at (begins_call task step) refl count is (λ count is.
      item_at_call rest (before ++ step ∷ []) count item (parts ∙ sym (append_assoc before (step ∷ []) rest))
      (subst (λ index. slice_get (filter (λ (item : Item). begins_call task item.step) (items_from index rest)) count ≡ Some item) (sym one_more) is))
    where
      one_more : length (before ++ step ∷ []) ≡ suc (length before)
      one_more = let many : length (before ++ step ∷ []) ≡ length before + 1 = length-append before (step ∷ []) in omega (arith, many)

      others : List Item
      others = filter (λ (item : Item). begins_call task item.step) (items_from (suc (length before)) rest)

      at : (b : Bool) → begins_call task step ≡ b → (count : ℕ)
          → slice_get
          (cond b
          (record { step = step; anchor = length before; inserted = false; changes = [] }
          ∷ filter (λ (item : Item). begins_call task item.step) (items_from (suc (length before)) rest))
          (filter (λ (item : Item). begins_call task item.step) (items_from (suc (length before)) rest)))
          count ≡ Some item
          → ((count : ℕ)
          → slice_get (filter (λ (item : Item). begins_call task item.step) (items_from (suc (length before)) rest)) count ≡ Some item
          → IsCallAt document task (count_by (begins_call task) (before ++ step ∷ []) + count) item)
          → IsCallAt document task (count_by (begins_call task) before + count) item
      at true begins zero is later =
          let same : record { step = step; anchor = length before; inserted = false; changes = [] } ≡ item = cc is in
          record {
            front = before;
            back = rest;
            event = step;
            parts = parts;
            anchor = sym (ap (λ (item : Item). item.anchor) same);
            begins = begins;
            counts = omega arith;
          }
      at true begins (suc count) is later =
          let more : count_by (begins_call task) (before ++ step ∷ []) + count ≡ count_by (begins_call task) before + suc count
          = let sum = counted (begins_call task) before step ∙ ap (λ b. count_by (begins_call task) before + cond b 1 0) begins in omega (arith, sum) in
          subst (λ count. IsCallAt document task count item) more (later count is)
      at false other count is later =
          let same : count_by (begins_call task) (before ++ step ∷ []) + count ≡ count_by (begins_call task) before + count
          = let sum = counted (begins_call task) before step ∙ ap (λ b. count_by (begins_call task) before + cond b 1 0) other in omega (arith, sum) in
          subst (λ count. IsCallAt document task count item) same (later count is)

  -- there the settled run makes it
  call_place : (settled : List Step) (place : ℕ) (step : Step) (item : Item) → slice_get settled place ≡ Some step → begins_call task step ≡ true
      → IsCallAt document task (count_by (begins_call task) (take place settled)) item
      → settled_place document settled item.anchor ≡ place
  call_place settled place step item stands begins call =
      let alike = alike_begins task call.event call.begins in
      (λ i. settled_place (call.parts i) settled (call.anchor i))
      ∙ event_place call.front call.back settled call.event alike.0
      ∙ ap (λ test. slice_index_or (places_of test settled) (count_by test call.front) (length settled)) alike.1
      ∙ ap (λ count. slice_index_or (places_of (begins_call task) settled) count (length settled)) call.counts
      ∙ read_there (places_of (begins_call task) settled) (count_by (begins_call task) (take place settled)) place (length settled)
      (counted_place (begins_call task) settled place step stands begins)

-- ---- its answer

same_answer : (answer : Option Bool) → differ answer answer ≡ false
same_answer None = refl
same_answer (Some true) = refl
same_answer (Some false) = refl

no_other : (answer : Option Bool) → differ None answer ≡ false
no_other None = refl
no_other (Some answer) = refl

module _ (session : Session) (settled : List Step) where
  answered_so : (place task : ℕ) (step : Step) → slice_get settled place ≡ Some step → begins_call task step ≡ true
      → is_other_answer session [] settled settled task place ≡ false
  unfolding is_other_answer edited_items
  answered_so place task step stands begins = at (item_of (items_from 0 session.steps) settled task place) refl
    where
      at : (o : Option Item) → item_of (items_from 0 session.steps) settled task place ≡ o
          → differ (option_and_then (answer_before session settled task) o) (answer_of session.header settled task place) ≡ false
      at None none = no_other (answer_of session.header settled task place)
      at (Some item) some = which (was_call session.steps item)
        where
          none_before : 0 + count_by (begins_call task) (take place settled) ≡ count_by (begins_call task) (take place settled)
          none_before = omega arith

          there : settled_place session.steps settled item.anchor ≡ place
          there = call_place session.steps task settled place step item stands begins
              (subst (λ count. IsCallAt session.steps task count item) none_before
              (item_at_call session.steps task session.steps [] (count_by (begins_call task) (take place settled)) item refl some))

          which : (b : Bool)
              → differ (cond b (answer_of session.header settled task (settled_place session.steps settled item.anchor)) None)
              (answer_of session.header settled task place) ≡ false
          which true = ap (λ place_there. differ (answer_of session.header settled task place_there) (answer_of session.header settled task place)) there
              ∙ same_answer (answer_of session.header settled task place)
          which false = no_other (answer_of session.header settled task place)

  -- no call is answered otherwise
  pub no_answer : (place : ℕ) → option_and_then (answer_limit session [] settled settled place) (slice_get settled place) ≡ None
  no_answer place = at (slice_get settled place) refl
    where
      at : (o : Option Step) → slice_get settled place ≡ o → option_and_then (answer_limit session [] settled settled place) o ≡ None
      at None none = refl
      at (Some Tick) some = refl
      at (Some (Switch core)) some = refl
      at (Some (Interrupt core note)) some = refl
      at (Some (QueueInterrupt core queue direction)) some = refl
      at (Some (ResumeInterrupt core task)) some = refl
      at (Some (Pass units)) some = refl
      at (Some (steps.Call core task call)) some = which (is_finish call) refl
        where
          which : (f : Bool) → is_finish call ≡ f
              → cond (not f && is_other_answer session [] settled settled task place)
              (option_map (limit_behind task (is_affirmed session.header settled task place)) (answer_place session.header settled task place)) None
              ≡ None
          which true ends = refl
          which false begins =
              let own : eqb task task ≡ true = grind (arith, nat_tests) in
              ap
              (λ b. cond b
              (option_map (limit_behind task (is_affirmed session.header settled task place)) (answer_place session.header settled task place)) None)
              (answered_so place task (steps.Call core task call) some (λ i. own i && not (begins i)))
