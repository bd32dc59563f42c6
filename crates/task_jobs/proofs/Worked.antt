-- The work of a task, one place further.
use Rattle.std.proofs.Common.{◌≡◌, ℕ, zero, suc, ◌+◌, ◌-◌, ◌<◌, ◌≤◌, Bool, true, false, not, ◌&&◌, ◌||◌, ◌==◌, nat_lt, List, [], ◌∷◌, ◌++◌, length, map, Option, Some, None, refl, sym, ap, ap₂, subst, ◌∙◌, arith, add-one}
use Rattle.std.specs.Prelude.{count_by, find, filter, is_some, option_map, unwrap_or, if◌then◌else◌}
use Rattle.std.specs.List.{range_with_len}
use Rattle.std.specs.Option.{option_map_or, option_or}
use Rattle.std.proofs.lemmas.Bool.Decides.{nat_tests}
use Rattle.std.proofs.lemmas.List.{length-map, map-append}
use Rattle.std.proofs.lemmas.List.Folds.{find-append}
use Rattle.std.proofs.lemmas.List.Filters.{length-filter_both}
use Rattle.std.proofs.lemmas.List.FromFn.{length-range_with_len}
use Rattle.std.proofs.lemmas.List.Sums.{count_by-le-length, sum_by_push}
use Rattle.list_orders.specs.Search.{numbers}
use Rattle.list_orders.proofs.Stamped.{numbers_more, range_parts}
use Rattle.bench_model.specs.Tallied.{one_if}
use Rattle.task_jobs.specs.declared.durations.Durations.{Durations}
use Rattle.task_jobs.specs.declared.histogram.Histogram.{Histogram}
use Rattle.task_jobs.specs.declared.moves.Moves.{Moves}
use Rattle.task_jobs.specs.declared.waits.Waits.{Waits}
use Rattle.task_jobs.specs.declared.work.Turn.{Turn}
use Rattle.task_jobs.specs.declared.work.Work.{Work}
use Rattle.task_jobs.specs.Course.{Course}
use Rattle.task_jobs.specs.Durations.{durations_of, with_thing, Thing}
use Rattle.task_jobs.specs.Histograms.{histogram_of, with_time}
use Rattle.task_jobs.specs.Jobs.{begin_at, begins_at, core_from, ends_before, is_job_end, is_next_wake, latencies, latency_at, period_at, periods, response_at, responses}
use Rattle.task_jobs.specs.Moves.{is_other, last_core, moves_at as is_move, moves}
use Rattle.task_jobs.specs.Waits.{is_by_tick, runs_out_at, run_outs}
use Rattle.task_jobs.specs.Works.{begins_job, ends_job, first_of, first_work, is_by_tick_now, latency_now, moves_at, now_on_core, period_now, response_now, turn_at, waits_at, wake_at}
use Rattle.task_jobs.specs.Works.{with_core, with_turn, with_wake, work_at, IsQuiet, WorkBegins, WorkGoesOn, WorkIsCounted, WorkIsTold, WorkStays}
use Rattle.task_jobs.proofs.Lists.{filter_more}
use Rattle.task_jobs.proofs.Histograms.{counts_few, histogram_more}
use Rattle.task_jobs.proofs.Things.{one_more}

same_work : {a a' i i' : Bool} {b b' c c' d d' : ℕ} {e e' t t' : Option ℕ} {f f' g g' h h' : Durations} {l l' : Histogram} {m m' : Moves} {w w' : Waits} → a ≡ a' → b ≡ b' →
    c ≡ c' → d ≡ d' → e ≡ e' → f ≡ f' → g ≡ g' → h ≡ h' → l ≡ l' → m ≡ m' → w ≡ w' → i ≡ i' → t ≡ t' →
    let one : Work = record {
      rests = a;
      begins = b;
      release = c;
      begun = d;
      started = e;
      responses = f;
      latencies = g;
      periods = h;
      histogram = l;
      moves = m;
      waits = w;
      in_call = i;
      takes = t;
    } in
    let other : Work = record {
      rests = a';
      begins = b';
      release = c';
      begun = d';
      started = e';
      responses = f';
      latencies = g';
      periods = h';
      histogram = l';
      moves = m';
      waits = w';
      in_call = i';
      takes = t';
    } in
    one ≡ other
same_work a b c d e f g h l m w i t = cc

same_moves : {a a' : Option ℕ} {b b' : ℕ} → a ≡ a' → b ≡ b' →
    let one : Moves = record { core = a; count = b } in
    let other : Moves = record { core = a'; count = b' } in
    one ≡ other
same_moves a b = cc

same_waits : {a a' b b' : Bool} {c c' : ℕ} → a ≡ a' → b ≡ b' → c ≡ c' →
    let one : Waits = record { ready = a; by_tick = b; run_out = c } in
    let other : Waits = record { ready = a'; by_tick = b'; run_out = c' } in
    one ≡ other
same_waits a b c = cc

-- how many of the first pass, with one more
pub count_more : (p : ℕ → Bool) (n : ℕ) → count_by p (numbers (suc n)) ≡ count_by p (numbers n) + one_if (p n)
count_more p n =
    ap (λ k. count_by p (numbers k)) (sym (add-one n)) ∙ ap (count_by p) (numbers_more n) ∙ sum_by_push (λ k. one_if (p k)) (numbers n) n

pub count_few : (p : ℕ → Bool) (n : ℕ) → count_by p (numbers n) ≤ n
count_few p n = omega (arith, count_by-le-length p (numbers n), length-range_with_len 0 n)

-- of the chosen one
chosen : {X Y : Type 0} (f : X → Y) (b : Bool) (x y : X) → f (if b then x else y) ≡ (if b then f x else f y)
chosen f true x y = refl
chosen f false x y = refl

append_none : (things : List Thing) → things ++ [] ≡ things
append_none [] = refl
append_none (thing ∷ things) = ap (λ rest. thing ∷ rest) (append_none things)

-- what is known of things with the one more, where it counts
with_more : {X : Type 0} (known : List Thing → X) (next : Thing → X → X) → ((things : List Thing) (thing : Thing) → known (things ++ thing ∷ []) ≡ next thing (known things))
    → (of : ℕ → Thing) (counts : ℕ → Bool) (place : ℕ) → known (map of (filter counts (numbers (suc place))))
    ≡ (if counts place then next (of place) (known (map of (filter counts (numbers place)))) else known (map of (filter counts (numbers place))))
with_more known next more of counts place =
    ap (λ ns. known (map of ns)) (filter_more counts place)
    ∙ ap known (map-append of (filter counts (numbers place)) (if counts place then place ∷ [] else []))
    ∙ at (counts place)
  where
    at : (b : Bool) → known (map of (filter counts (numbers place)) ++ map of (if b then place ∷ [] else []))
        ≡ (if b then next (of place) (known (map of (filter counts (numbers place)))) else known (map of (filter counts (numbers place))))
    at true = more (map of (filter counts (numbers place))) (of place)
    at false = ap known (append_none (map of (filter counts (numbers place))))

abbrev has_core : Course → ℕ → Bool
has_core course k = is_some (course.core k)

module _ (course : Course) where
  begin_below : (place : ℕ) → begin_at course place ≤ place
  begin_below zero = omega arith
  begin_below (suc place) = at (begins_at course (suc place)) (begin_at course place) (begin_below place)
    where
      at : (b : Bool) (before : ℕ) → before ≤ place → (if b then suc place else before) ≤ suc place
      at true before low = omega arith
      at false before low = omega (arith, low)

  only_here : (place : ℕ) → find (has_core course) (range_with_len (suc place) (suc (suc place) - suc place))
      ≡ (if is_some (course.core (suc place)) then Some (suc place) else None)
  only_here place =
      let one : suc (suc place) - suc place ≡ 1 = omega arith in
      ap (λ n. find (has_core course) (range_with_len (suc place) n)) one ∙ at (is_some (course.core (suc place))) refl
    where
      at : (b : Bool) → is_some (course.core (suc place)) ≡ b → find (has_core course) (suc place ∷ []) ≡ (if b then Some (suc place) else None)
      at true is = rw is refl
      at false is = rw is refl

  one_longer : (from place : ℕ) → from ≤ place → find (has_core course) (range_with_len from (suc (suc place) - from))
      ≡ option_or (find (has_core course) (range_with_len from (suc place - from))) (if is_some (course.core (suc place)) then Some (suc place) else None)
  one_longer from place low =
      let length_is : suc (suc place) - from ≡ (suc place - from) + 1 = omega (arith, low) in
      let last : from + (suc place - from) ≡ suc place = omega (arith, low) in
      ap (λ n. find (has_core course) (range_with_len from n)) length_is
      ∙ ap (find (has_core course)) (range_parts from (suc place - from) 1)
      ∙ find-append (has_core course) (range_with_len from (suc place - from)) (range_with_len (from + (suc place - from)) 1)
      ∙ ap (λ k. option_or (find (has_core course) (range_with_len from (suc place - from))) (find (has_core course) (k ∷ []))) last
      ∙ ap (option_or (find (has_core course) (range_with_len from (suc place - from)))) (at (is_some (course.core (suc place))) refl)
    where
      at : (b : Bool) → is_some (course.core (suc place)) ≡ b → find (has_core course) (suc place ∷ []) ≡ (if b then Some (suc place) else None)
      at true is = rw is refl
      at false is = rw is refl

  -- the first place with a core
  core_next : (place : ℕ) → core_from course (suc place)
      ≡ (if begins_at course (suc place) then (if is_some (course.core (suc place)) then Some (suc place) else None)
      else option_or (core_from course place) (if is_some (course.core (suc place)) then Some (suc place) else None))
  core_next place = at (begins_at course (suc place))
    where
      at : (b : Bool) → find (has_core course) (range_with_len (if b then suc place else begin_at course place) (suc (suc place) - (if b then suc place else begin_at course place)))
          ≡ (if b then (if is_some (course.core (suc place)) then Some (suc place) else None)
          else option_or (core_from course place) (if is_some (course.core (suc place)) then Some (suc place) else None))
      at true = only_here place
      at false = one_longer (begin_at course place) place (begin_below place)

  timed_or : (found other : Option ℕ) → option_map course.time (option_or found other) ≡ option_or (option_map course.time found) (option_map course.time other)
  timed_or None other = refl
  timed_or (Some place) other = refl

  started_next : (place : ℕ) → option_map course.time (core_from course (suc place))
      ≡ (if begins_at course (suc place) then now_on_core (turn_at course place)
      else option_or (option_map course.time (core_from course place)) (now_on_core (turn_at course place)))
  started_next place =
      ap (option_map course.time) (core_next place)
      ∙ chosen (option_map course.time) (begins_at course (suc place)) (if is_some (course.core (suc place)) then Some (suc place) else None)
      (option_or (core_from course place) (if is_some (course.core (suc place)) then Some (suc place) else None))
      ∙ ap (λ other. if begins_at course (suc place) then option_map course.time (if is_some (course.core (suc place)) then Some (suc place) else None) else other)
      (timed_or (core_from course place) (if is_some (course.core (suc place)) then Some (suc place) else None))
      ∙ ap (λ now. if begins_at course (suc place) then now else option_or (option_map course.time (core_from course place)) now)
      (chosen (option_map course.time) (is_some (course.core (suc place))) (Some (suc place)) None)

  -- the wait for a core
  waited : (found : Option ℕ) (now : ℕ) → option_map_or course.time found now ≡ unwrap_or (option_map course.time found) now
  waited None now = refl
  waited (Some place) now = refl

  latency_next : (place : ℕ) → latency_at course place
      ≡ (unwrap_or (option_map course.time (core_from course place)) (course.time place) - course.time (begin_at course place), begin_at course place)
  latency_next place = ap (λ (from : ℕ). (from - course.time (begin_at course place), begin_at course place)) (waited (core_from course place) (course.time place))

  goes_on : (place : ℕ) → work_at course (suc place) ≡ with_turn (turn_at course place) (work_at course place)
  goes_on place =
      let begins = begins_at course (suc place) in
      same_work refl refl (chosen course.release begins (suc place) (begin_at course place))
      (chosen course.time begins (suc place) (begin_at course place))
      (started_next place)
      (with_more durations_of with_thing one_more (response_at course) (is_job_end course) place)
      (with_more durations_of with_thing one_more (latency_at course) (is_job_end course) place
      ∙ ap (λ (thing : Thing). if is_job_end course place then with_thing thing (durations_of (latencies course place)) else durations_of (latencies course place))
      (latency_next place))
      (with_more durations_of with_thing one_more (period_at course) (is_next_wake course) place)
      (with_more histogram_of (λ thing. with_time thing.0) histogram_more (response_at course) (is_job_end course) place)
      (same_moves refl (count_more (is_move course) place))
      (same_waits refl refl (count_more (runs_out_at course) place))
      refl refl

  -- ---- where nothing happens

  kept_core : (place core : ℕ) → course.core place ≡ Some core → last_core course place ≡ Some core
  kept_core zero core has = has
  kept_core (suc place) core has = ap (λ found. option_or found (last_core course place)) has

  or_none : {X : Type 0} (found : Option X) → option_or found None ≡ found
  or_none None = refl
  or_none (Some x) = refl

  -- a task that has a core has had one since its last begin
  found_last : (xs : List ℕ) (p : ℕ → Bool) (x : ℕ) → p x ≡ true → (found : ℕ) × (option_or (find p xs) (find p (x ∷ [])) ≡ Some found)
  found_last xs p x passes = at (find p xs)
    where
      here : find p (x ∷ []) ≡ Some x
      here = ap (λ b. if b then Some x else None) passes

      at : (first : Option ℕ) → (found : ℕ) × (option_or first (find p (x ∷ [])) ≡ Some found)
      at None = (x, here)
      at (Some found) = (found, refl)

  has_started : (place core : ℕ) → course.core place ≡ Some core → (from : ℕ) × (core_from course place ≡ Some from)
  has_started place core has =
      let from = begin_at course place in
      let low = begin_below place in
      let found = found_last (range_with_len from (place - from)) (has_core course) place (ap is_some has) in
      let length_is : suc place - from ≡ (place - from) + 1 = omega (arith, low) in
      let last : from + (place - from) ≡ place = omega (arith, low) in (
        found.0,
        ap (λ n. find (has_core course) (range_with_len from n)) length_is
            ∙ ap (find (has_core course)) (range_parts from (place - from) 1)
            ∙ find-append (has_core course) (range_with_len from (place - from)) (range_with_len (from + (place - from)) 1)
            ∙ ap (λ k. option_or (find (has_core course) (range_with_len from (place - from))) (find (has_core course) (k ∷ []))) last ∙ found.1,
      )

  no_change : (r r' a : Bool) → r' ≡ r → a ≡ false → (not r' && (r || a)) ≡ false
  no_change true r' a same none = rw same refl
  no_change false r' a same none = rw same (rw none refl)

  no_end : (r r' a k : Bool) → r' ≡ r → a ≡ false → ((not r && (r' || a)) && not k) ≡ false
  no_end true r' a k same none = refl
  no_end false r' a k same none = rw same (rw none refl)

  no_wake : (r r' : Bool) → r' ≡ r → (not r && r') ≡ false
  no_wake true r' same = refl
  no_wake false r' same = same

  module _ (place : ℕ) (quiet : IsQuiet course place) where
    begins_none : begins_job (turn_at course place) (work_at course place) ≡ false
    begins_none = no_change (course.rests place) (course.rests (suc place)) (course.asks place) quiet.rests quiet.asks

    ends_none : ends_job (turn_at course place) (work_at course place) ≡ false
    ends_none = no_end (course.rests place) (course.rests (suc place)) (course.asks place) (course.retakes place) quiet.rests quiet.asks

    started_same : option_or (work_at course place).started (now_on_core (turn_at course place)) ≡ (work_at course place).started
    started_same =
        ap (λ core. option_or (work_at course place).started (if is_some core then Some (course.time (suc place)) else None)) quiet.core
        ∙ at (course.core place) refl
      where
        at : (core : Option ℕ) → course.core place ≡ core →
            option_or (option_map course.time (core_from course place)) (if is_some core then Some (course.time (suc place)) else None)
            ≡ option_map course.time (core_from course place)
        at None is = or_none (option_map course.time (core_from course place))
        at (Some core) is =
            let from = has_started place core is in
            ap (λ found. option_or (option_map course.time found) (Some (course.time (suc place)))) from.1 ∙ sym (ap (option_map course.time) from.1)

    moves_same : with_core (course.core (suc place)) (moves_at course place) ≡ moves_at course place
    moves_same = ap (λ core. with_core core (moves_at course place)) quiet.core ∙ at (course.core place) refl
      where
        at : (core : Option ℕ) → course.core place ≡ core → with_core core (moves_at course place) ≡ moves_at course place
        at None is = same_moves refl (omega arith)
        at (Some core) is =
            let kept = kept_core place core is in
            let same : (core == core) ≡ true = grind (arith, nat_tests) in
            same_moves (sym kept)
            (ap (λ last. moves course place + one_if (is_other last (Some core))) kept ∙ ap (λ b. moves course place + one_if (not b)) same ∙ omega arith)

    waits_same : with_wake (wake_at course place) (waits_at course place) ≡ waits_at course place
    waits_same =
        same_waits quiet.ready
        (ap (λ b. if b then course.ticks place else is_by_tick course place)
        (no_wake (course.ready place) (course.ready (suc place)) quiet.ready))
        (ap (λ b. run_outs course place + one_if (b && is_by_tick course place)) quiet.in_vain ∙ omega arith)

    stays : with_turn (turn_at course place) (work_at course place) ≡ work_at course place
    stays =
        let work = work_at course place in
        let turn = turn_at course place in
        same_work quiet.rests (ap (λ b. if b then suc place else work.begins) begins_none)
        (ap (λ b. if b then turn.release else work.release) begins_none)
        (ap (λ b. if b then turn.after else work.begun) begins_none)
        (ap (λ b. if b then now_on_core turn else option_or work.started (now_on_core turn)) begins_none ∙ started_same)
        (ap (λ b. if b then with_thing (turn.before - work.release, work.begins) work.responses else work.responses) ends_none)
        (ap (λ b. if b then with_thing (unwrap_or work.started turn.before - work.begun, work.begins) work.latencies else work.latencies) ends_none)
        (ap (λ b. if b && nat_lt 0 work.begins then with_thing (turn.after - work.begun, work.begins) work.periods else work.periods) begins_none)
        (ap (λ b. if b then with_time (turn.before - work.release) work.histogram else work.histogram) ends_none)
        moves_same waits_same quiet.in_call quiet.takes

pub work_stays : WorkStays
work_stays course place quiet = goes_on course place ∙ stays course place quiet

pub work_goes_on : WorkGoesOn
work_goes_on course place = goes_on course place

pub work_begins : WorkBegins
work_begins course time release =
    same_work refl refl release time (begun (is_some (course.core 0)) refl) refl refl refl refl refl refl refl refl
  where
    begun : (b : Bool) → is_some (course.core 0) ≡ b → option_map course.time (find (has_core course) (0 ∷ [])) ≡ (if b then Some 0 else None)
    begun true is = rw is (ap Some time)
    begun false is = rw is refl

-- the times of all jobs
told_with : (rests : Bool) (things : List Thing) (thing : Thing) → (if rests then durations_of things else with_thing thing (durations_of things))
    ≡ durations_of (things ++ (if rests then [] else thing ∷ []))
told_with true things thing = sym (ap durations_of (append_none things))
told_with false things thing = sym (one_more things thing)

pub work_is_told : WorkIsTold
work_is_told = record {
  responses = λ course place. told_with (course.rests place) (responses course place) (response_at course place);
  latencies = λ course place.
      ap (λ (thing : Thing). if course.rests place then durations_of (latencies course place) else with_thing thing (durations_of (latencies course place)))
      (sym (latency_next course place))
      ∙ told_with (course.rests place) (latencies course place) (latency_at course place);
}

few_kept : (counts : ℕ → Bool) (place : ℕ) → length (filter counts (numbers place)) ≤ place
few_kept counts place =
    omega (arith, length-filter_both counts (λ k. not (counts k)) (λ k. refl) (numbers place), length-range_with_len 0 place)

few_of : (of : ℕ → Thing) (counts : ℕ → Bool) (place : ℕ) → length (map of (filter counts (numbers place))) ≤ place
few_of of counts place = omega (arith, length-map (filter counts (numbers place)) of, few_kept counts place)

pub work_is_counted : WorkIsCounted
work_is_counted = record {
  responses = λ course place. few_of (response_at course) (is_job_end course) place;
  latencies = λ course place. few_of (latency_at course) (is_job_end course) place;
  periods = λ course place. few_of (period_at course) (is_next_wake course) place;
  histogram = λ course place. counts_few (responses course place) place (few_of (response_at course) (is_job_end course) place);
  moves = λ course place. count_few (is_move course) place;
  waits = λ course place. count_few (runs_out_at course) place;
}
