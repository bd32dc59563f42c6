-- What a counter tells, one step further.
use Rattle.std.proofs.Common.{◌≡◌, ℕ, ◌+◌, ◌-◌, ◌≤◌, ◌<◌, max, Bool, true, false, ◌==◌, nat_lt, List, [], ◌∷◌, ◌++◌, length, get_or, length-append, Option, Some, None, refl, sym, ap, subst, ◌∙◌, arith, inl, inr}
use Rattle.std.specs.Prelude.{if◌then◌else◌, is_some}
use Rattle.std.specs.Option.{option_map_or, ForSome}
use Rattle.std.proofs.lemmas.Bool.{cases_lt}
use Rattle.std.proofs.lemmas.Bool.Decides.{nat_tests}
use Rattle.std.proofs.lemmas.List.{get_or_append_left, get_or-append-add}
use Rattle.bench_types.specs.declared.header.Header.{Header}
use Rattle.bench_types.specs.declared.reply.Reply.{Reply}
use Rattle.bench_types.specs.declared.step.Step.{Step}
use Rattle.bench_model.specs.Lists.{View, list_queues}
use Rattle.step_times.specs.Times.{time_of}
use Rattle.run_numbers.specs.declared.counter.Counter.{Counter}
use Rattle.run_numbers.specs.declared.counter.Since.{Since}
use Rattle.run_numbers.specs.declared.event.BeforeStep.{BeforeStep}
use Rattle.run_numbers.specs.declared.subject.Reading.{Reading}
use Rattle.run_numbers.specs.declared.subject.Subject.{Subject}
use Rattle.run_numbers.specs.declared.subject.Subject.TheVariants.{Time, Steps, TopPriority, MostMessages, NotMade, Job, Migrations, RanOut, Unfinished, MutexWait, Run}
use Rattle.run_numbers.specs.Conditions.{holds}
use Rattle.run_numbers.specs.Counted.{holds_of, IsOpen, Tells}
use Rattle.run_numbers.specs.Counters.{seen, since_now, time_since, took, with_stretch}
use Rattle.run_numbers.specs.Gauge.{Gauge}
use Rattle.run_numbers.specs.Gauges.{found, left, reading_after, spell_after, start_after}
use Rattle.run_numbers.specs.Past.{Past, past_after, places_after}
use Rattle.run_numbers.specs.SoFar.{gauge_at}

same_reading : {a a' b b' c c' : ℕ} → a ≡ a' → b ≡ b' → c ≡ c' →
    let reading : Reading = record { total = a; longest = b; from = c } in
    let reading' : Reading = record { total = a'; longest = b'; from = c' } in
    reading ≡ reading'
same_reading a b c = cc

pub for_none : {T : Type 0} (P : T → Type 0) → ForSome None P
for_none P x is = absurd (cc is)

pub for_some : {T : Type 0} (P : T → Type 0) (x : T) → P x → ForSome (Some x) P
for_some P x holding y is = let same : x ≡ y = cc is in subst P same holding

-- what the step finds is told, and where the condition fails there is no stretch
pub record IsFound (view : View) (so_far : Past) (subject : Subject) (gauge : Gauge) (counter : Counter) : Type 0 where
  pub tells : Tells view so_far subject gauge counter
  pub none : counter.since ≡ None → gauge.stretch ≡ 0

-- ---- what a step finds of a condition

module _ (place : ℕ) (so_far : Past) (reading : Reading) (gauge : Gauge) (since : Since) (opened : IsOpen so_far gauge since)
    (numbers : with_stretch reading so_far since ≡ gauge.reading) where
  total : gauge.reading.total ≡ reading.total + time_since so_far since
  total = sym (ap (λ (reading : Reading). reading.total) numbers)

  longest : gauge.reading.longest ≡ max reading.longest (time_since so_far since)
  longest = sym (ap (λ (reading : Reading). reading.longest) numbers)

  from : gauge.reading.from ≡ (if nat_lt reading.longest (time_since so_far since) then get_or so_far.places since.index 0 else reading.from)
  from = sym (ap (λ (reading : Reading). reading.from) numbers)

  -- the places with one more
  abbrev longer : List ℕ
  longer = so_far.places ++ place ∷ []

  -- the first place of the stretch, where some time passes at this one
  start_there : start_after place gauge ≡ get_or longer since.index 0
  start_there = elim (cases_lt 0 gauge.stretch) [
    | inl some ↦
        let full : (gauge.stretch == 0) ≡ false = grind (arith, nat_tests, some) in
        ap (λ b. if b then place else gauge.start) full ∙ opened.start some
        ∙ sym (get_or_append_left so_far.places (place ∷ []) 0 since.index (opened.some some))
    | inr past ↦
        let empty : gauge.stretch ≡ 0 = omega (arith, past) in
        let none : (gauge.stretch == 0) ≡ true = grind (arith, nat_tests, empty) in
        let last : since.index ≡ length so_far.places + 0 = omega (arith, opened.none empty) in
        ap (λ b. if b then place else gauge.start) none ∙ sym (get_or-append-add so_far.places (place ∷ []) 0 0)
        ∙ ap (λ k. get_or longer k 0) (sym last)
  ]

  -- a step that takes this time
  module _ (time : ℕ) where
    abbrev later : Past
    later = past_after time place so_far

    more : time_since later since ≡ time_since so_far since + time
    more = omega (arith, opened.order)

    -- where it takes some
    timed : (time == 0) ≡ false → later.places ≡ longer
    timed some = ap (λ b. if b then so_far.places else longer) some

    still : (time == 0) ≡ true → later.places ≡ so_far.places
    still none = ap (λ b. if b then so_far.places else longer) none

    -- where the stretch begins, if it has any time
    start_later : 0 < gauge.stretch + time → start_after place gauge ≡ get_or later.places since.index 0
    start_later some = at (time == 0) refl
      where
        at : (none : Bool) → (time == 0) ≡ none → start_after place gauge ≡ get_or later.places since.index 0
        at true none =
            let zero : time ≡ 0 = grind (arith, nat_tests, none) in
            let before : 0 < gauge.stretch = omega (arith, zero, some) in
            let full : (gauge.stretch == 0) ≡ false = grind (arith, nat_tests, before) in
            ap (λ b. if b then place else gauge.start) full ∙ opened.start before ∙ sym (ap (λ places. get_or places since.index 0) (still none))
        at false none = start_there ∙ sym (ap (λ places. get_or places since.index 0) (timed none))

    from_later : (if nat_lt reading.longest (time_since later since) then get_or later.places since.index 0 else reading.from)
        ≡ (if nat_lt gauge.reading.longest (gauge.stretch + time) then start_after place gauge else gauge.reading.from)
    from_later = elim (cases_lt reading.longest (time_since so_far since + time)) [
      | inl low ↦ elim (cases_lt (time_since so_far since) (time_since so_far since + time)) [
        | inl grows ↦ elim (cases_lt gauge.reading.longest (gauge.stretch + time)) [
          | inl longer_now ↦
              let here : nat_lt reading.longest (time_since later since) ≡ true = grind (arith, nat_tests, more, low) in
              let there : nat_lt gauge.reading.longest (gauge.stretch + time) ≡ true = grind (arith, nat_tests, longer_now) in
              ap (λ b. if b then get_or later.places since.index 0 else reading.from) here ∙ sym (start_later (omega (arith, longer_now)))
              ∙ sym (ap (λ b. if b then start_after place gauge else gauge.reading.from) there)
          | inr not_longer ↦ absurd (omega (arith, not_longer, longest, opened.stretch, low, grows))
        ]
        | inr same ↦
            let none : time ≡ 0 = omega (arith, same) in
            let tested : (time == 0) ≡ true = grind (arith, nat_tests, none) in
            let here : nat_lt reading.longest (time_since later since) ≡ true = grind (arith, nat_tests, more, low) in
            let before : nat_lt reading.longest (time_since so_far since) ≡ true = grind (arith, nat_tests, none, low) in
            let there : nat_lt gauge.reading.longest (gauge.stretch + time) ≡ false = grind (arith, nat_tests, none, longest, opened.stretch) in
            ap (λ b. if b then get_or later.places since.index 0 else reading.from) here ∙ ap (λ places. get_or places since.index 0) (still tested)
            ∙ sym (from ∙ ap (λ b. if b then get_or so_far.places since.index 0 else reading.from) before)
            ∙ sym (ap (λ b. if b then start_after place gauge else gauge.reading.from) there)
      ]
      | inr past ↦
          let here : nat_lt reading.longest (time_since later since) ≡ false = grind (arith, nat_tests, more, past) in
          let there : nat_lt gauge.reading.longest (gauge.stretch + time) ≡ false = grind (arith, nat_tests, opened.stretch, longest, past) in
          let before : nat_lt reading.longest (time_since so_far since) ≡ false = grind (arith, nat_tests, past) in
          ap (λ b. if b then get_or later.places since.index 0 else reading.from) here
          ∙ sym (from ∙ ap (λ b. if b then get_or so_far.places since.index 0 else reading.from) before)
          ∙ sym (ap (λ b. if b then start_after place gauge else gauge.reading.from) there)
    ]

    -- the numbers of a condition that holds
    found_numbers : with_stretch reading later since ≡ reading_after time place gauge
    found_numbers = same_reading (omega (arith, total, more)) (omega (arith, longest, more, opened.stretch)) from_later

    length_later : length so_far.places ≤ length later.places
    length_later = at (time == 0)
      where
        at : (none : Bool) → length so_far.places ≤ length (if none then so_far.places else longer)
        at true = omega arith
        at false = omega (arith, length-append so_far.places (place ∷ []))

    some_later : 0 < gauge.stretch + time → since.index < length later.places
    some_later some = at (time == 0) refl
      where
        at : (none : Bool) → (time == 0) ≡ none → since.index < length later.places
        at true none =
            let zero : time ≡ 0 = grind (arith, nat_tests, none) in
            omega (arith, opened.some (omega (arith, zero, some)), ap (λ (places : List ℕ). length places) (still none))
        at false none = elim (cases_lt 0 gauge.stretch) [
          | inl before ↦ omega (arith, opened.some before, length_later)
          | inr past ↦
              omega (
                arith,
                opened.none (omega (arith, past)),
                ap (λ (places : List ℕ). length places) (timed none),
                length-append so_far.places (place ∷ []),
              )
        ]

    none_later : gauge.stretch + time ≡ 0 → since.index ≡ length later.places
    none_later none =
        let zero : time ≡ 0 = omega (arith, none) in
        let tested : (time == 0) ≡ true = grind (arith, nat_tests, zero) in
        opened.none (omega (arith, none)) ∙ sym (ap (λ (places : List ℕ). length places) (still tested))

    found_open : IsOpen later (spell_after true time place gauge) since
    found_open = record {
      order = omega (arith, opened.order);
      stretch = omega (arith, more, opened.stretch);
      none = none_later;
      some = some_later;
      start = start_later;
    }

module _ (view : View) (step : Step) (place : ℕ) (so_far : Past) where
  abbrev time_here : ℕ
  time_here = time_of view.settings.units step

  condition_found : (b : Bool) (reading : Reading) (since : Option Since) (gauge : Gauge) (subject : Subject) → holds_of view subject ≡ b
      → Tells view so_far subject gauge (record { reading = reading; since = since })
      → IsFound view (past_after time_here place so_far) subject (spell_after b time_here place gauge) (record { reading = reading; since = since })
  condition_found true reading None gauge subject is tells = absurd (cc (is, tells.opened))
  condition_found false reading None gauge subject is tells = record {
    tells = record { numbers = tells.numbers; opened = tells.opened; since = for_none _ };
    none = λ _. refl;
  }
  condition_found false reading (Some since) gauge subject is tells = absurd (cc (is, tells.opened))
  condition_found true reading (Some since) gauge subject is tells = record {
    tells = record {
      numbers = found_numbers place so_far reading gauge since (tells.since since refl) tells.numbers time_here;
      opened = tells.opened;
      since = for_some _ since (found_open place so_far reading gauge since (tells.since since refl) tells.numbers time_here);
    };
    none = λ none. absurd (cc none);
  }

  other_found : (reading : Reading) (since : Option Since) (gauge : Gauge) (subject : Subject) → holds_of view subject ≡ false → gauge.stretch ≡ 0
      → Tells view so_far subject gauge (record { reading = reading; since = since })
      → IsFound view (past_after time_here place so_far) subject gauge (record { reading = reading; since = since })
  other_found reading None gauge subject is none tells = record {
    tells = record { numbers = tells.numbers; opened = tells.opened; since = for_none _ };
    none = λ _. none;
  }
  other_found reading (Some since) gauge subject is none tells = absurd (cc (is, tells.opened))

  -- what the step finds is told
  pub is_found : (header : Header) (steps : List Step) (subject : Subject) (counter : Counter)
      → Tells view so_far subject (gauge_at header steps place subject) counter
      → IsFound view (past_after time_here place so_far) subject (found view step place subject (gauge_at header steps place subject)) counter
  is_found header steps (Time condition) counter tells =
      condition_found (holds list_queues condition view) counter.reading counter.since (gauge_at header steps place (Time condition)) (Time condition) refl
      tells
  is_found header steps (Steps event) counter tells =
      other_found counter.reading counter.since (gauge_at header steps place (Steps event)) (Steps event) refl refl tells
  is_found header steps (TopPriority task) counter tells =
      other_found counter.reading counter.since (gauge_at header steps place (TopPriority task)) (TopPriority task) refl refl tells
  is_found header steps (MostMessages queue) counter tells =
      other_found counter.reading counter.since (gauge_at header steps place (MostMessages queue)) (MostMessages queue) refl refl tells
  is_found header steps (NotMade task) counter tells =
      other_found counter.reading counter.since (gauge_at header steps place (NotMade task)) (NotMade task) refl refl tells
  is_found header steps (Job task number) counter tells =
      other_found counter.reading counter.since (gauge_at header steps place (Job task number)) (Job task number) refl refl tells
  is_found header steps (Migrations task) counter tells =
      other_found counter.reading counter.since (gauge_at header steps place (Migrations task)) (Migrations task) refl refl tells
  is_found header steps (RanOut task) counter tells =
      other_found counter.reading counter.since (gauge_at header steps place (RanOut task)) (RanOut task) refl refl tells
  is_found header steps (Unfinished task) counter tells =
      other_found counter.reading counter.since (gauge_at header steps place (Unfinished task)) (Unfinished task) refl refl tells
  is_found header steps (MutexWait mutex) counter tells =
      other_found counter.reading counter.since (gauge_at header steps place (MutexWait mutex)) (MutexWait mutex) refl refl tells
  is_found header steps (Run number) counter tells =
      other_found counter.reading counter.since (gauge_at header steps place (Run number)) (Run number) refl refl tells

-- ---- what is seen after it

module _ (after : View) (so_far : Past) (gauge : Gauge) where
  seen_at : (subject : Subject) (h : Bool) (reading : Reading) (since : Option Since) → holds_of after subject ≡ h
      → option_map_or (with_stretch reading so_far) since reading ≡ gauge.reading → ForSome since (IsOpen so_far gauge) → (since ≡ None → gauge.stretch ≡ 0)
      → Tells after so_far subject gauge (seen h so_far (record { reading = reading; since = since }))
  seen_at subject true reading None is numbers opened none = record {
    numbers =
        let fails : nat_lt reading.longest (so_far.elapsed - so_far.elapsed) ≡ false = grind (arith, nat_tests) in
        same_reading (omega arith) (omega arith) (ap (λ b. if b then get_or so_far.places (length so_far.places) 0 else reading.from) fails) ∙ numbers;
    opened = sym is;
    since = for_some _ (since_now so_far) (record {
      order = omega arith;
      stretch = omega (arith, none refl);
      none = λ empty. refl;
      some = λ some. absurd (omega (arith, none refl, some));
      start = λ some. absurd (omega (arith, none refl, some));
    });
  }
  seen_at subject true reading (Some since) is numbers opened none = record { numbers = numbers; opened = sym is; since = opened }
  seen_at subject false reading since is numbers opened none = record { numbers = numbers; opened = sym is; since = for_none _ }

-- one without a condition
module _ (view after : View) (so_far : Past) (subject : Subject) (gauge : Gauge) (fails : holds_of after subject ≡ false) (n m : ℕ) where
  total_at : (reading : Reading) (since : Option Since) → is_some since ≡ false → option_map_or (with_stretch reading so_far) since reading ≡ gauge.reading
      → ((reading.total ≡ gauge.reading.total) → n ≡ m)
      → Tells after so_far subject (record gauge { reading = record gauge.reading { total = m } })
      (record { reading = record reading { total = n }; since = since })
  total_at reading None is numbers same =
      let both : n ≡ m = same (ap (λ (reading : Reading). reading.total) numbers) in
      record {
        numbers = same_reading both (ap (λ (reading : Reading). reading.longest) numbers) (ap (λ (reading : Reading). reading.from) numbers);
        opened = sym fails;
        since = for_none _;
      }
  total_at reading (Some since) is numbers same = absurd (cc is)

module _ (before : BeforeStep) (step : Step) (reply : Reply) (view after : View) (so_far : Past) where
  -- what the step was, and what holds after it, is told
  pub is_taken : (subject : Subject) (gauge : Gauge) (counter : Counter) → IsFound view so_far subject gauge counter
      → Tells after so_far subject (left before step reply after subject gauge) (took before step reply after so_far subject counter)
  is_taken (Time condition) gauge counter it =
      seen_at after so_far gauge (Time condition) (holds list_queues condition after) counter.reading counter.since refl it.tells.numbers it.tells.since it.none
  is_taken (Steps event) gauge counter it =
      total_at view after so_far (Steps event) gauge refl _ _ counter.reading counter.since it.tells.opened it.tells.numbers (λ same. cc same)
  is_taken (TopPriority task) gauge counter it =
      total_at view after so_far (TopPriority task) gauge refl _ _ counter.reading counter.since it.tells.opened it.tells.numbers (λ same. cc same)
  is_taken (MostMessages queue) gauge counter it =
      total_at view after so_far (MostMessages queue) gauge refl _ _ counter.reading counter.since it.tells.opened it.tells.numbers (λ same. cc same)
  is_taken (NotMade task) gauge counter it =
      total_at view after so_far (NotMade task) gauge refl _ _ counter.reading counter.since it.tells.opened it.tells.numbers (λ same. same)
  is_taken (Job task number) gauge counter it =
      total_at view after so_far (Job task number) gauge refl _ _ counter.reading counter.since it.tells.opened it.tells.numbers (λ same. same)
  is_taken (Migrations task) gauge counter it =
      total_at view after so_far (Migrations task) gauge refl _ _ counter.reading counter.since it.tells.opened it.tells.numbers (λ same. same)
  is_taken (RanOut task) gauge counter it =
      total_at view after so_far (RanOut task) gauge refl _ _ counter.reading counter.since it.tells.opened it.tells.numbers (λ same. same)
  is_taken (Unfinished task) gauge counter it =
      total_at view after so_far (Unfinished task) gauge refl _ _ counter.reading counter.since it.tells.opened it.tells.numbers (λ same. same)
  is_taken (MutexWait mutex) gauge counter it =
      total_at view after so_far (MutexWait mutex) gauge refl _ _ counter.reading counter.since it.tells.opened it.tells.numbers (λ same. same)
  is_taken (Run number) gauge counter it =
      total_at view after so_far (Run number) gauge refl _ _ counter.reading counter.since it.tells.opened it.tells.numbers (λ same. same)
