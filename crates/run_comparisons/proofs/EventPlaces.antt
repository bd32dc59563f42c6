-- Where the events of a session stand in a run of it.
use Rattle.std.proofs.Common.{◌≡◌, ℕ, zero, suc, ◌+◌, ◌≤◌, ◌<◌, Bool, true, false, cond, List, [], ◌∷◌, ◌++◌, length, take, get_or, map, filter, Some, refl, ap}
use Rattle.std.proofs.Common.{◌∙◌, arith, inl, inr}
use Rattle.std.specs.Prelude.{slice_get}
use Rattle.std.specs.List.{range_with_len}
use Rattle.std.proofs.lemmas.Bool.{cases_lt}
use Rattle.std.proofs.lemmas.Option.{get_or_from_slice_get, slice_get_within}
use Rattle.bench_types.specs.declared.step.Step.{Step}
use Rattle.run_comparisons.specs.PairLaws.{StandsAs}
use Rattle.run_comparisons.specs.Shared.{event_places, events_before, place_in, places_in, AreEventsOf}

-- an item of the first list stands at its place in both, one behind the other
in_front : {X : Type 0} (xs ys : List X) (k : ℕ) (x : X) → slice_get xs k ≡ Some x → slice_get (xs ++ ys) k ≡ Some x
in_front [] ys k x found = absurd (cc found)
in_front (one ∷ xs) ys zero x found = found
in_front (one ∷ xs) ys (suc k) x found = in_front xs ys k x found

-- the event of a number, by its place in the run, where the first step has a place
record IsNumbered (test : Step → Bool) (run : List Step) (first number : ℕ) (event : Step) : Type 0 where
  pub place : ℕ
  pub listed : slice_get (event_places test first run) number ≡ Some (first + place)
  pub stands : slice_get run place ≡ Some event
  pub as_many : events_before test run place ≡ number

module _ (test : Step → Bool) where
  -- ---- how many come before a place

  -- one more behind a tick or an interrupt
  pub one_more : (steps : List Step) (place : ℕ) (event : Step) → slice_get steps place ≡ Some event → test event ≡ true → events_before test steps
      (suc place) ≡ suc (events_before test steps place)
  one_more [] place event found is = absurd (cc found)
  one_more (step ∷ steps) zero event found is =
      let same : step ≡ event = cc found in
      ap (λ (one : Step). length (cond (test one) (one ∷ []) [])) same ∙ ap (λ (b : Bool). length (cond b (event ∷ []) [])) is
  one_more (step ∷ steps) (suc place) event found is = at (test step) (one_more steps place event found is)
    where
      at : (b : Bool) → events_before test steps (suc place) ≡ suc (events_before test steps place) → length
          (cond b (step ∷ filter test (take (suc place) steps)) (filter test (take (suc place) steps))) ≡ suc
          (length (cond b (step ∷ filter test (take place steps)) (filter test (take place steps))))
      at true more = ap suc more
      at false more = more

  -- no fewer behind a later place
  pub no_fewer : (steps : List Step) (i j : ℕ) → i ≤ j → events_before test steps i ≤ events_before test steps j
  no_fewer [] zero zero order = omega arith
  no_fewer [] zero (suc j) order = omega arith
  no_fewer [] (suc i) zero order = omega arith
  no_fewer [] (suc i) (suc j) order = omega arith
  no_fewer (step ∷ steps) zero j order = omega arith
  no_fewer (step ∷ steps) (suc i) zero order = absurd (omega (arith, order))
  no_fewer (step ∷ steps) (suc i) (suc j) order = at (test step) (no_fewer steps i j (omega (arith, order)))
    where
      at : (b : Bool) → events_before test steps i ≤ events_before test steps j → length
          (cond b (step ∷ filter test (take i steps)) (filter test (take i steps))) ≤ length
          (cond b (step ∷ filter test (take j steps)) (filter test (take j steps)))
      at true rest = omega (arith, rest)
      at false rest = rest

  -- ---- the event that has a number

  -- the event at a place has the number of those before it
  numbered : (steps : List Step) (place : ℕ) (event : Step) → slice_get steps place ≡ Some event → test event ≡ true → slice_get
      (filter test steps) (events_before test steps place) ≡ Some event
  numbered [] place event found is = absurd (cc found)
  numbered (step ∷ steps) zero event found is =
      let same : step ≡ event = cc found in
      ap (λ (one : Step). slice_get (cond (test one) (one ∷ filter test steps) (filter test steps)) 0) same
      ∙ ap (λ (b : Bool). slice_get (cond b (event ∷ filter test steps) (filter test steps)) 0) is
  numbered (step ∷ steps) (suc place) event found is = at (test step) (numbered steps place event found is)
    where
      at : (b : Bool) → slice_get (filter test steps) (events_before test steps place) ≡ Some event → slice_get
          (cond b (step ∷ filter test steps) (filter test steps))
          (length (cond b (step ∷ filter test (take place steps)) (filter test (take place steps)))) ≡ Some event
      at true rest = rest
      at false rest = rest

  event_numbered : (run : List Step) (first number : ℕ) (event : Step) → slice_get (filter test run) number ≡ Some event → IsNumbered test run first
      number event
  event_numbered [] first number event found = absurd (cc found)
  event_numbered (step ∷ run) first number event found = at (event_numbered run (suc first)) (test step) refl number found
    where
      shifted : (place : ℕ) → suc first + place ≡ first + suc place
      shifted place = omega arith

      at : ((k : ℕ) (one : Step) → slice_get (filter test run) k ≡ Some one → IsNumbered test run (suc first) k one) → (b : Bool) → test
          step ≡ b → (k : ℕ) → slice_get (cond b (step ∷ filter test run) (filter test run)) k ≡ Some event → IsNumbered test (step ∷ run)
          first k event
      at next true is zero one = record {
        place = 0;
        listed = ap (λ (b : Bool). slice_get (cond b (first ∷ event_places test (suc first) run) (event_places test (suc first) run)) 0) is ∙ ap Some (omega arith);
        stands = one;
        as_many = refl;
      }
      at next true is (suc k) one =
          let rest = next k event one in
          record {
            place = suc rest.place;
            listed = ap (λ (b : Bool). slice_get (cond b (first ∷ event_places test (suc first) run) (event_places test (suc first) run)) (suc k)) is ∙ rest.listed ∙ ap
                Some (shifted rest.place);
            stands = rest.stands;
            as_many = ap (λ (b : Bool). length (cond b (step ∷ filter test (take rest.place run))
                (filter test (take rest.place run)))) is ∙ ap suc rest.as_many;
          }
      at next false is k one =
          let rest = next k event one in
          record {
            place = suc rest.place;
            listed = ap (λ (b : Bool). slice_get (cond b (first ∷ event_places test (suc first) run) (event_places test (suc first) run)) k) is ∙ rest.listed ∙ ap Some
                (shifted rest.place);
            stands = rest.stands;
            as_many = ap (λ (b : Bool). length (cond b (step ∷ filter test (take rest.place run))
                (filter test (take rest.place run)))) is ∙ rest.as_many;
          }

  -- ---- where an event of the session stands

  -- it stands in the run, and as many come before it
  pub stands_there : (session run : List Step) (place : ℕ) (event : Step) → AreEventsOf test session run → slice_get session place ≡ Some event → test
      event ≡ true → StandsAs test session place event run (place_in test run session place)
  stands_there session run place event events found is =
      let number = events_before test session place in
      let there = event_numbered run 0 number event
      (ap (λ (list : List Step). slice_get list number) events.1 ∙ in_front (filter test session) events.0 number event (numbered session place event found is)) in
      let from_start : 0 + there.place ≡ there.place = omega arith in
      let it : place_in test run session place ≡ there.place = get_or_from_slice_get (event_places test 0 run) number (0 + there.place) 0 there.listed ∙ from_start in
      record {
        stands = ap (slice_get run) it ∙ there.stands;
        as_many = ap (events_before test run) it ∙ there.as_many;
      }

  -- among the steps of the run
  pub stands_within : (session run : List Step) (place : ℕ) (event : Step) → AreEventsOf test session run → slice_get session place ≡ Some event → test
      event ≡ true → place_in test run session place < length run
  stands_within session run place event events found is = slice_get_within run (place_in test run session place) event
      (stands_there session run place event events found is).stands

  -- its place is listed
  pub place_is_listed : (session run : List Step) (place : ℕ) (event : Step) → AreEventsOf test session run → slice_get session place ≡ Some event → test event ≡
      true → events_before test session place < length (event_places test 0 run)
  place_is_listed session run place event events found is =
      let number = events_before test session place in
      let there = event_numbered run 0 number event
      (ap (λ (list : List Step). slice_get list number) events.1 ∙ in_front (filter test session) events.0 number event (numbered session place event found is)) in
      slice_get_within (event_places test 0 run) number (0 + there.place) there.listed

  -- there are as many places as events
  pub as_many_places : (first : ℕ) (steps : List Step) → length (event_places test first steps) ≡ length (filter test steps)
  as_many_places first [] = refl
  as_many_places first (step ∷ steps) = at (test step) (as_many_places (suc first) steps)
    where
      at : (b : Bool) → length (event_places test (suc first) steps) ≡ length (filter test steps)
          → length (cond b (first ∷ event_places test (suc first) steps) (event_places test (suc first) steps)) ≡ length (cond b (step ∷ filter test steps)
          (filter test steps))
      at true rest = ap suc rest
      at false rest = rest

  -- fewer come before an event than there are
  pub fewer_before : (session : List Step) (place : ℕ) (event : Step) → slice_get session place ≡ Some event → test event ≡ true → events_before test session
      place < length (event_places test 0 session)
  fewer_before session place event found is =
      let number = events_before test session place in
      let many = as_many_places 0 session in
      omega (arith, many, slice_get_within (filter test session) number event (numbered session place event found is))

  -- and behind each that comes before it in the session
  pub stands_behind : (session run : List Step) (sooner later : ℕ) (event other : Step) → AreEventsOf test session run → slice_get session sooner ≡ Some event →
      test event ≡ true → slice_get session later ≡ Some other → test other ≡ true → sooner < later
      → place_in test run session sooner < place_in test run session later
  stands_behind session run sooner later event other events found is next too order =
      elim (cases_lt (place_in test run session sooner) (place_in test run session later)) [
        | inl before ↦ before
        | inr behind ↦
            let first = stands_there session run sooner event events found is in
            let second = stands_there session run later other events next too in
            let counts = no_fewer run (place_in test run session later) (place_in test run session sooner) behind in
            let between = no_fewer session (suc sooner) later (omega (arith, order)) in
            let more = one_more session sooner event found is in
            absurd (omega (arith, first.as_many, second.as_many, counts, between, more))
      ]

  -- ---- what stands in the list of the places

  places_from : (run session : List Step) (first n place : ℕ) (d : ℕ) → place < n → get_or (map (place_in test run session) (range_with_len first n)) place d ≡
      place_in test run session (first + place)
  places_from run session first zero place d low = absurd (omega (arith, low))
  places_from run session first (suc n) zero d low = ap (place_in test run session) (omega arith)
  places_from run session first (suc n) (suc place) d low =
      let next : first + 1 + place ≡ first + suc place = omega arith in
      places_from run session (first + 1) n place d (omega (arith, low)) ∙ ap (place_in test run session) next

  pub place_listed : (run session : List Step) (place : ℕ) → place < length session → get_or (places_in test run session) place 0 ≡ place_in test run session place
  place_listed run session place low =
      let from_start : 0 + place ≡ place = omega arith in
      places_from run session 0 (length session) place 0 low ∙ ap (place_in test run session) from_start
