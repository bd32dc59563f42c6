-- A settled run as it is made, piece by piece.
use Rattle.std.proofs.Common.{◌≡◌, ℕ, ◌<◌, ◌≤◌, List, [], ◌∷◌, ◌++◌, length, Some, None, refl, sym, ap, subst, ◌∙◌, append_assoc, arith, length-append}
use Rattle.std.proofs.lemmas.List.{append-nil}
use Rattle.bench_types.specs.declared.header.Header.{Header}
use Rattle.bench_types.specs.declared.step.Step.{Step}
use Rattle.bench_model.specs.Session.{step_of, state_after}
use Rattle.bench_model.specs.Start.{start}
use Rattle.bench_model.specs.Table.{Table}
use Rattle.settled_runs.specs.declared.waiting_call.WaitingCall.{WaitingCall}
use Rattle.settled_runs.specs.Settled.{events_of, made_at_once, waiting_with, waiting_after, quiet_step, still_waiting, IsQuietWork, IsSettledFrom, IsSettled}
use Rattle.settled_runs.proofs.Settlings.{before}
use Rattle.settling.specs.Ways.{IsOnTheWay}

pub entered : (header : Header) (session : List Step) → IsOnTheWay header session (start header) [] (events_of session) []
entered header session = record { forward = λ rest left settled. settled; backward = λ whole left settled. (whole, refl, settled) }

-- a settled run begins with the next piece of quiet work

quiet_behind : (table : Table) (waiting : List WaitingCall) (step : Step) (made : List Step) → quiet_step table waiting ≡ Some step
    → IsQuietWork table waiting made → (rest : List Step) × (made ≡ step ∷ rest) × IsQuietWork (step_of step table).1 (waiting_after waiting step) rest
quiet_behind table waiting step [] next quiet = absurd (cc (next, quiet))
quiet_behind table waiting step (first ∷ rest) next quiet =
    let same : first ≡ step = cc (next, quiet.0) in
    (rest, ap (λ (step : Step). step ∷ rest) same, subst (λ step. IsQuietWork (step_of step table).1 (waiting_after waiting step) rest) same quiet.1)

pub behind : (events : List Step) (table : Table) (waiting : List WaitingCall) (step : Step) (run : List Step) (left : List WaitingCall)
    → quiet_step table waiting ≡ Some step → IsSettledFrom table waiting events run left → (rest : List Step) × (run ≡ step ∷ rest)
    × IsSettledFrom (step_of step table).1 (waiting_after waiting step) events rest left
behind [] table waiting step run left next settled =
    let first = quiet_behind table waiting step run next settled.0 in
    (first.0, first.1, (first.2, ap (still_waiting waiting) (sym first.1) ∙ settled.1))
behind (event ∷ events) table waiting step run left next settled =
    let first = quiet_behind table waiting step settled.0 next settled.3 in
    let later =
    subst (λ quiet. IsSettledFrom (state_after table (quiet ++ made_at_once event)) (waiting_with (still_waiting waiting quiet) event) events settled.1
    left) first.1 settled.4 in (
      first.0 ++ (made_at_once event ++ settled.1),
      settled.2
          ∙ ap (λ quiet. quiet ++ (made_at_once event ++ settled.1)) first.1,
      (first.0, settled.1, refl, first.2, later),
    )

-- where there is none, with what is made of the next event
event_behind : (events : List Step) (table : Table) (waiting : List WaitingCall) (event : Step) (run : List Step) (left : List WaitingCall)
    → quiet_step table waiting ≡ None → IsSettledFrom table waiting (event ∷ events) run left → (rest : List Step) × (run ≡ made_at_once event ++ rest)
    × IsSettledFrom (state_after table (made_at_once event)) (waiting_with waiting event) events rest left
event_behind events table waiting event run left none settled =
    let quiet = no_work settled.0 settled.3 in
    let later =
    subst (λ quiet. IsSettledFrom (state_after table (quiet ++ made_at_once event)) (waiting_with (still_waiting waiting quiet) event) events settled.1
    left) quiet settled.4 in
    (settled.1, settled.2 ∙ ap (λ quiet. quiet ++ (made_at_once event ++ settled.1)) quiet, later)
  where
    no_work : (made : List Step) → IsQuietWork table waiting made → made ≡ []
    no_work [] quiet = refl
    no_work (first ∷ made) quiet = absurd (cc (none, quiet.0))

module _ (header : Header) (session : List Step) (table : Table) (waiting : List WaitingCall) (run : List Step) where
  pub piece_way : (events : List Step) (step : Step) → quiet_step table waiting ≡ Some step → IsOnTheWay header session table waiting events run
      → IsOnTheWay header session (step_of step table).1 (waiting_after waiting step) events (run ++ step ∷ [])
  piece_way events step next way = record {
    forward = λ rest left settled.
        subst (λ whole. IsSettled header session whole left) (sym (append_assoc run (step ∷ []) rest))
        (way.forward (step ∷ rest) left (before events table waiting step rest left next settled));
    backward = λ whole left settled.
        let there = way.backward whole left settled in
        let first = behind events table waiting step there.0 left next there.2 in
        (first.0, there.1 ∙ ap (λ rest. run ++ rest) first.1 ∙ sym (append_assoc run (step ∷ []) first.0), first.2);
  }

  pub event_way : (events : List Step) (event : Step) → quiet_step table waiting ≡ None → IsOnTheWay header session table waiting (event ∷ events) run
      → IsOnTheWay header session (state_after table (made_at_once event)) (waiting_with waiting event) events (run ++ made_at_once event)
  event_way events event none way = record {
    forward = λ rest left settled.
        subst (λ whole. IsSettled header session whole left) (sym (append_assoc run (made_at_once event) rest))
        (way.forward (made_at_once event ++ rest) left ([], rest, refl, none, settled));
    backward = λ whole left settled.
        let there = way.backward whole left settled in
        let first = event_behind events table waiting event there.0 left none there.2 in
        (first.0, there.1 ∙ ap (λ rest. run ++ rest) first.1 ∙ sym (append_assoc run (made_at_once event) first.0), first.2);
  }

  -- nothing is left to do
  pub way_ends : quiet_step table waiting ≡ None → IsOnTheWay header session table waiting [] run → IsSettled header session run waiting
  way_ends none way = subst (λ whole. IsSettled header session whole waiting) (append-nil run) (way.forward [] waiting (none, refl))

  -- another piece makes the run too long
  pub too_long : (events : List Step) (step : Step) (limit : ℕ) → limit ≤ length run → quiet_step table waiting ≡ Some step
      → IsOnTheWay header session table waiting events run → (whole : List Step) (left : List WaitingCall) → IsSettled header session whole left
      → limit < length whole
  too_long events step limit full next way whole left settled =
      let there = way.backward whole left settled in
      let first = behind events table waiting step there.0 left next there.2 in
      omega (arith, full, ap length there.1, length-append run there.0, ap length first.1)

  -- and so does another event
  pub too_many : (events : List Step) (event : Step) (limit : ℕ) → limit ≤ length run → 0 < length (made_at_once event) → quiet_step table waiting ≡ None
      → IsOnTheWay header session table waiting (event ∷ events) run → (whole : List Step) (left : List WaitingCall) → IsSettled header session whole left
      → limit < length whole
  too_many events event limit full some none way whole left settled =
      let there = way.backward whole left settled in
      let first = event_behind events table waiting event there.0 left none there.2 in
      omega (arith, full, some, ap length there.1, length-append run there.0, ap length first.1, length-append (made_at_once event) first.0)
