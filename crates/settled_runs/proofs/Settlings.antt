-- What a settled run keeps of its session: there is one alone, and its calls, ticks and interrupts are the session's.
use Rattle.std.proofs.Common.{◌≡◌, ℕ, zero, suc, Bool, true, false, cond, not, eqb, ◌&&◌, List, [], ◌∷◌, ◌++◌, take, Option, Some, None, refl, sym, ap, subst}
use Rattle.std.proofs.Common.{◌∙◌, inl, inr, append_assoc, arith}
use Rattle.std.specs.Prelude.{option_map, slice_get}
use Rattle.std.specs.List.{filter, AllByRecursion}
use Rattle.std.proofs.lemmas.Grind.{flat_map-append}
use Rattle.std.proofs.lemmas.Bool.Decides.{nat_tests}
use Rattle.std.proofs.lemmas.List.{append-nil}
use Rattle.std.proofs.lemmas.List.Elements.{filter-append}
use Rattle.std.proofs.lemmas.List.Sums.{fold-append}
use Rattle.std.proofs.lemmas.Option.{same_Some}
use Rattle.bench_types.specs.declared.header.Header.{Header}
use Rattle.bench_types.specs.declared.reply.Refusal.{Refusal}
use Rattle.bench_types.specs.declared.reply.Reply.{Reply}
use Rattle.bench_types.specs.declared.reply.Reply.TheVariants.{Refused}
use Rattle.bench_types.specs.declared.step.Step.{Step}
use Rattle.bench_types.specs.declared.step.Step.TheVariants.{Tick, Switch, Interrupt, QueueInterrupt, ResumeInterrupt, Pass}
use Rattle.bench_types.specs.declared.step.Step.TheVariants as steps
use Rattle.bench_types.specs.declared.step.Call.{Call}
use Rattle.list_orders.proofs.Filters.{filter-filter, filter_all}
use Rattle.bench_model.specs.Refusals.{refusal}
use Rattle.bench_model.specs.Session.{step_of, state_after, state_at, reply_at}
use Rattle.bench_model.specs.Start.{start}
use Rattle.bench_model.specs.Table.{Table, stamp_queues}
use Rattle.settled_runs.specs.declared.waiting_call.WaitingCall.{WaitingCall}
use Rattle.settled_runs.specs.Settled.{is_finish, is_timely, is_event, events_of, quiet_step, without_first, waiting_after, still_waiting, waiting_with}
use Rattle.settled_runs.specs.Settled.{made_at_once, on_its_core, IsQuietWork, IsSettledFrom, IsSettled}
use Rattle.settled_runs.specs.SettleLaws.{call_of, calls_of, waiting_of, comes_from_outside, is_answer}
use Rattle.settled_runs.proofs.Timely.{answered, open_answered, timely_answered, known_answered}
use Rattle.settled_runs.proofs.Pieces.{IsPiece, piece_of, none_alone, without_all}

-- ---- one run

quiet_one : (made other : List Step) (table : Table) (waiting : List WaitingCall) → IsQuietWork table waiting made → IsQuietWork table waiting other
    → made ≡ other
quiet_one [] [] table waiting one two = refl
quiet_one [] (t ∷ other) table waiting one two = absurd (cc (one, two.0))
quiet_one (s ∷ made) [] table waiting one two = absurd (cc (one.0, two))
quiet_one (s ∷ made) (t ∷ other) table waiting one two =
    let same : t ≡ s = cc (one.0, two.0) in
    let second = subst (λ t. IsQuietWork (step_of t table).1 (waiting_after waiting t) other) same two.1 in
    let rest = quiet_one made other (step_of s table).1 (waiting_after waiting s) one.1 second in
    λ i. sym same i ∷ rest i

settled_one :
    (events : List Step) (table : Table) (waiting : List WaitingCall) (run other : List Step) (left rest : List WaitingCall)
    → IsSettledFrom table waiting events run left
    → IsSettledFrom table waiting events other rest → (run ≡ other) × (left ≡ rest)
settled_one [] table waiting run other left rest one two =
    let same = quiet_one run other table waiting one.0 two.0 in (same, sym one.1 ∙ ap (still_waiting waiting) same ∙ two.1)
settled_one (event ∷ events) table waiting run other left rest one two =
    let same = quiet_one two.0 one.0 table waiting two.3 one.3 in
    let next = λ (quiet : List Step).
    IsSettledFrom (state_after table (quiet ++ made_at_once event)) (waiting_with (still_waiting waiting quiet) event) events two.1 rest in
    let both = settled_one events _ _ one.1 two.1 left rest one.4 (subst next same two.4) in
    (one.2 ∙ (λ i. sym same i ++ (made_at_once event ++ both.0 i)) ∙ sym two.2, both.1)

pub settled_run_is_one :
    (header : Header) (session run other : List Step) (left rest : List WaitingCall) → IsSettled header session run left → IsSettled header session other rest
    → (run ≡ other) × (left ≡ rest)
settled_run_is_one header session = settled_one (events_of session) (start header) []

-- ---- what waits

abbrev pub Begins : WaitingCall → Type 0
Begins waits = is_finish waits.call ≡ false

begins : (waits : WaitingCall) → Begins waits → is_finish waits.call ≡ false
begins waits is = is

pub after_all : (P : WaitingCall → Type 0) (waiting : List WaitingCall) (step : Step) → AllByRecursion P waiting → AllByRecursion P (waiting_after waiting step)
after_all P waiting Tick all = all
after_all P waiting (Switch core) all = all
after_all P waiting (Interrupt core note) all = all
after_all P waiting (QueueInterrupt core queue direction) all = all
after_all P waiting (ResumeInterrupt core task) all = all
after_all P waiting (Pass units) all = all
after_all P waiting (steps.Call core task call) all =
    elim (is_finish call) as (λ b. AllByRecursion P (cond b waiting (without_first task waiting))) [ true ↦ all | false ↦ without_all P task waiting all ]

pub still_all : (P : WaitingCall → Type 0) (made : List Step) (waiting : List WaitingCall) → AllByRecursion P waiting
    → AllByRecursion P (still_waiting waiting made)
still_all P [] waiting all = all
still_all P (step ∷ made) waiting all = still_all P made (waiting_after waiting step) (after_all P waiting step all)

push_all : (P : WaitingCall → Type 0) (waiting : List WaitingCall) (last : WaitingCall) → AllByRecursion P waiting → P last
    → AllByRecursion P (waiting ++ last ∷ [])
push_all P [] last all may = (may, tt)
push_all P (waits ∷ waiting) last all may = (all.0, push_all P waiting last all.1 may)

-- the call of an event
pub event_begins : (core task : ℕ) (call : Call) → is_event (steps.Call core task call) ≡ true → is_finish call ≡ false
event_begins core task call event = at (is_finish call) event
  where
    at : (b : Bool) → not b ≡ true → b ≡ false
    at true none = absurd (cc (none))
    at false is = refl

pub with_all : (P : WaitingCall → Type 0) (waiting : List WaitingCall) (event : Step) → AllByRecursion P waiting
    → ((core task : ℕ) (call : Call) → event ≡ steps.Call core task call → P (record { task = task; call = call }))
    → AllByRecursion P (waiting_with waiting event)
with_all P waiting Tick all may = all
with_all P waiting (Switch core) all may = all
with_all P waiting (Interrupt core note) all may = all
with_all P waiting (QueueInterrupt core queue direction) all may = all
with_all P waiting (ResumeInterrupt core task) all may = all
with_all P waiting (Pass units) all may = all
with_all P waiting (steps.Call core task call) all may = push_all P waiting _ all (may core task call refl)

abbrev pub Events : List Step → Type 0
Events events = AllByRecursion (λ event. is_event event ≡ true) events

pub events_are : (session : List Step) → Events (events_of session)
events_are [] = tt
events_are (step ∷ session) = at (is_event step) refl (events_are session)
  where
    at : (b : Bool) → is_event step ≡ b → Events (events_of session) → Events (cond b (step ∷ events_of session) (events_of session))
    at true is rest = (is, rest)
    at false none rest = rest

with_begins : (waiting : List WaitingCall) (event : Step) → is_event event ≡ true → AllByRecursion Begins waiting
    → AllByRecursion Begins (waiting_with waiting event)
with_begins waiting event is all =
    with_all Begins waiting event all (λ core task call same. event_begins core task call (subst (λ event. is_event event ≡ true) same is))

-- ---- calls

module _ (task : ℕ) where
  none_own : (b : Bool) (calls : List Call) → cond (b && false) calls [] ≡ []
  none_own true calls = refl
  none_own false calls = refl

  own_call : (own : Bool) (call : Call) → is_finish call ≡ false → cond (own && not (is_finish call)) (call ∷ []) [] ≡ cond own (call ∷ []) []
  own_call own call begin = ap (λ finish. cond (own && not finish) (call ∷ []) []) begin ∙ at own
    where
      at : (own : Bool) → cond (own && true) (call ∷ []) [] ≡ cond own (call ∷ []) []
      at true = refl
      at false = refl

  piece_calls : (table : Table) (waiting : List WaitingCall) (step : Step) → AllByRecursion Begins waiting → quiet_step table waiting ≡ Some step
      → waiting_of task waiting ≡ call_of task step ++ waiting_of task (waiting_after waiting step)
  piece_calls table waiting step all made = at (piece_of Begins begins table waiting step all made)
    where
      at : IsPiece Begins table waiting step → waiting_of task waiting ≡ call_of task step ++ waiting_of task (waiting_after waiting step)
      at (inl it) = subst (λ step. waiting_of task waiting ≡ call_of task step ++ waiting_of task (waiting_after waiting step)) (sym it.is) refl
      at (inr (inl it)) =
          subst (λ step. waiting_of task waiting ≡ call_of task step ++ waiting_of task (waiting_after waiting step)) (sym it.is)
          (ap (λ none. none ++ waiting_of task waiting) (sym (none_own (eqb _ task) _)))
      at (inr (inr it)) =
          subst (λ step. waiting_of task waiting ≡ call_of task step ++ waiting_of task (waiting_after waiting step)) (sym it.is)
          (it.calls task
          ∙ ap (λ one. one ++ waiting_of task (without_first it.waits.task waiting))
          (append-nil _ ∙ sym (own_call (eqb it.waits.task task) it.waits.call it.begins))
          ∙ ap (λ finish. call_of task (on_its_core table it.waits) ++ waiting_of task (cond finish waiting (without_first it.waits.task waiting)))
          (sym it.begins))

  quiet_calls : (made : List Step) (table : Table) (waiting : List WaitingCall) → AllByRecursion Begins waiting → IsQuietWork table waiting made
      → waiting_of task waiting ≡ calls_of task made ++ waiting_of task (still_waiting waiting made)
  quiet_calls [] table waiting all quiet = refl
  quiet_calls (step ∷ made) table waiting all quiet =
      piece_calls table waiting step all quiet.0
      ∙ ap (λ rest. call_of task step ++ rest)
      (quiet_calls made (step_of step table).1 (waiting_after waiting step) (after_all Begins waiting step all) quiet.1)
      ∙ sym (append_assoc (call_of task step) (calls_of task made) _)

  -- an event that waits, and one that is made
  with_calls : (waiting : List WaitingCall) (event : Step) → is_event event ≡ true
      → waiting_of task (waiting_with waiting event) ≡ waiting_of task waiting ++ call_of task event
  with_calls waiting Tick is = sym (append-nil _)
  with_calls waiting (Switch core) is = absurd (cc (is))
  with_calls waiting (Interrupt core note) is = sym (append-nil _)
  with_calls waiting (QueueInterrupt core queue direction) is = sym (append-nil _)
  with_calls waiting (ResumeInterrupt core task) is = sym (append-nil _)
  with_calls waiting (Pass units) is = sym (append-nil _)
  with_calls waiting (steps.Call core other call) is =
      flat_map-append (λ (waits : WaitingCall). cond (eqb waits.task task) (waits.call ∷ []) []) waiting (record { task = other; call = call } ∷ [])
      ∙ ap (λ one. waiting_of task waiting ++ one) (append-nil _ ∙ sym (own_call (eqb other task) call (event_begins core other call is)))

  at_once_calls : (event : Step) → calls_of task (made_at_once event) ≡ []
  at_once_calls Tick = refl
  at_once_calls (Switch core) = refl
  at_once_calls (Interrupt core note) = refl
  at_once_calls (QueueInterrupt core queue direction) = refl
  at_once_calls (ResumeInterrupt core task) = refl
  at_once_calls (Pass units) = refl
  at_once_calls (steps.Call core other call) = refl

  -- lists in turn
  turned : (quiet waits call calls once rest left : List Call) → once ≡ [] → (waits ++ call) ++ calls ≡ rest ++ left
      → (quiet ++ waits) ++ (call ++ calls) ≡ (quiet ++ (once ++ rest)) ++ left
  turned quiet waits call calls once rest left none same =
      append_assoc quiet waits (call ++ calls) ∙ ap (λ all. quiet ++ all) (sym (append_assoc waits call calls) ∙ same) ∙ sym (append_assoc quiet rest left)
      ∙ ap (λ once. (quiet ++ (once ++ rest)) ++ left) (sym none)

  split_calls : (quiet once rest : List Step) → calls_of task (quiet ++ (once ++ rest)) ≡ calls_of task quiet ++ (calls_of task once ++ calls_of task rest)
  split_calls quiet once rest = flat_map-append (call_of task) quiet (once ++ rest)
      ∙ ap (λ all. calls_of task quiet ++ all) (flat_map-append (call_of task) once rest)

  settled_calls :
      (events : List Step) (table : Table) (waiting : List WaitingCall) (run : List Step) (left : List WaitingCall) → Events events
      → AllByRecursion Begins waiting
      → IsSettledFrom table waiting events run left → waiting_of task waiting ++ calls_of task events ≡ calls_of task run ++ waiting_of task left
  settled_calls [] table waiting run left are all settled =
      append-nil _ ∙ quiet_calls run table waiting all settled.0 ∙ ap (λ left. calls_of task run ++ waiting_of task left) settled.1
  settled_calls (event ∷ events) table waiting run left are all settled =
      let quiet = settled.0 in
      let rest = settled.1 in
      let waits = still_waiting waiting quiet in
      let entered = with_begins waits event are.0 (still_all Begins quiet waiting all) in
      let later = settled_calls events _ (waiting_with waits event) rest left are.1 entered settled.4 in
      ap (λ first. first ++ (call_of task event ++ calls_of task events)) (quiet_calls quiet table waiting all settled.3)
      ∙ turned (calls_of task quiet) (waiting_of task waits) (call_of task event) (calls_of task events) (calls_of task (made_at_once event))
      (calls_of task rest) (waiting_of task left) (at_once_calls event)
      (ap (λ first. first ++ calls_of task events) (sym (with_calls waits event are.0)) ∙ later)
      ∙ ap (λ calls. calls ++ waiting_of task left) (sym (split_calls quiet (made_at_once event) rest) ∙ ap (calls_of task) (sym settled.2))

  -- what is no event has no call of the task
  event_calls : (session : List Step) → calls_of task session ≡ calls_of task (events_of session)
  event_calls [] = refl
  event_calls (Tick ∷ session) = event_calls session
  event_calls (Switch core ∷ session) = event_calls session
  event_calls (Interrupt core note ∷ session) = event_calls session
  event_calls (QueueInterrupt core queue direction ∷ session) = event_calls session
  event_calls (ResumeInterrupt core task ∷ session) = event_calls session
  event_calls (Pass units ∷ session) = event_calls session
  event_calls (steps.Call core other call ∷ session) = at (is_finish call) refl (event_calls session)
    where
      at : (b : Bool) → is_finish call ≡ b → calls_of task session ≡ calls_of task (events_of session)
          → calls_of task (steps.Call core other call ∷ session) ≡ calls_of task
          (cond (not b) (steps.Call core other call ∷ events_of session) (events_of session))
      at true is same =
          ap (λ finish. cond (eqb other task && not finish) (call ∷ []) [] ++ calls_of task session) is
          ∙ ap (λ none. none ++ calls_of task session) (none_own (eqb other task) (call ∷ [])) ∙ same
      at false is same = ap (λ rest. call_of task (steps.Call core other call) ++ rest) same

pub settling_keeps_calls :
    (header : Header) (session run : List Step) (left : List WaitingCall) (task : ℕ) → IsSettled header session run left
    → calls_of task session ≡ calls_of task run ++ waiting_of task left
settling_keeps_calls header session run left task settled = event_calls task session
    ∙ settled_calls task (events_of session) (start header) [] run left (events_are session) tt settled

-- ---- ticks and interrupts

piece_inside : (table : Table) (waiting : List WaitingCall) (step : Step) → AllByRecursion Begins waiting → quiet_step table waiting ≡ Some step
    → comes_from_outside step ≡ false
piece_inside table waiting step all made = at (piece_of Begins begins table waiting step all made)
  where
    at : IsPiece Begins table waiting step → comes_from_outside step ≡ false
    at (inl it) = ap comes_from_outside it.is
    at (inr (inl it)) = ap comes_from_outside it.is
    at (inr (inr it)) = ap comes_from_outside it.is

quiet_inside : (made : List Step) (table : Table) (waiting : List WaitingCall) → AllByRecursion Begins waiting → IsQuietWork table waiting made
    → filter comes_from_outside made ≡ []
quiet_inside [] table waiting all quiet = refl
quiet_inside (step ∷ made) table waiting all quiet =
    let rest = quiet_inside made (step_of step table).1 (waiting_after waiting step) (after_all Begins waiting step all) quiet.1 in
    ap (λ b. cond b (step ∷ filter comes_from_outside made) (filter comes_from_outside made)) (piece_inside table waiting step all quiet.0) ∙ rest

-- an event is made at once just where it comes from outside
once_outside : (event : Step) (rest : List Step) → is_event event ≡ true
    → filter comes_from_outside (made_at_once event ++ rest) ≡ filter comes_from_outside (event ∷ rest)
once_outside Tick rest is = refl
once_outside (Switch core) rest is = absurd (cc (is))
once_outside (Interrupt core note) rest is = refl
once_outside (QueueInterrupt core queue direction) rest is = refl
once_outside (ResumeInterrupt core task) rest is = refl
once_outside (Pass units) rest is = refl
once_outside (steps.Call core task call) rest is = refl

settled_outside :
    (events : List Step) (table : Table) (waiting : List WaitingCall) (run : List Step) (left : List WaitingCall) → Events events
    → AllByRecursion Begins waiting
    → IsSettledFrom table waiting events run left → filter comes_from_outside events ≡ filter comes_from_outside run
settled_outside [] table waiting run left are all settled = sym (quiet_inside run table waiting all settled.0)
settled_outside (event ∷ events) table waiting run left are all settled =
    let entered = with_begins (still_waiting waiting settled.0) event are.0 (still_all Begins settled.0 waiting all) in
    let later = settled_outside events _ _ settled.1 left are.1 entered settled.4 in
    ap (λ rest. cond (comes_from_outside event) (event ∷ rest) rest) later
    ∙ sym (once_outside event settled.1 are.0)
    ∙ ap (λ none. none ++ filter comes_from_outside (made_at_once event ++ settled.1)) (sym (quiet_inside settled.0 table waiting all settled.3))
    ∙ sym (filter-append comes_from_outside settled.0 (made_at_once event ++ settled.1))
    ∙ ap (filter comes_from_outside) (sym settled.2)

outside_is_event : (step : Step) → comes_from_outside step ≡ true → is_event step ≡ true
outside_is_event Tick is = refl
outside_is_event (Switch core) is = absurd (cc (is))
outside_is_event (Interrupt core note) is = refl
outside_is_event (QueueInterrupt core queue direction) is = refl
outside_is_event (ResumeInterrupt core task) is = refl
outside_is_event (Pass units) is = refl
outside_is_event (steps.Call core task call) is = absurd (cc (is))

outside_events : (session : List Step) → AllByRecursion (λ step. is_event step ≡ true) (filter comes_from_outside session)
outside_events [] = tt
outside_events (step ∷ session) = at (comes_from_outside step) refl (outside_events session)
  where
    at : (b : Bool) → comes_from_outside step ≡ b → Events (filter comes_from_outside session)
        → Events (cond b (step ∷ filter comes_from_outside session) (filter comes_from_outside session))
    at true is rest = (outside_is_event step is, rest)
    at false none rest = rest

pub settling_keeps_events :
    (header : Header) (session run : List Step) (left : List WaitingCall) → IsSettled header session run left
    → filter comes_from_outside session ≡ filter comes_from_outside run
settling_keeps_events header session run left settled =
    sym (filter_all is_event (filter comes_from_outside session) (outside_events session)) ∙ filter-filter is_event comes_from_outside session
    ∙ settled_outside (events_of session) (start header) [] run left (events_are session) tt settled

-- ---- refusals

-- no step from the table on is refused but by an answer
AnsweredAlong : Table → List Step → Type 0
AnsweredAlong table [] = Unit {0}
AnsweredAlong table (step ∷ made) = (answered (refusal stamp_queues step table) ≡ true) × AnsweredAlong (step_of step table).1 made

along_append : (first second : List Step) (table : Table) → AnsweredAlong table first → AnsweredAlong (state_after table first) second
    → AnsweredAlong table (first ++ second)
unfolding AnsweredAlong
along_append [] second table one two = two
along_append (step ∷ first) second table one two = (one.0, along_append first second (step_of step table).1 one.1 two)

piece_answered : (table : Table) (waiting : List WaitingCall) (step : Step) → AllByRecursion Begins waiting → quiet_step table waiting ≡ Some step
    → answered (refusal stamp_queues step table) ≡ true
piece_answered table waiting step all made = at (piece_of Begins begins table waiting step all made)
  where
    at : IsPiece Begins table waiting step → answered (refusal stamp_queues step table) ≡ true
    at (inl it) = open_answered table step it.free
    at (inr (inl it)) = open_answered table step it.free
    at (inr (inr it)) = known (sym it.is) it.timely
      where
        known : on_its_core table it.waits ≡ step → is_timely table step ≡ true → answered (refusal stamp_queues step table) ≡ true
        known same timely =
            subst (λ step. answered (refusal stamp_queues step table) ≡ true) same
            (timely_answered table _ it.waits.task it.waits.call (subst (λ step. is_timely table step ≡ true) (sym same) timely))

quiet_answered : (made : List Step) (table : Table) (waiting : List WaitingCall) → AllByRecursion Begins waiting → IsQuietWork table waiting made
    → AnsweredAlong table made
unfolding AnsweredAlong
quiet_answered [] table waiting all quiet = tt
quiet_answered (step ∷ made) table waiting all quiet = (
  piece_answered table waiting step all quiet.0,
  quiet_answered made (step_of step table).1 (waiting_after waiting step) (after_all Begins waiting step all)
      quiet.1,
)

once_answered : (event : Step) (table : Table) → is_event event ≡ true → AnsweredAlong table (made_at_once event)
unfolding AnsweredAlong refusal
once_answered Tick table is = (refl, tt)
once_answered (Switch core) table is = absurd (cc (is))
once_answered (Interrupt core note) table is = (refl, tt)
once_answered (QueueInterrupt core queue direction) table is = (refl, tt)
once_answered (ResumeInterrupt core task) table is = (refl, tt)
once_answered (Pass units) table is = (refl, tt)
once_answered (steps.Call core task call) table is = tt

settled_answered :
    (events : List Step) (table : Table) (waiting : List WaitingCall) (run : List Step) (left : List WaitingCall) → Events events
    → AllByRecursion Begins waiting
    → IsSettledFrom table waiting events run left → AnsweredAlong table run
settled_answered [] table waiting run left are all settled = quiet_answered run table waiting all settled.0
settled_answered (event ∷ events) table waiting run left are all settled =
    let quiet = settled.0 in
    let once = made_at_once event in
    let entered = with_begins (still_waiting waiting quiet) event are.0 (still_all Begins quiet waiting all) in
    let later = settled_answered events _ _ settled.1 left are.1 entered settled.4 in
    let next = fold-append (λ (table : Table) (step : Step). (step_of step table).1) table quiet once in
    subst (λ run. AnsweredAlong table run) (sym settled.2)
    (along_append quiet (once ++ settled.1) table (quiet_answered quiet table waiting all settled.3)
    (along_append once settled.1 (state_after table quiet) (once_answered event (state_after table quiet) are.0)
    (subst (λ table. AnsweredAlong table settled.1) next later)))

reply_from : Table → List Step → ℕ → Option Reply
reply_from table made place = option_map (λ step. (step_of step (state_after table (take place made))).0) (slice_get made place)

answered_at : (made : List Step) (table : Table) (place : ℕ) (why : Refusal) → AnsweredAlong table made → reply_from table made place ≡ Some (Refused why)
    → is_answer why ≡ true
unfolding AnsweredAlong reply_from
answered_at [] table place why along known = absurd (cc (known))
answered_at (step ∷ made) table zero why along known = known_answered table step why along.0 (same_Some _ _ known)
answered_at (step ∷ made) table (suc place) why along known = answered_at made (step_of step table).1 place why along.1 known

pub refusals_are_answers :
    (header : Header) (session run : List Step) (left : List WaitingCall) (place : ℕ) (why : Refusal) → IsSettled header session run left
    → reply_at header run place ≡ Some (Refused why) → is_answer why ≡ true
unfolding reply_at state_at reply_from
refusals_are_answers header session run left place why settled known =
    answered_at run (start header) place why (settled_answered (events_of session) (start header) [] run left (events_are session) tt settled) known

-- ---- settled runs of settled runs

-- a piece of quiet work before a settled run
pub before : (events : List Step) (table : Table) (waiting : List WaitingCall) (step : Step) (run : List Step) (left : List WaitingCall)
    → quiet_step table waiting ≡ Some step → IsSettledFrom (step_of step table).1 (waiting_after waiting step) events run left
    → IsSettledFrom table waiting events (step ∷ run) left
before [] table waiting step run left made settled = ((made, settled.0), settled.1)
before (event ∷ events) table waiting step run left made settled = (step ∷ settled.0, settled.1, (λ i. step ∷ settled.2 i), (made, settled.3), settled.4)

-- a call that alone can be made
call_before : (events : List Step) (table : Table) (waits : WaitingCall) (step : Step) (run : List Step) → step ≡ on_its_core table waits
    → is_finish waits.call ≡ false → quiet_step table [] ≡ None → quiet_step table (waits ∷ []) ≡ Some step
    → IsSettledFrom (step_of step table).1 [] events run [] → IsSettledFrom table [] (step ∷ events) (step ∷ run) []
call_before events table waits step run is begin none alone settled =
    let gone : waiting_after (waits ∷ []) step ≡ [] = ap (waiting_after (waits ∷ [])) is
    ∙ ap (λ finish. cond finish (waits ∷ []) (without_first waits.task (waits ∷ []))) begin ∙ ap (λ own. cond own [] (waits ∷ [])) own in
    let only : IsSettledFrom table (waits ∷ []) events (step ∷ run) [] =
    before events table (waits ∷ []) step run [] alone (subst (λ waiting. IsSettledFrom (step_of step table).1 waiting events run []) (sym gone) settled) in
    let Here : Step → Type 0 = λ event. IsSettledFrom table [] (event ∷ events) (step ∷ run) [] in
    subst Here (sym is) ([], step ∷ run, refl, none, only)
  where
    own : eqb waits.task waits.task ≡ true
    own = grind (arith, nat_tests)

-- quiet work before a settled run where nothing waits
quiet_before : (made : List Step) (table : Table) (waiting : List WaitingCall) (events run : List Step) → AllByRecursion Begins waiting
    → IsQuietWork table waiting made → IsSettledFrom (state_after table made) [] events run []
    → IsSettledFrom table [] (events_of made ++ events) (made ++ run) []
quiet_before [] table waiting events run all quiet settled = settled
quiet_before (step ∷ made) table waiting events run all quiet settled =
    at (piece_of Begins begins table waiting step all quiet.0)
    (quiet_before made (step_of step table).1 (waiting_after waiting step) events run (after_all Begins waiting step all) quiet.1 settled)
  where
    rest : List Step
    rest = events_of made ++ events

    kept : (b : Bool) → is_event step ≡ b → cond b (step ∷ events_of made) (events_of made) ≡ events_of (step ∷ made)
    kept b is = ap (λ b. cond b (step ∷ events_of made) (events_of made)) (sym is)

    at : IsPiece Begins table waiting step → IsSettledFrom (step_of step table).1 [] rest (made ++ run) []
        → IsSettledFrom table [] (events_of (step ∷ made) ++ events) (step ∷ (made ++ run)) []
    at (inl it) later =
        subst (λ these. IsSettledFrom table [] (these ++ events) (step ∷ (made ++ run)) []) (kept false (ap is_event it.is))
        (before rest table [] step (made ++ run) [] (it.always [])
        (subst (λ none. IsSettledFrom (step_of step table).1 none rest (made ++ run) []) (sym (ap (waiting_after []) it.is)) later))
    at (inr (inl it)) later =
        subst (λ these. IsSettledFrom table [] (these ++ events) (step ∷ (made ++ run)) []) (kept false (ap is_event it.is))
        (before rest table [] step (made ++ run) [] (it.always [])
        (subst (λ none. IsSettledFrom (step_of step table).1 none rest (made ++ run) []) (sym (ap (waiting_after []) it.is)) later))
    at (inr (inr it)) later =
        subst (λ these. IsSettledFrom table [] (these ++ events) (step ∷ (made ++ run)) []) (kept true (ap is_event it.is ∙ ap not it.begins))
        (call_before rest table it.waits step (made ++ run) it.is it.begins it.quiet it.alone later)

-- an event that was made at once before a settled run where nothing waits
once_before : (event : Step) (table : Table) (run : List Step) → is_event event ≡ true → quiet_step table [] ≡ None
    → IsSettledFrom (state_after table (made_at_once event)) [] (events_of run) run []
    → IsSettledFrom table [] (events_of (made_at_once event ++ run)) (made_at_once event ++ run) []
once_before Tick table run is none settled = ([], run, refl, none, settled)
once_before (Switch core) table run is none settled = absurd (cc (is))
once_before (Interrupt core note) table run is none settled = ([], run, refl, none, settled)
once_before (QueueInterrupt core queue direction) table run is none settled = ([], run, refl, none, settled)
once_before (ResumeInterrupt core task) table run is none settled = ([], run, refl, none, settled)
once_before (Pass units) table run is none settled = ([], run, refl, none, settled)
once_before (steps.Call core task call) table run is none settled = settled

pub quiet_rests : (made : List Step) (table : Table) (waiting : List WaitingCall) → IsQuietWork table waiting made
    → quiet_step (state_after table made) (still_waiting waiting made) ≡ None
quiet_rests [] table waiting quiet = quiet
quiet_rests (step ∷ made) table waiting quiet = quiet_rests made (step_of step table).1 (waiting_after waiting step) quiet.1

settled_again :
    (events : List Step) (table : Table) (waiting : List WaitingCall) (run : List Step) (left : List WaitingCall) → Events events
    → AllByRecursion Begins waiting
    → IsSettledFrom table waiting events run left → IsSettledFrom table [] (events_of run) run []
settled_again [] table waiting run left are all settled =
    let last = quiet_before run table waiting [] [] all settled.0 (none_alone _ _ (quiet_rests run table waiting settled.0), refl) in
    subst (λ run. IsSettledFrom table [] (events_of run) run []) (append-nil run)
    (subst (λ events. IsSettledFrom table [] events (run ++ []) []) (sym (filter-append is_event run [])) last)
settled_again (event ∷ events) table waiting run left are all settled =
    let quiet = settled.0 in
    let once = made_at_once event in
    let entered = with_begins (still_waiting waiting quiet) event are.0 (still_all Begins quiet waiting all) in
    let later = settled_again events _ _ settled.1 left are.1 entered settled.4 in
    let next = fold-append (λ (table : Table) (step : Step). (step_of step table).1) table quiet once in
    let none = none_alone _ _ (quiet_rests quiet table waiting settled.3) in
    let rest =
    once_before event (state_after table quiet) settled.1 are.0 none (subst (λ table. IsSettledFrom table [] (events_of settled.1) settled.1 []) next later)
    in
    let whole = quiet_before quiet table waiting (events_of (once ++ settled.1)) (once ++ settled.1) all settled.3 rest in
    subst (λ run. IsSettledFrom table [] (events_of run) run []) (sym settled.2)
    (subst (λ events. IsSettledFrom table [] events (quiet ++ (once ++ settled.1)) []) (sym (filter-append is_event quiet (once ++ settled.1))) whole)

pub settling_is_settled : (header : Header) (session run : List Step) (left : List WaitingCall) → IsSettled header session run left
    → IsSettled header run run []
settling_is_settled header session run left = settled_again (events_of session) (start header) [] run left (events_are session) tt
