-- What is refused in a run after edits.
use Rattle.std.proofs.Common.{◌≡◌, ℕ, ◌+◌, ◌≤◌, ◌<◌, Bool, true, false, List, [], ◌∷◌, length, Option, Some, None, refl, ap, sym, ◌∙◌, arith, inl}
use Rattle.std.proofs.Common.{inr}
use Rattle.std.specs.Prelude.{◌↔◌, IsTrue, option_map}
use Rattle.std.specs.Option.{option_map_or}
use Rattle.std.proofs.lemmas.Bool.{cases_lt}
use Rattle.std.proofs.lemmas.Option.{slice_get_past}
use Rattle.bench_types.specs.declared.header.Header.{Header}
use Rattle.bench_types.specs.declared.reply.Refusal.{Refusal}
use Rattle.bench_types.specs.declared.reply.Reply.{Reply}
use Rattle.bench_types.specs.declared.reply.Reply.TheVariants.{Done, Blocked, Flag, Value, Waited, Until, Isr, Refused}
use Rattle.bench_types.specs.declared.step.Step.{Step}
use Rattle.bench_types.specs.Session.{Session}
use Rattle.bench_model.specs.Session.{reply_at, state_at, step_of}
use Rattle.session_runs.specs.Run.{RunView}
use Rattle.run_views.specs.RefusedSteps.{is_refusal, HasRefusedStep}
use Rattle.run_comparisons.specs.Refusals.{HasRefusal}

-- ---- one step

-- whether the step at the place is refused
abbrev pub refused_at : Session → ℕ → Bool
refused_at session place = option_map_or is_refusal (reply_at session.header session.steps place) false

-- no step before the place is refused
abbrev pub NoneBefore : Session → ℕ → Type 0
NoneBefore session place = (early : ℕ) → early < place → refused_at session early ≡ false

reason : (reply : Reply) → is_refusal reply ≡ true → (why : Refusal) × (reply ≡ Refused why)
reason Done is = absurd (cc is)
reason Blocked is = absurd (cc is)
reason (Flag flag) is = absurd (cc is)
reason (Value value) is = absurd (cc is)
reason (Waited ok value) is = absurd (cc is)
reason (Until delayed wake) is = absurd (cc is)
reason (Isr pass pend) is = absurd (cc is)
reason (Refused why) is = (why, refl)

reason_at : (reply : Option Reply) → option_map_or is_refusal reply false ≡ true → (why : Refusal) × (reply ≡ Some (Refused why))
reason_at None is = absurd (cc is)
reason_at (Some reply) is = let why = reason reply is in (why.0, ap Some why.1)

-- a step is refused
pub one_is : (session : Session) (place : ℕ) (found : Bool) → found ≡ refused_at session place → found ≡ true → IsTrue true ↔ HasRefusedStep session.header
    session.steps
one_is session place found is holds =
    let why = reason_at (reply_at session.header session.steps place) (sym is ∙ holds) in
    (λ i. (place, why.0, why.1), λ some. refl)

-- the next step is not refused
pub passed_by : (session : Session) (place : ℕ) (found : Bool) → NoneBefore session place → found ≡ refused_at session place → found ≡ false → NoneBefore session
    (place + 1)
passed_by session place found none is fails early before = elim (cases_lt early place) [
  | inl earlier ↦ none early earlier
  | inr later ↦
      let here : early ≡ place = omega (arith, later, before) in
      ap (refused_at session) here ∙ sym is ∙ fails
]

-- there is no reply past the last step
past_last : (header : Header) (steps : List Step) (place : ℕ) → length steps ≤ place → reply_at header steps place ≡ None
unfolding reply_at
past_last header steps place past = ap (option_map (λ (step : Step). (step_of step (state_at header steps place)).0)) (slice_get_past steps place past)

-- no step is refused
pub none_is : (session : Session) (place : ℕ) → NoneBefore session place → length session.steps ≤ place → IsTrue false ↔ HasRefusedStep session.header
    session.steps
none_is session place none past = (
  λ i. absurd (cc i),
  λ some. absurd (elim (cases_lt some.0 place) [
    | inl early ↦
        let holds : refused_at session some.0 ≡ true = ap (λ (reply : Option Reply). option_map_or is_refusal reply false) some.2 in
        let fails = none some.0 early in
        cc (holds, fails)
    | inr late ↦
        let not = past_last session.header session.steps some.0 (omega (arith, late, past)) in
        let is = some.2 in
        cc (not, is)
  ]),
)

-- ---- edits and a run

pub of_edit : (run : RunView) (refused : List ℕ) → 1 ≤ length refused → IsTrue true ↔ HasRefusal run refused
of_edit run [] some = absurd (omega (arith, some))
of_edit run (place ∷ places) some = (λ i. inl (λ none. cc none), λ all. refl)

pub of_run : (run : RunView) (refused : List ℕ) (step : Bool) → length refused ≡ 0 → (IsTrue step ↔ HasRefusedStep run.session.header run.session.steps)
    → IsTrue step ↔ HasRefusal run refused
of_run run [] step none of_step = (λ i. inr (of_step.0 i), back)
  where
    back : HasRefusal run [] → IsTrue step
    back (inl edit) = absurd (edit refl)
    back (inr refused) = of_step.1 refused
of_run run (place ∷ places) step none of_step = absurd (omega (arith, none))
