-- What the next step is: a piece of quiet work, or a step from outside; and what is kept behind it.
use Rattle.std.proofs.Common.{◌≡◌, true, false, cond, List, [], ◌∷◌, ◌++◌, Option, Some, None, refl, ap, subst, ◌∙◌, inl, inr}
use Rattle.std.specs.Prelude.{◌-◌, ◌⊎◌, nat_lt, option_map, slice_get}
use Rattle.std.specs.List.{AllByRecursion}
use Rattle.std.specs.Option.{option_or}
use Rattle.bench_types.specs.declared.step.Step.{Step}
use Rattle.bench_types.specs.declared.step.Step.TheVariants.{Tick, Switch, Interrupt, QueueInterrupt, ResumeInterrupt, Pass}
use Rattle.bench_types.specs.declared.step.Step.TheVariants as steps
use Rattle.list_orders.proofs.Filters.{All-append}
use Rattle.settled_runs.specs.Settled.{is_finish, quiet_step}
use Rattle.settled_runs.specs.SettleLaws.{comes_from_outside}
use Rattle.settled_runs.specs.declared.waiting_call.WaitingCall.{WaitingCall}
use Rattle.settled_runs.proofs.Pieces.{IsPiece, piece_of}
use Rattle.kept_runs.specs.Rule.{Progress, after, cut, due_calls, next_step, outside_after, outside_step, rest_of, unmade_after, without_first}
use Rattle.kept_runs.specs.declared.works.Outside.{Outside}
use Rattle.kept_runs.specs.declared.works.Unmade.{Unmade}
use Rattle.kept_runs.specs.OrderLaws.{HasBegun}
use Rattle.kept_runs.proofs.Firsts.{due_are_due, without_first_all, IsDue}

-- ---- where a step comes from

abbrev pub IsQuiet : Progress → Step → Type 0
IsQuiet now step = IsPiece (IsDue now) now.table (due_calls now) step

pub record IsFromOutside (now : Progress) (step : Step) : Type 0 where
  pub next : Outside
  pub rest : List Outside
  pub are : now.outside ≡ next ∷ rest
  pub is : step ≡ cut now next.step
  pub quiet : quiet_step now.table (due_calls now) ≡ None

begins : (now : Progress) (waits : WaitingCall) → IsDue now waits → is_finish waits.call ≡ false
begins now waits due = due.begins

pub next_is : (now : Progress) (step : Step) → outside_step now ≡ Some step → quiet_step now.table (due_calls now) ≡ None → IsFromOutside now step
unfolding outside_step
next_is now step is quiet = at now.outside refl is
  where
    at : (outside : List Outside) → now.outside ≡ outside → option_map (λ (next : Outside). cut now next.step) (slice_get outside 0) ≡ Some step
        → IsFromOutside now step
    at [] are is = absurd (cc is)
    at (next ∷ rest) are is = record { next = next; rest = rest; are = are; is = cc is; quiet = quiet }

pub origin : (now : Progress) (step : Step) → AllByRecursion HasBegun now.unmade → next_step now ≡ Some step → IsQuiet now step ⊎ IsFromOutside now step
unfolding next_step
origin now step begun is = at (quiet_step now.table (due_calls now)) refl is
  where
    at : (o : Option Step) → quiet_step now.table (due_calls now) ≡ o → option_or o (outside_step now) ≡ Some step → IsQuiet now step ⊎ IsFromOutside now step
    at None none is = inr (next_is now step is none)
    at (Some piece) some is = inl (piece_of (IsDue now) (begins now) now.table (due_calls now) step (due_are_due now begun) (some ∙ is))

pub record NoneIsNext (now : Progress) : Type 0 where
  pub quiet : quiet_step now.table (due_calls now) ≡ None
  pub outside : now.outside ≡ []

pub none_next : (now : Progress) → next_step now ≡ None → NoneIsNext now
unfolding next_step outside_step
none_next now is = at (quiet_step now.table (due_calls now)) refl now.outside refl is
  where
    at :
        (o : Option Step) → quiet_step now.table (due_calls now) ≡ o → (outside : List Outside) → now.outside ≡ outside
        → option_or o (option_map (λ (next : Outside). cut now next.step) (slice_get outside 0)) ≡ None → NoneIsNext now
    at None none [] are is = record { quiet = none; outside = are }
    at None none (next ∷ rest) are is = absurd (cc is)
    at (Some piece) some outside are is = absurd (cc is)

-- ---- what is kept

abbrev pub ComesFromOutside : Outside → Type 0
ComesFromOutside one = comes_from_outside one.step ≡ true

pub record IsGood (now : Progress) : Type 0 where
  pub begun : AllByRecursion HasBegun now.unmade
  pub outsides : AllByRecursion ComesFromOutside now.outside

pub unmade_all : (P : Unmade → Type 0) (step : Step) (unmade : List Unmade) → AllByRecursion P unmade → AllByRecursion P (unmade_after step unmade)
unmade_all P Tick unmade all = all
unmade_all P (Switch core) unmade all = all
unmade_all P (Interrupt core note) unmade all = all
unmade_all P (QueueInterrupt core queue direction) unmade all = all
unmade_all P (ResumeInterrupt core task) unmade all = all
unmade_all P (Pass units) unmade all = all
unmade_all P (steps.Call core task call) unmade all =
    elim (is_finish call) as (λ b. AllByRecursion P (cond b unmade (without_first task unmade)))
    [ true ↦ all | false ↦ without_first_all P task unmade all ]

rest_all : (made step : Step) → AllByRecursion ComesFromOutside (rest_of made step)
rest_all (Pass made) (Pass units) =
    elim (nat_lt made units) as (λ b. AllByRecursion ComesFromOutside (cond b (record { step = Pass (units - made); joined = false } ∷ []) []))
    [ true ↦ (refl, tt) | false ↦ tt ]
rest_all made step = tt

outside_all : (step : Step) (outside : List Outside) → AllByRecursion ComesFromOutside outside → AllByRecursion ComesFromOutside (outside_after step outside)
outside_all step [] all = tt
outside_all step (next ∷ rest) all =
    elim (comes_from_outside step) as (λ b. AllByRecursion ComesFromOutside (cond b (rest_of step next.step ++ rest) (next ∷ rest)))
    [ true ↦ All-append ComesFromOutside (rest_of step next.step) rest (rest_all step next.step) all.1 | false ↦ all ]

pub good_after : (step : Step) (now : Progress) → IsGood now → IsGood (after step now)
unfolding after
good_after step now good = record {
  begun = unmade_all HasBegun step now.unmade good.begun;
  outsides = outside_all step now.outside good.outsides;
}

-- ---- steps from outside

pub cut_outside : (now : Progress) (step : Step) → comes_from_outside (cut now step) ≡ comes_from_outside step
cut_outside now Tick = refl
cut_outside now (Switch core) = refl
cut_outside now (Interrupt core note) = refl
cut_outside now (QueueInterrupt core queue direction) = refl
cut_outside now (ResumeInterrupt core task) = refl
cut_outside now (Pass units) = refl
cut_outside now (steps.Call core task call) = refl

pub from_outside : (now : Progress) (step : Step) → IsGood now → IsFromOutside now step → comes_from_outside step ≡ true
from_outside now step good it =
    let all = subst (AllByRecursion ComesFromOutside) it.are good.outsides in
    ap comes_from_outside it.is ∙ cut_outside now it.next.step ∙ all.0

-- a step that doesn't come from outside leaves those that are to come
pub outside_stays : (step : Step) (outside : List Outside) → comes_from_outside step ≡ false → outside_after step outside ≡ outside
outside_stays step [] inside = refl
outside_stays step (next ∷ rest) inside = ap (λ b. cond b (rest_of step next.step ++ rest) (next ∷ rest)) inside

-- a step from outside leaves the calls
pub unmade_stays : (step : Step) (unmade : List Unmade) → comes_from_outside step ≡ true → unmade_after step unmade ≡ unmade
unmade_stays Tick unmade is = refl
unmade_stays (Switch core) unmade is = refl
unmade_stays (Interrupt core note) unmade is = refl
unmade_stays (QueueInterrupt core queue direction) unmade is = refl
unmade_stays (ResumeInterrupt core task) unmade is = refl
unmade_stays (Pass units) unmade is = refl
unmade_stays (steps.Call core task call) unmade is = absurd (cc is)

-- quiet work doesn't come from outside
pub quiet_inside : (now : Progress) (step : Step) → IsQuiet now step → comes_from_outside step ≡ false
quiet_inside now step (inl it) = ap comes_from_outside it.is
quiet_inside now step (inr (inl it)) = ap comes_from_outside it.is
quiet_inside now step (inr (inr it)) = ap comes_from_outside it.is
