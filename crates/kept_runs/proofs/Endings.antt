-- Each step leaves less to do, so that a run that keeps work ends.
use Rattle.std.proofs.Common.{◌≡◌, ℕ, zero, suc, ◌+◌, ◌-◌, ◌<◌, ◌≤◌, Bool, true, false, cond, ltb, List, [], ◌∷◌, ◌++◌, length, Option, Some, None, refl, sym, ap, subst, ◌∙◌, inl, inr, arith}
use Rattle.std.specs.Prelude.{◌⊎◌, filter_map}
use Rattle.std.specs.List.{cons_option}
use Rattle.std.proofs.lemmas.Bool.Decides.{nat_tests}
use Rattle.std.proofs.lemmas.List.{length-append}
use Rattle.std.proofs.lemmas.List.Elements.{filter_map-append}
use Rattle.bench_types.specs.declared.step.Step.{Step}
use Rattle.bench_types.specs.declared.step.Step.TheVariants.{Tick, Switch, Interrupt, QueueInterrupt, ResumeInterrupt, Pass}
use Rattle.bench_types.specs.declared.step.Step.TheVariants as steps
use Rattle.bench_model.specs.Session.{step_of}
use Rattle.bench_model.specs.Table.{Table}
use Rattle.settled_runs.specs.declared.waiting_call.WaitingCall.{WaitingCall}
use Rattle.settled_runs.specs.Settled.{is_finish, quiet_step, waiting_after}
use Rattle.settled_runs.specs.Work.{Work, work_of, IsLess}
use Rattle.settled_runs.proofs.Endings.{piece_lessens, there_is_a_settled_run}
use Rattle.settled_runs.proofs.Pieces.{piece_of}
use Rattle.workload_runs.specs.Rule.{least}
use Rattle.kept_runs.specs.KeptLaws.{BeginningsAreShorter, ThereIsAKeptRun}
use Rattle.kept_runs.specs.Rule.{Progress, after, as_waiting, cut, due_calls, first_progress, next_step, outside_after, rest_of, unmade_after, without_first, works_left, AreNext, IsRunFrom}
use Rattle.kept_runs.specs.declared.works.Outside.{Outside}
use Rattle.kept_runs.specs.declared.works.Unmade.{Unmade}
use Rattle.kept_runs.proofs.Firsts.{due_are_due, waiting_is, without_at, IsDue, IsFirst}
use Rattle.kept_runs.proofs.Keeping.{cut_some, first_keeping, keeping_after, may_wait, next_checked, which_next, IsKeeping}
use Rattle.kept_runs.proofs.Pieces.{from_outside, outside_stays, quiet_inside, IsFromOutside, IsQuiet}

-- ---- recursion by what grows less

-- what holds of an item where it holds of all below holds of each
abbrev Recursion : (X : Type 0) → (X → X → Type 0) → Type 1
Recursion X Below = (P : X → Type 0) → ((x : X) → ((y : X) → Below y x → P y) → P x) → (x : X) → P x

none_below : (X : Type 0) → Recursion X (λ y x. ⊥)
none_below X P step x = step x (λ y below. absurd below)

-- a number is less, or it is the same and the item is below
abbrev IsLower : {X : Type 0} → (X → ℕ) → (X → X → Type 0) → X → X → Type 0
IsLower f Below y x = (f y < f x) ⊎ ((f y ≡ f x) × Below y x)

by_number : (X : Type 0) (f : X → ℕ) (Below : X → X → Type 0) → Recursion X Below → Recursion X (IsLower f Below)
by_number X f Below recursion P step x = up_to (suc (f x)) x (omega arith)
  where
    up_to : (limit : ℕ) (x : X) → f x < limit → P x
    up_to zero x few = absurd (omega (arith, few))
    up_to (suc limit) x few = recursion (λ x. f x < suc limit → P x) (λ x again few. step x (at x again few (up_to limit))) x few
      where
        at : (x : X) → ((y : X) → Below y x → f y < suc limit → P y) → f x < suc limit → ((y : X) → f y < limit → P y) → (y : X) → IsLower f Below y x → P y
        at x again few lower y (inl less) = lower y (omega (arith, less, few))
        at x again few lower y (inr below) = let same = below.0 in again y below.1 (omega (arith, same, few))

-- ---- how much there is to do

abbrev weight : Step → ℕ
weight (Pass units) = suc units
weight step = 1

outside_weight : List Outside → ℕ
outside_weight [] = 0
outside_weight (next ∷ rest) = weight next.step + outside_weight rest

abbrev work_there : Progress → Work
work_there now = work_of now.table (filter_map as_waiting now.unmade)

abbrev LeavesLess : Progress → Progress → Type 0
LeavesLess later now =
    (outside_weight later.outside < outside_weight now.outside)
    ⊎ ((outside_weight later.outside ≡ outside_weight now.outside) × IsLess (work_there later) (work_there now))

-- ---- steps from outside

rest_weight : (now : Progress) (step : Step) → outside_weight (rest_of (cut now step) step) < weight step
unfolding outside_weight
rest_weight now Tick = omega arith
rest_weight now (Switch core) = omega arith
rest_weight now (Interrupt core note) = omega arith
rest_weight now (QueueInterrupt core queue direction) = omega arith
rest_weight now (ResumeInterrupt core task) = omega arith
rest_weight now (steps.Call core task call) = omega arith
rest_weight now (Pass units) = at (ltb (least units (works_left now)) units) refl
  where
    at : (b : Bool) → ltb (least units (works_left now)) units ≡ b
        → outside_weight (cond b (record { step = Pass (units - least units (works_left now)); joined = false } ∷ []) []) < suc units
    at false all = omega arith
    at true less =
        let low : least units (works_left now) < units = grind (arith, nat_tests, less) in
        let some = cut_some now units (omega (arith, low)) in
        omega (arith, low, some)

weight_append : (one other : List Outside) → outside_weight (one ++ other) ≡ outside_weight one + outside_weight other
unfolding outside_weight
weight_append [] other = omega arith
weight_append (next ∷ one) other = let rest = weight_append one other in omega (arith, rest)

outside_lessens : (now : Progress) (step : Step) → IsKeeping now → IsFromOutside now step → LeavesLess (after step now) now
unfolding after outside_weight
outside_lessens now step keeping it =
    let comes = from_outside now step keeping.good it in
    let there : outside_after step now.outside ≡ rest_of step it.next.step ++ it.rest
    = ap (outside_after step) it.are ∙ ap (λ b. cond b (rest_of step it.next.step ++ it.rest) (it.next ∷ it.rest)) comes in
    let less : outside_weight (rest_of step it.next.step) < weight it.next.step
    = subst (λ step. outside_weight (rest_of step it.next.step) < weight it.next.step) (sym it.is) (rest_weight now it.next.step) in
    let later : outside_weight (outside_after step now.outside) ≡ outside_weight (rest_of step it.next.step) + outside_weight it.rest
    = ap outside_weight there ∙ weight_append (rest_of step it.next.step) it.rest in
    let before : outside_weight now.outside ≡ weight it.next.step + outside_weight it.rest = ap outside_weight it.are in
    inl (omega (arith, less, later, before))

-- ---- quiet work

fewer_wait : (unmade : List Unmade) (one : Unmade) (waits : WaitingCall) → IsFirst unmade one → as_waiting one ≡ Some waits
    → suc (length (filter_map as_waiting (without_first waits.task unmade))) ≡ length (filter_map as_waiting unmade)
fewer_wait unmade one waits first is =
    let gone = ap (without_first waits.task) first.parts
    ∙ without_at first.before first.behind one waits.task (waiting_is one waits is).task first.others in
    let without : length (filter_map as_waiting (without_first waits.task unmade))
    ≡ length (filter_map as_waiting first.before) + length (filter_map as_waiting first.behind)
    = ap (λ unmade. length (filter_map as_waiting unmade)) gone ∙ ap length (filter_map-append as_waiting first.before first.behind)
    ∙ length-append (filter_map as_waiting first.before) (filter_map as_waiting first.behind) in
    let whole : length (filter_map as_waiting unmade)
    ≡ length (filter_map as_waiting first.before) + length (filter_map as_waiting (one ∷ first.behind))
    = ap (λ unmade. length (filter_map as_waiting unmade)) first.parts ∙ ap length (filter_map-append as_waiting first.before (one ∷ first.behind))
    ∙ length-append (filter_map as_waiting first.before) (filter_map as_waiting (one ∷ first.behind)) in
    let own : length (filter_map as_waiting (one ∷ first.behind)) ≡ suc (length (filter_map as_waiting first.behind))
    = ap (λ o. length (cons_option o (filter_map as_waiting first.behind))) is in
    omega (arith, without, whole, own)

begins : (now : Progress) (waits : WaitingCall) → IsDue now waits → is_finish waits.call ≡ false
begins now waits due = due.begins

less_waiting : (one other : Table) (few many : List WaitingCall) → suc (length few) ≡ length many → IsLess (work_of one few) (work_of other many)
unfolding work_of
less_waiting one other few many fewer = inl (omega (arith, fewer))

quiet_lessens : (now : Progress) (step : Step) → IsKeeping now → quiet_step now.table (due_calls now) ≡ Some step → LeavesLess (after step now) now
unfolding after
quiet_lessens now step keeping made =
    let piece = piece_of (IsDue now) (begins now) now.table (due_calls now) step (due_are_due now keeping.good.begun) made in
    inr (ap outside_weight (outside_stays step now.outside (quiet_inside now step piece)), at piece)
  where
    whatever : quiet_step now.table (filter_map as_waiting now.unmade) ≡ Some step
        → waiting_after (filter_map as_waiting now.unmade) step ≡ filter_map as_waiting now.unmade → unmade_after step now.unmade ≡ now.unmade
        → IsLess (work_of (step_of step now.table).1 (filter_map as_waiting (unmade_after step now.unmade))) (work_of now.table (filter_map as_waiting now.unmade))
    whatever always waits unmade =
        subst (λ waiting. IsLess (work_of (step_of step now.table).1 waiting) (work_of now.table (filter_map as_waiting now.unmade)))
        (waits ∙ sym (ap (filter_map as_waiting) unmade))
        (piece_lessens now.table (filter_map as_waiting now.unmade) step keeping.sound (may_wait now.table.settings now.unmade keeping.may) always)

    at : IsQuiet now step
        → IsLess (work_of (step_of step now.table).1 (filter_map as_waiting (unmade_after step now.unmade))) (work_of now.table (filter_map as_waiting now.unmade))
    at (inl it) =
        whatever (it.always (filter_map as_waiting now.unmade)) (ap (waiting_after (filter_map as_waiting now.unmade)) it.is)
        (ap (λ step. unmade_after step now.unmade) it.is)
    at (inr (inl it)) =
        whatever (it.always (filter_map as_waiting now.unmade)) (ap (waiting_after (filter_map as_waiting now.unmade)) it.is)
        (ap (λ step. unmade_after step now.unmade) it.is)
    at (inr (inr it)) =
        let due : IsDue now it.waits = it.may in
        let gone : unmade_after step now.unmade ≡ without_first it.waits.task now.unmade
        = ap (λ step. unmade_after step now.unmade) it.is ∙ ap (λ b. cond b now.unmade (without_first it.waits.task now.unmade)) it.begins in
        less_waiting (step_of step now.table).1 now.table (filter_map as_waiting (unmade_after step now.unmade)) (filter_map as_waiting now.unmade)
        (ap (λ unmade. suc (length (filter_map as_waiting unmade))) gone ∙ fewer_wait now.unmade due.one it.waits due.first due.is)

next_lessens : (now : Progress) (step : Step) → IsKeeping now → next_step now ≡ Some step → LeavesLess (after step now) now
next_lessens now step keeping is = at (which_next now step is)
  where
    at : (quiet_step now.table (due_calls now) ≡ Some step) ⊎ IsFromOutside now step → LeavesLess (after step now) now
    at (inl quiet) = quiet_lessens now step keeping quiet
    at (inr it) = outside_lessens now step keeping it

-- ---- there is a run

abbrev Ends : Progress → Type 0
Ends now = IsKeeping now → (run : List Step) × (left : List WaitingCall) × IsRunFrom now run left

abbrev Lower : Progress → Progress → Type 0
Lower =
    IsLower (λ now. outside_weight now.outside)
    (IsLower (λ now. (work_there now).waiting) (IsLower (λ now. (work_there now).unfinished) (IsLower (λ now. (work_there now).due) (λ later now. ⊥))))

lower : (later now : Progress) → LeavesLess later now → Lower later now
lower later now (inl less) = inl less
lower later now (inr (same, inl fewer)) = inr (same, inl fewer)
lower later now (inr (same, inr (waits, inl fewer))) = inr (same, inr (waits, inl fewer))
lower later now (inr (same, inr (waits, inr (calls, lighter)))) = inr (same, inr (waits, inr (calls, inl lighter)))

all_lower : Recursion Progress Lower
all_lower =
    by_number Progress (λ now. outside_weight now.outside) _
    (by_number Progress (λ now. (work_there now).waiting) _
    (by_number Progress (λ now. (work_there now).unfinished) _
    (by_number Progress (λ now. (work_there now).due) _ (none_below Progress))))

next_ends : (now : Progress) → ((later : Progress) → Lower later now → Ends later) → Ends now
next_ends now below keeping = at (next_step now) refl
  where
    at : (o : Option Step) → next_step now ≡ o → (run : List Step) × (left : List WaitingCall) × IsRunFrom now run left
    at None none = ([], filter_map as_waiting now.unmade, (none, refl))
    at (Some step) some =
        let rest =
        below (after step now) (lower (after step now) now (next_lessens now step keeping some))
        (keeping_after step now keeping (next_checked now step keeping some)) in
        (step ∷ rest.0, rest.1, (some, rest.2))

pub there_is_a_kept_run : ThereIsAKeptRun
there_is_a_kept_run order session edits is edited =
    let settles = there_is_a_settled_run session is in
    let now = first_progress order session edits settles.0 in
    let ends = all_lower Ends next_ends now (first_keeping order session edits settles.0 edited) in
    (ends.0, ends.1, record { settled = settles.0; waiting = settles.1; is_settled = settles.2; is_run = ends.2 })

-- a beginning is no longer than the run
shorter : (beginning run : List Step) (now : Progress) (left : List WaitingCall) → AreNext now beginning → IsRunFrom now run left
    → length beginning ≤ length run
shorter [] run now left next is = omega arith
shorter (s ∷ beginning) [] now left next is = absurd (cc (next.0, is.0))
shorter (s ∷ beginning) (t ∷ run) now left next is =
    let same : t ≡ s = cc (next.0, is.0) in
    let rest = subst (λ t. IsRunFrom (after t now) run left) same is.1 in
    let fewer : length beginning ≤ length run = shorter beginning run (after s now) left next.1 rest in
    omega arith

pub beginnings_are_shorter : BeginningsAreShorter
beginnings_are_shorter now beginning run left next is = shorter beginning run now left next is
