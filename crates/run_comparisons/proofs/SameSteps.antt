-- `==` of calls says what their test says, and `==` of steps holds of equal steps alone.
use Rattle.std.proofs.Common.{◌≡◌, ◌∙◌, ℕ, Bool, true, false, ◌&&◌, refl, sym, ap, ap₂}
use Rattle.std.specs.Prelude.{◌==◌}
use Rattle.std.proofs.lemmas.Bool.{and_parts}
use Rattle.bench_types.specs.contracts.note.NotePartialEq.TheImpl as notes
use Rattle.bench_types.specs.contracts.note.NotifyActionPartialEq.TheImpl as actions
use Rattle.bench_types.specs.contracts.step.CallPartialEq.TheImpl as calls
use Rattle.bench_types.specs.contracts.step.DirectionPartialEq.TheImpl as directions
use Rattle.bench_types.specs.contracts.step.StepPartialEq.TheImpl as steps
use Rattle.bench_types.specs.declared.note.NotifyAction.{NotifyAction}
use Rattle.bench_types.specs.declared.note.NotifyAction.TheVariants.{Nothing, SetBits, Increment, Set, SetNew}
use Rattle.bench_types.specs.declared.note.Note.{Note}
use Rattle.bench_types.specs.declared.step.Call.{Call}
use Rattle.bench_types.specs.declared.step.Call.TheVariants.{Yield, Delay, DelayUntil, PrioritySet, AffinitySet, PreemptOff, PreemptOn, Notify, NotifyWait}
use Rattle.bench_types.specs.declared.step.Call.TheVariants.{NotifyTake, StateClear, ValueClear, MutexTake, MutexGive, QueueSend, QueueReceive, Suspend, Resume, Finish, HoldOpen, HoldClose}
use Rattle.bench_types.specs.declared.step.Direction.{Direction}
use Rattle.bench_types.specs.declared.step.Direction.TheVariants.{Send, Receive}
use Rattle.bench_types.specs.declared.step.Step.{Step}
use Rattle.bench_types.specs.declared.step.Step.TheVariants as step
use Rattle.bench_model.specs.SameTest.{are_same_actions, are_same_calls, are_same_directions, are_same_notes}
use Rattle.run_comparisons.proofs.SameCalls.{one_call, one_direction, one_note, one_number}

-- ---- what `==` says of a call is what the test says

same_actions : (a b : NotifyAction) → actions.eq-value.it a b ≡ are_same_actions a b
same_actions Nothing Nothing = refl
same_actions (SetBits a) (SetBits b) = refl
same_actions Increment Increment = refl
same_actions (Set a) (Set b) = refl
same_actions (SetNew a) (SetNew b) = refl
same_actions a b = refl

and_moved : (a b c : Bool) → (a && (b && c)) ≡ ((a && b) && c)
and_moved true b c = refl
and_moved false b c = refl

same_notes : (a b : Note) → notes.eq-value.it a b ≡ are_same_notes a b
same_notes a b =
    ap (λ x. (a.task == b.task) && (x && (a.index == b.index))) (same_actions a.action b.action)
    ∙ and_moved (a.task == b.task) (are_same_actions a.action b.action) (a.index == b.index)

same_directions : (a b : Direction) → directions.eq-value.it a b ≡ are_same_directions a b
same_directions Send Send = refl
same_directions Receive Receive = refl
same_directions a b = refl

pub same_calls : (a b : Call) → calls.eq-value.it a b ≡ are_same_calls a b
same_calls Yield Yield = refl
same_calls (Delay a) (Delay b) = refl
same_calls (DelayUntil a b) (DelayUntil c d) = refl
same_calls (PrioritySet a b) (PrioritySet c d) = refl
same_calls (AffinitySet a b) (AffinitySet c d) = refl
same_calls (PreemptOff a) (PreemptOff b) = refl
same_calls (PreemptOn a) (PreemptOn b) = refl
same_calls (Notify a) (Notify b) = same_notes a b
same_calls (NotifyWait a b c k) (NotifyWait d e f l) =
    ap (λ x. (a == d) && x) (and_moved (b == e) (c == f) (k == l)) ∙ and_moved (a == d) (b == e && c == f) (k == l)
    ∙ ap (λ x. x && (k == l)) (and_moved (a == d) (b == e) (c == f))
same_calls (NotifyTake true b k) (NotifyTake true d l) = refl
same_calls (NotifyTake false b k) (NotifyTake false d l) = refl
same_calls (NotifyTake true b k) (NotifyTake false d l) = refl
same_calls (NotifyTake false b k) (NotifyTake true d l) = refl
same_calls (StateClear a b) (StateClear c d) = refl
same_calls (ValueClear a b c) (ValueClear d e f) = and_moved (a == d) (b == e) (c == f)
same_calls (MutexTake a b) (MutexTake c d) = refl
same_calls (MutexGive a) (MutexGive b) = refl
same_calls (QueueSend a b) (QueueSend c d) = refl
same_calls (QueueReceive a b) (QueueReceive c d) = refl
same_calls (Suspend a) (Suspend b) = refl
same_calls (Resume a) (Resume b) = refl
same_calls Finish Finish = refl
same_calls HoldOpen HoldOpen = refl
same_calls HoldClose HoldClose = refl
same_calls a b = refl

-- ---- steps of which `==` holds are equal

two : (a b c d : ℕ) → (a == c && b == d) ≡ true → (a ≡ c) × (b ≡ d)
two a b c d is = let parts = and_parts (a == c) (b == d) is in (one_number a c parts.0, one_number b d parts.1)

pub same_steps : (a b : Step) → steps.eq-value.it a b ≡ true → a ≡ b
same_steps step.Tick step.Tick is = refl
same_steps (step.Switch a) (step.Switch b) is = ap step.Switch (one_number a b is)
same_steps (step.Call a b c) (step.Call d e f) is =
    let parts = and_parts (a == d) (b == e && calls.eq-value.it c f) is in
    let rest = and_parts (b == e) (calls.eq-value.it c f) parts.1 in
    let core = one_number a d parts.0 in
    let task = one_number b e rest.0 in
    let call = one_call c f (sym (same_calls c f) ∙ rest.1) in
    λ i. step.Call (core i) (task i) (call i)
same_steps (step.Interrupt a b) (step.Interrupt c d) is =
    let parts = and_parts (a == c) (notes.eq-value.it b d) is in
    ap₂ step.Interrupt (one_number a c parts.0) (one_note b d (sym (same_notes b d) ∙ parts.1))
same_steps (step.QueueInterrupt a b c) (step.QueueInterrupt d e f) is =
    let parts = and_parts (a == d) (b == e && directions.eq-value.it c f) is in
    let rest = and_parts (b == e) (directions.eq-value.it c f) parts.1 in
    let core = one_number a d parts.0 in
    let queue = one_number b e rest.0 in
    let way = one_direction c f (sym (same_directions c f) ∙ rest.1) in
    λ i. step.QueueInterrupt (core i) (queue i) (way i)
same_steps (step.ResumeInterrupt a b) (step.ResumeInterrupt c d) is =
    let both = two a b c d is in ap₂ step.ResumeInterrupt both.0 both.1
same_steps (step.Pass a) (step.Pass b) is = ap step.Pass (one_number a b is)
same_steps a b is = absurd (cc is)
