-- Steps that the test finds alike may share a row, and only those.
use Rattle.std.proofs.Common.{◌≡◌, ℕ, Bool, true, false, ◌&&◌, refl, ap, ap₂}
use Rattle.std.specs.Prelude.{◌==◌}
use Rattle.std.proofs.lemmas.Bool.{and_from, and_parts}
use Rattle.std.proofs.lemmas.Bool.Decides.{Decides-eqb}
use Rattle.bench_types.specs.declared.note.NotifyAction.{NotifyAction}
use Rattle.bench_types.specs.declared.note.NotifyAction.TheVariants.{Nothing, SetBits, Increment, Set, SetNew}
use Rattle.bench_types.specs.declared.note.Note.{Note}
use Rattle.bench_types.specs.declared.step.Call.{Call}
use Rattle.bench_types.specs.declared.step.Call.TheVariants.{Yield, Delay, DelayUntil, PrioritySet, AffinitySet, PreemptOff, PreemptOn, Notify, NotifyWait}
use Rattle.bench_types.specs.declared.step.Call.TheVariants.{NotifyTake, StateClear, ValueClear, MutexTake, MutexGive, QueueSend, QueueReceive, Suspend, Resume, Finish, HoldOpen, HoldClose}
use Rattle.bench_types.specs.declared.step.Direction.{Direction}
use Rattle.bench_types.specs.declared.step.Direction.TheVariants.{Send, Receive}
use Rattle.bench_model.specs.SameTest.{are_same_actions, are_same_bools, are_same_calls, are_same_directions, are_same_notes}

-- ---- what is found the same is one

pub one_number : (m n : ℕ) → (m == n) ≡ true → m ≡ n
one_number m n is = (Decides-eqb m n).0 is

one_bool : (a b : Bool) → are_same_bools a b ≡ true → a ≡ b
one_bool true true is = refl
one_bool true false is = absurd (cc is)
one_bool false true is = absurd (cc is)
one_bool false false is = refl

one_action : (a b : NotifyAction) → are_same_actions a b ≡ true → a ≡ b
one_action Nothing Nothing is = refl
one_action (SetBits bits) (SetBits others) is = ap SetBits (one_number bits others is)
one_action Increment Increment is = refl
one_action (Set value) (Set other) is = ap Set (one_number value other is)
one_action (SetNew value) (SetNew other) is = ap SetNew (one_number value other is)
one_action a b is = absurd (cc is)

pub one_note : (a b : Note) → are_same_notes a b ≡ true → a ≡ b
one_note a b is =
    let all = and_parts (a.task == b.task && are_same_actions a.action b.action) (a.index == b.index) is in
    let front = and_parts (a.task == b.task) (are_same_actions a.action b.action) all.0 in
    let task = one_number a.task b.task front.0 in
    let action = one_action a.action b.action front.1 in
    let index = one_number a.index b.index all.1 in
    λ i. record { task = task i; action = action i; index = index i }

pub one_direction : (a b : Direction) → are_same_directions a b ≡ true → a ≡ b
one_direction Send Send is = refl
one_direction Receive Receive is = refl
one_direction a b is = absurd (cc is)

pub direction_itself : (direction : Direction) → are_same_directions direction direction ≡ true
direction_itself Send = refl
direction_itself Receive = refl

two : (a b c d : ℕ) → (a == c && b == d) ≡ true → (a ≡ c) × (b ≡ d)
two a b c d is = let parts = and_parts (a == c) (b == d) is in (one_number a c parts.0, one_number b d parts.1)

three : (a b c d e f : ℕ) → (a == d && b == e && c == f) ≡ true → (a ≡ d) × (b ≡ e) × (c ≡ f)
three a b c d e f is =
    let parts = and_parts (a == d && b == e) (c == f) is in
    let front = two a b d e parts.0 in
    (front.0, front.1, one_number c f parts.1)

pub one_call : (a b : Call) → are_same_calls a b ≡ true → a ≡ b
one_call Yield Yield is = refl
one_call (Delay ticks) (Delay others) is = ap Delay (one_number ticks others is)
one_call (DelayUntil a b) (DelayUntil c d) is = let e = two a b c d is in ap₂ DelayUntil e.0 e.1
one_call (PrioritySet a b) (PrioritySet c d) is = let e = two a b c d is in ap₂ PrioritySet e.0 e.1
one_call (AffinitySet a b) (AffinitySet c d) is = let e = two a b c d is in ap₂ AffinitySet e.0 e.1
one_call (PreemptOff a) (PreemptOff b) is = ap PreemptOff (one_number a b is)
one_call (PreemptOn a) (PreemptOn b) is = ap PreemptOn (one_number a b is)
one_call (Notify a) (Notify b) is = ap Notify (one_note a b is)
one_call (NotifyWait a b c k) (NotifyWait d e f l) is =
    let parts = and_parts (a == d && b == e && c == f) (k == l) is in
    let front = three a b c d e f parts.0 in
    let last = one_number k l parts.1 in
    λ i. NotifyWait (front.0 i) (front.1 i) (front.2 i) (last i)
one_call (NotifyTake a b k) (NotifyTake c d l) is =
    let parts = and_parts (are_same_bools a c && b == d) (k == l) is in
    let front = and_parts (are_same_bools a c) (b == d) parts.0 in
    let clear = one_bool a c front.0 in
    let ticks = one_number b d front.1 in
    let last = one_number k l parts.1 in
    λ i. NotifyTake (clear i) (ticks i) (last i)
one_call (StateClear a b) (StateClear c d) is = let e = two a b c d is in ap₂ StateClear e.0 e.1
one_call (ValueClear a b c) (ValueClear d e f) is =
    let all = three a b c d e f is in
    λ i. ValueClear (all.0 i) (all.1 i) (all.2 i)
one_call (MutexTake a b) (MutexTake c d) is = let e = two a b c d is in ap₂ MutexTake e.0 e.1
one_call (MutexGive a) (MutexGive b) is = ap MutexGive (one_number a b is)
one_call (QueueSend a b) (QueueSend c d) is = let e = two a b c d is in ap₂ QueueSend e.0 e.1
one_call (QueueReceive a b) (QueueReceive c d) is = let e = two a b c d is in ap₂ QueueReceive e.0 e.1
one_call (Suspend a) (Suspend b) is = ap Suspend (one_number a b is)
one_call (Resume a) (Resume b) is = ap Resume (one_number a b is)
one_call Finish Finish is = refl
one_call HoldOpen HoldOpen is = refl
one_call HoldClose HoldClose is = refl
one_call a b is = absurd (cc is)

-- ---- each is found the same as itself

pub number_itself : (n : ℕ) → (n == n) ≡ true
number_itself n = (Decides-eqb n n).1 refl

both : (a b : Bool) → a ≡ true → b ≡ true → (a && b) ≡ true
both a b = and_from a b

bool_itself : (a : Bool) → are_same_bools a a ≡ true
bool_itself true = refl
bool_itself false = refl

action_itself : (action : NotifyAction) → are_same_actions action action ≡ true
action_itself Nothing = refl
action_itself (SetBits bits) = number_itself bits
action_itself Increment = refl
action_itself (Set value) = number_itself value
action_itself (SetNew value) = number_itself value

pub note_itself : (note : Note) → are_same_notes note note ≡ true
note_itself note =
    both (note.task == note.task && are_same_actions note.action note.action) (note.index == note.index)
    (both (note.task == note.task) (are_same_actions note.action note.action) (number_itself note.task) (action_itself note.action)) (number_itself note.index)

two_themselves : (a b : ℕ) → (a == a && b == b) ≡ true
two_themselves a b = both (a == a) (b == b) (number_itself a) (number_itself b)

three_themselves : (a b c : ℕ) → (a == a && b == b && c == c) ≡ true
three_themselves a b c = both (a == a && b == b) (c == c) (two_themselves a b) (number_itself c)

pub call_itself : (call : Call) → are_same_calls call call ≡ true
call_itself Yield = refl
call_itself (Delay ticks) = number_itself ticks
call_itself (DelayUntil a b) = two_themselves a b
call_itself (PrioritySet a b) = two_themselves a b
call_itself (AffinitySet a b) = two_themselves a b
call_itself (PreemptOff a) = number_itself a
call_itself (PreemptOn a) = number_itself a
call_itself (Notify note) = note_itself note
call_itself (NotifyWait a b c k) = both (a == a && b == b && c == c) (k == k) (three_themselves a b c) (number_itself k)
call_itself (NotifyTake a b k) =
    both (are_same_bools a a && b == b) (k == k) (both (are_same_bools a a) (b == b) (bool_itself a) (number_itself b)) (number_itself k)
call_itself (StateClear a b) = two_themselves a b
call_itself (ValueClear a b c) = three_themselves a b c
call_itself (MutexTake a b) = two_themselves a b
call_itself (MutexGive a) = number_itself a
call_itself (QueueSend a b) = two_themselves a b
call_itself (QueueReceive a b) = two_themselves a b
call_itself (Suspend a) = number_itself a
call_itself (Resume a) = number_itself a
call_itself Finish = refl
call_itself HoldOpen = refl
call_itself HoldClose = refl
