-- The test of equal kernels tells whether they are equal: each part of it tells so of its values.
use Rattle.std.proofs.Common.{◌≡◌, Bool, true, false, ◌&&◌, [], ◌∷◌, Some, None, refl, ap, sym, true≢false}
use Rattle.std.specs.Prelude.{◌↔◌, Decides, nat_eq}
use Rattle.std.proofs.lemmas.Bool.Decides.{Decides-eqb, Decides-and, Decides-like}
use Rattle.bench_types.specs.declared.note.NotifyAction.TheVariants.{Nothing, SetBits, Increment, Set, SetNew}
use Rattle.bench_types.specs.declared.note.NoteState.TheVariants.{NotWaiting, Waiting, Received}
use Rattle.bench_types.specs.declared.step.Call.TheVariants.{Yield, Delay, DelayUntil, PrioritySet, AffinitySet, PreemptOff, PreemptOn, Notify, NotifyWait}
use Rattle.bench_types.specs.declared.step.Call.TheVariants.{NotifyTake, StateClear, ValueClear, MutexTake, MutexGive, QueueSend, QueueReceive, Suspend, Resume, Finish, HoldOpen, HoldClose}
use Rattle.bench_types.specs.declared.step.Direction.TheVariants.{Send, Receive}
use Rattle.bench_types.specs.declared.step.BlockingCall.{BlockingCall}
use Rattle.bench_types.specs.declared.step.BlockingCall.TheVariants as blocking
use Rattle.bench_types.specs.declared.step.Unfinished.TheVariants.{Made, Take, Transfer}
use Rattle.bench_types.specs.Step.{as_call}
use Rattle.bench_model.specs.Equal.{Same}
use Rattle.bench_model.specs.Lists.{view_of}
use Rattle.bench_model.specs.SameTest.{are_same_bools, are_same_options, are_same_lists, are_same_settings, are_same_looks, are_same_blocks, are_same_actions}
use Rattle.bench_model.specs.SameTest.{are_same_notes, are_same_states, are_same_notifications, are_same_calls, are_same_directions, are_same_unfinished, are_same_queues, are_same_holds}
use Rattle.bench_model.specs.SameTest.{are_same_delays, are_same_waiters, are_same_controls, are_same_orders, are_same_views, is_same}
use Rattle.bench_model.specs.Table.{Table}

-- the test tells of any two values whether they are equal
abbrev pub Tells : {X : Type 0} → (X → X → Bool) → Type 0
Tells {X} same = (x y : X) → Decides (same x y) (x ≡ y)

-- two values that the test never finds equal, and that are not
apart : {P : Type 0} → (P → ⊥) → Decides false P
apart never = (λ e. absurd (true≢false (sym e)), λ p. absurd (never p))

bools : Tells are_same_bools
bools true true = (λ e. refl, λ e. refl)
bools true false = (λ e. absurd (true≢false (sym e)), λ e. absurd (true≢false e))
bools false true = (λ e. absurd (true≢false (sym e)), λ e. absurd (true≢false (sym e)))
bools false false = (λ e. refl, λ e. refl)

options : {X : Type 0} (same : X → X → Bool) → Tells same → Tells (are_same_options same)
options same tells None None = (λ e. refl, λ e. refl)
options same tells (Some x) (Some y) = Decides-like (same x y) (λ e. ap Some e) (λ e. cc e) (tells x y)
options same tells None (Some y) = apart (λ e. cc e)
options same tells (Some x) None = apart (λ e. cc e)

lists : {X : Type 0} (same : X → X → Bool) → Tells same → Tells (are_same_lists same)
lists same tells [] [] = (λ e. refl, λ e. refl)
lists same tells (x ∷ xs) (y ∷ ys) = Decides-like (same x y && are_same_lists same xs ys) (λ e i. e.0 i ∷ e.1 i) (λ e. (cc e, cc e))
    (Decides-and (same x y) (are_same_lists same xs ys) (tells x y) (lists same tells xs ys))
lists same tells [] (y ∷ ys) = apart (λ e. cc e)
lists same tells (x ∷ xs) [] = apart (λ e. cc e)

-- both tests of two
two : {P Q : Type 0} {x y : Bool} → Decides x P → Decides y Q → Decides (x && y) (P × Q)
two {x = x} {y = y} first second = Decides-and x y first second

-- ---- the data of a kernel, field by field

settings : Tells are_same_settings
settings a b = Decides-like (are_same_settings a b)
    (λ h i. record {
      cores = h.0.0.0.0.0.0.0 i;
      priorities = h.0.0.0.0.0.0.1 i;
      slicing = h.0.0.0.0.0.1 i;
      mutexes = h.0.0.0.0.1 i;
      notes = h.0.0.0.1 i;
      queues = h.0.0.1 i;
      units = h.0.1 i;
      tasks = h.1 i;
    })
    (λ e. (((((((λ i. (e i).cores, λ i. (e i).priorities), λ i. (e i).slicing), λ i. (e i).mutexes), λ i. (e i).notes), λ i. (e i).queues), λ i. (e i).units), λ i. (e i).tasks))
    (two (two (two (two (two (two (two (Decides-eqb a.cores b.cores) (Decides-eqb a.priorities b.priorities)) (bools a.slicing b.slicing))
    (Decides-eqb a.mutexes b.mutexes)) (Decides-eqb a.notes b.notes)) (options (λ m n. nat_eq m n) Decides-eqb a.queues b.queues)) (Decides-eqb a.units b.units)) (Decides-eqb a.tasks b.tasks))

looks : Tells are_same_looks
looks a b = Decides-like (are_same_looks a b)
    (λ h i. record { current = h.0.0 i; pend = h.0.1 i; asked = h.1 i })
    (λ e. ((λ i. (e i).current, λ i. (e i).pend), λ i. (e i).asked))
    (two (two (Decides-eqb a.current b.current) (bools a.pend b.pend)) (bools a.asked b.asked))

blocks : Tells are_same_blocks
blocks a b = Decides-like (are_same_blocks a b)
    (λ h i. record { base = h.0.0.0 i; in_use = h.0.0.1 i; mask = h.0.1 i; preempt = h.1 i })
    (λ e. (((λ i. (e i).base, λ i. (e i).in_use), λ i. (e i).mask), λ i. (e i).preempt))
    (two (two (two (Decides-eqb a.base b.base) (Decides-eqb a.in_use b.in_use)) (Decides-eqb a.mask b.mask)) (bools a.preempt b.preempt))

holds : Tells are_same_holds
holds a b = Decides-like (are_same_holds a b)
    (λ h i. record { core = h.0 i; depth = h.1 i })
    (λ e. (λ i. (e i).core, λ i. (e i).depth))
    (two (Decides-eqb a.core b.core) (Decides-eqb a.depth b.depth))

delays : Tells are_same_delays
delays a b = Decides-like (are_same_delays a b)
    (λ h i. record { task = h.0 i; left = h.1 i })
    (λ e. (λ i. (e i).task, λ i. (e i).left))
    (two (Decides-eqb a.task b.task) (Decides-eqb a.left b.left))

queues : Tells are_same_queues
queues a b = Decides-like (are_same_queues a b)
    (λ h i. record { length = h.0 i; messages = h.1 i })
    (λ e. (λ i. (e i).length, λ i. (e i).messages))
    (two (Decides-eqb a.length b.length) (Decides-eqb a.messages b.messages))

waiters : Tells are_same_waiters
waiters a b = Decides-like (are_same_waiters a b)
    (λ h i. record { task = h.0.0 i; wait = record { list = h.0.1 i; priority = h.1 i } })
    (λ e. ((λ i. (e i).task, λ i. (e i).wait.list), λ i. (e i).wait.priority))
    (two (two (Decides-eqb a.task b.task) (Decides-eqb a.wait.list b.wait.list)) (Decides-eqb a.wait.priority b.wait.priority))

-- ---- notifications

actions : Tells are_same_actions
actions Nothing Nothing = (λ e. refl, λ e. refl)
actions (SetBits bits) (SetBits others) = Decides-like (are_same_actions (SetBits bits) (SetBits others)) (λ e. ap SetBits e) (λ e. cc e)
    (Decides-eqb bits others)
actions Increment Increment = (λ e. refl, λ e. refl)
actions (Set value) (Set other) = Decides-like (are_same_actions (Set value) (Set other)) (λ e. ap Set e) (λ e. cc e) (Decides-eqb value other)
actions (SetNew value) (SetNew other) = Decides-like (are_same_actions (SetNew value) (SetNew other)) (λ e. ap SetNew e) (λ e. cc e) (Decides-eqb value other)
actions a b = apart (λ e. cc e)

notes : Tells are_same_notes
notes a b = Decides-like (are_same_notes a b)
    (λ h i. record { task = h.0.0 i; action = h.0.1 i; index = h.1 i })
    (λ e. ((λ i. (e i).task, λ i. (e i).action), λ i. (e i).index))
    (two (two (Decides-eqb a.task b.task) (actions a.action b.action)) (Decides-eqb a.index b.index))

states : Tells are_same_states
states NotWaiting NotWaiting = (λ e. refl, λ e. refl)
states Waiting Waiting = (λ e. refl, λ e. refl)
states Received Received = (λ e. refl, λ e. refl)
states a b = apart (λ e. cc e)

notifications : Tells are_same_notifications
notifications a b = Decides-like (are_same_notifications a b)
    (λ h i. record { value = h.0 i; state = h.1 i })
    (λ e. (λ i. (e i).value, λ i. (e i).state))
    (two (Decides-eqb a.value b.value) (states a.state b.state))

-- ---- calls

calls : Tells are_same_calls
calls Yield Yield = (λ e. refl, λ e. refl)
calls (Delay ticks) (Delay others) = Decides-like (are_same_calls (Delay ticks) (Delay others)) (λ e. ap Delay e) (λ e. cc e) (Decides-eqb ticks others)
calls (DelayUntil a b) (DelayUntil c d) = Decides-like (are_same_calls (DelayUntil a b) (DelayUntil c d)) (λ h i. DelayUntil (h.0 i) (h.1 i))
    (λ e. (cc e, cc e)) (two (Decides-eqb a c) (Decides-eqb b d))
calls (PrioritySet a b) (PrioritySet c d) = Decides-like (are_same_calls (PrioritySet a b) (PrioritySet c d)) (λ h i. PrioritySet (h.0 i) (h.1 i))
    (λ e. (cc e, cc e)) (two (Decides-eqb a c) (Decides-eqb b d))
calls (AffinitySet a b) (AffinitySet c d) = Decides-like (are_same_calls (AffinitySet a b) (AffinitySet c d)) (λ h i. AffinitySet (h.0 i) (h.1 i))
    (λ e. (cc e, cc e)) (two (Decides-eqb a c) (Decides-eqb b d))
calls (PreemptOff a) (PreemptOff b) = Decides-like (are_same_calls (PreemptOff a) (PreemptOff b)) (λ e. ap PreemptOff e) (λ e. cc e) (Decides-eqb a b)
calls (PreemptOn a) (PreemptOn b) = Decides-like (are_same_calls (PreemptOn a) (PreemptOn b)) (λ e. ap PreemptOn e) (λ e. cc e) (Decides-eqb a b)
calls (Notify a) (Notify b) = Decides-like (are_same_calls (Notify a) (Notify b)) (λ e. ap Notify e) (λ e. cc e) (notes a b)
calls (NotifyWait a b c k) (NotifyWait d e f l) = Decides-like (are_same_calls (NotifyWait a b c k) (NotifyWait d e f l))
    (λ h i. NotifyWait (h.0.0.0 i) (h.0.0.1 i) (h.0.1 i) (h.1 i)) (λ e. (((cc e, cc e), cc e), cc e))
    (two (two (two (Decides-eqb a d) (Decides-eqb b e)) (Decides-eqb c f)) (Decides-eqb k l))
calls (NotifyTake a b k) (NotifyTake c d l) = Decides-like (are_same_calls (NotifyTake a b k) (NotifyTake c d l))
    (λ h i. NotifyTake (h.0.0 i) (h.0.1 i) (h.1 i)) (λ e. ((cc e, cc e), cc e)) (two (two (bools a c) (Decides-eqb b d)) (Decides-eqb k l))
calls (StateClear a k) (StateClear b l) = Decides-like (are_same_calls (StateClear a k) (StateClear b l)) (λ h i. StateClear (h.0 i) (h.1 i))
    (λ e. (cc e, cc e)) (two (Decides-eqb a b) (Decides-eqb k l))
calls (ValueClear a b k) (ValueClear c d l) = Decides-like (are_same_calls (ValueClear a b k) (ValueClear c d l))
    (λ h i. ValueClear (h.0.0 i) (h.0.1 i) (h.1 i)) (λ e. ((cc e, cc e), cc e)) (two (two (Decides-eqb a c) (Decides-eqb b d)) (Decides-eqb k l))
calls (MutexTake a b) (MutexTake c d) = Decides-like (are_same_calls (MutexTake a b) (MutexTake c d)) (λ h i. MutexTake (h.0 i) (h.1 i)) (λ e. (cc e, cc e))
    (two (Decides-eqb a c) (Decides-eqb b d))
calls (MutexGive a) (MutexGive b) = Decides-like (are_same_calls (MutexGive a) (MutexGive b)) (λ e. ap MutexGive e) (λ e. cc e) (Decides-eqb a b)
calls (QueueSend a b) (QueueSend c d) = Decides-like (are_same_calls (QueueSend a b) (QueueSend c d)) (λ h i. QueueSend (h.0 i) (h.1 i)) (λ e. (cc e, cc e))
    (two (Decides-eqb a c) (Decides-eqb b d))
calls (QueueReceive a b) (QueueReceive c d) = Decides-like (are_same_calls (QueueReceive a b) (QueueReceive c d)) (λ h i. QueueReceive (h.0 i) (h.1 i))
    (λ e. (cc e, cc e)) (two (Decides-eqb a c) (Decides-eqb b d))
calls (Suspend a) (Suspend b) = Decides-like (are_same_calls (Suspend a) (Suspend b)) (λ e. ap Suspend e) (λ e. cc e) (Decides-eqb a b)
calls (Resume a) (Resume b) = Decides-like (are_same_calls (Resume a) (Resume b)) (λ e. ap Resume e) (λ e. cc e) (Decides-eqb a b)
calls Finish Finish = (λ e. refl, λ e. refl)
calls HoldOpen HoldOpen = (λ e. refl, λ e. refl)
calls HoldClose HoldClose = (λ e. refl, λ e. refl)
calls a b = apart (λ e. cc e)

-- two calls that block are one where they are the same as calls
same_as_call : (a b : BlockingCall) → as_call a ≡ as_call b → a ≡ b
same_as_call (blocking.Delay a) (blocking.Delay b) e = cc e
same_as_call (blocking.DelayUntil a b) (blocking.DelayUntil c d) e = cc e
same_as_call (blocking.NotifyWait a b c k) (blocking.NotifyWait d f g l) e = cc e
same_as_call (blocking.NotifyTake a b k) (blocking.NotifyTake c d l) e = cc e
same_as_call a b e = absurd (cc e)

directions : Tells are_same_directions
directions Send Send = (λ e. refl, λ e. refl)
directions Receive Receive = (λ e. refl, λ e. refl)
directions a b = apart (λ e. cc e)

unfinished : Tells are_same_unfinished
unfinished (Made a) (Made b) =
    Decides-like (are_same_calls (as_call a) (as_call b)) (λ e. ap Made (same_as_call a b e)) (λ e. cc e) (calls (as_call a) (as_call b))
unfinished (Take a b) (Take c d) = Decides-like (are_same_unfinished (Take a b) (Take c d)) (λ h i. Take (h.0 i) (h.1 i)) (λ e. (cc e, cc e))
    (two (Decides-eqb a c) (bools b d))
unfinished (Transfer a b) (Transfer c d) = Decides-like (are_same_unfinished (Transfer a b) (Transfer c d)) (λ h i. Transfer (h.0 i) (h.1 i)) (λ e. (cc e, cc e))
    (two (Decides-eqb a c) (directions b d))
unfinished a b = apart (λ e. cc e)

-- ---- what can be seen of a kernel

controls : Tells are_same_controls
controls a b = Decides-like (are_same_controls a b)
    (λ h i. record { cores = h.0 i; tasks = h.1 i })
    (λ e. (λ i. (e i).cores, λ i. (e i).tasks))
    (two (lists are_same_looks looks a.cores b.cores) (lists are_same_blocks blocks a.tasks b.tasks))

orders : Tells are_same_orders
orders a b =
    let maybe = options (λ m n. nat_eq m n) Decides-eqb in
    Decides-like (are_same_orders a b)
    (λ h i. record {
      ready = h.0.0.0.0.0 i;
      tick = h.0.0.0.0.1 i;
      delayed = h.0.0.0.1 i;
      waiters = h.0.0.1 i;
      deadlines = h.0.1 i;
      values = h.1 i;
    })
    (λ e. (((((λ i. (e i).ready, λ i. (e i).tick), λ i. (e i).delayed), λ i. (e i).waiters), λ i. (e i).deadlines), λ i. (e i).values))
    (two (two (two (two (two (lists (λ m n. nat_eq m n) Decides-eqb a.ready b.ready) (Decides-eqb a.tick b.tick)) (lists are_same_delays delays a.delayed b.delayed))
    (lists are_same_waiters waiters a.waiters b.waiters)) (lists (are_same_options (λ m n. nat_eq m n)) maybe a.deadlines b.deadlines))
    (lists (λ m n. nat_eq m n) Decides-eqb a.values b.values))

pub views : Tells are_same_views
views a b =
    let maybe = options (λ m n. nat_eq m n) Decides-eqb in
    Decides-like (are_same_views a b)
    (λ h i. record {
      settings = h.0.0.0.0.0.0.0 i;
      control = h.0.0.0.0.0.0.1 i;
      calls = h.0.0.0.0.0.1 i;
      notes = h.0.0.0.0.1 i;
      holders = h.0.0.0.1 i;
      queues = h.0.0.1 i;
      hold = h.0.1 i;
      orders = h.1 i;
    })
    (λ e. (
      ((((((λ i. (e i).settings, λ i. (e i).control), λ i. (e i).calls), λ i. (e i).notes), λ i. (e i).holders), λ i. (e i).queues), λ i. (e i).hold),
      λ i. (e i).orders,
    ))
    (two (two (two (two (two (two (two (settings a.settings b.settings) (controls a.control b.control))
    (lists (are_same_options are_same_unfinished) (options are_same_unfinished unfinished) a.calls b.calls))
    (lists are_same_notifications notifications a.notes b.notes)) (lists (are_same_options (λ m n. nat_eq m n)) maybe a.holders b.holders))
    (lists are_same_queues queues a.queues b.queues))
    (options are_same_holds holds a.hold b.hold)) (orders a.orders b.orders))

pub same_decided : (a b : Table) → ((is_same a b ≡ true) ↔ Same a b)
unfolding is_same
same_decided a b = views (view_of a) (view_of b)
