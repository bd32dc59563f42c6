-- `==` of what a kernel holds says whether two values are equal.
use Rattle.std.proofs.Common.{◌≡◌, ℕ, Bool, true, Option, None, Some, refl, ap, subst, arith}
use Rattle.std.specs.Bool.{Decides}
use Rattle.std.specs.Option.{option_eq}
use Rattle.std.proofs.lemmas.Bool.Decides.{nat_tests}
use Rattle.std.proofs.lemmas.Option.{same_Some}
use Rattle.bench_types.specs.declared.kernel_data.CoreLook.{CoreLook}
use Rattle.bench_types.specs.declared.kernel_data.Delayed.{Delayed}
use Rattle.bench_types.specs.declared.kernel_data.TaskControl.{TaskControl}
use Rattle.bench_types.specs.declared.note.Notification.{Notification}
use Rattle.bench_types.specs.declared.note.NoteState.{NoteState}
use Rattle.bench_types.specs.declared.note.NoteState.TheVariants.{NotWaiting, Waiting, Received}
use Rattle.bench_types.specs.declared.step.Unfinished.{Unfinished}
use Rattle.bench_types.specs.contracts.kernel_data.CoreLookPartialEq.TheImpl as looks
use Rattle.bench_types.specs.contracts.kernel_data.DelayedPartialEq.TheImpl as entries
use Rattle.bench_types.specs.contracts.kernel_data.TaskControlPartialEq.TheImpl as blocks
use Rattle.bench_types.specs.contracts.note.NotificationPartialEq.TheImpl as notifications
use Rattle.bench_types.specs.contracts.note.NoteStatePartialEq.TheImpl as states
use Rattle.bench_types.specs.contracts.step.UnfinishedPartialEq.TheImpl as unfinished

-- A test that holds of equal values alone, and of each value and itself, decides equality.
module _ {X : Type 0} {E : X → X → Bool} where
  decides_equality : ((a b : X) → E a b ≡ true → a ≡ b) → ((a : X) → E a a ≡ true) → (a b : X) → Decides (E a b) (a ≡ b)
  decides_equality same itself a b = (same a b, λ equal. subst (λ x. E a x ≡ true) equal (itself a))

  -- so it does for two that may be there, if it does for two that are there
  pub option_decides : ((a b : X) → Decides (E a b) (a ≡ b)) → (a b : Option X) → Decides (option_eq E a b) (a ≡ b)
  option_decides decides None None = (λ yes. refl, λ same. refl)
  option_decides decides (Some a) (Some b) = (λ yes. ap (λ x. Some x) ((decides a b).0 yes), λ same. (decides a b).1 (same_Some a b same))
  option_decides decides a b = (λ yes. absurd (cc yes), λ same. absurd (cc same))

-- Records of numbers and truth values.
same_entry : (a b : Delayed) → entries.eq-value.it a b ≡ true → a ≡ b
same_entry a b same = at a.task b.task a.left b.left (grind (arith, nat_tests, same)) (grind (arith, nat_tests, same))
  where
    entry : ℕ → ℕ → Delayed
    entry task left = record { task = task; left = left }

    at : (i j m n : ℕ) → i ≡ j → m ≡ n → entry i m ≡ entry j n
    at i j m n one two = cc

pub entry_decides : (a b : Delayed) → Decides (entries.eq-value.it a b) (a ≡ b)
entry_decides = decides_equality same_entry (λ a. grind (arith, nat_tests))

same_look : (a b : CoreLook) → looks.eq-value.it a b ≡ true → a ≡ b
same_look a b same = at a.current b.current a.pend b.pend a.asked b.asked (grind (arith, nat_tests, same)) (grind (arith, nat_tests, same))
    (grind (arith, nat_tests, same))
  where
    look : ℕ → Bool → Bool → CoreLook
    look current pend asked = record { current = current; pend = pend; asked = asked }

    at : (i j : ℕ) (p q r s : Bool) → i ≡ j → p ≡ q → r ≡ s → look i p r ≡ look j q s
    at i j p q r s one two three = cc

pub look_decides : (a b : CoreLook) → Decides (looks.eq-value.it a b) (a ≡ b)
look_decides = decides_equality same_look (λ a. grind (arith, nat_tests))

same_block : (a b : TaskControl) → blocks.eq-value.it a b ≡ true → a ≡ b
same_block a b same = at a.base b.base a.in_use b.in_use a.mask b.mask a.preempt b.preempt (grind (arith, nat_tests, same)) (grind (arith, nat_tests, same))
    (grind (arith, nat_tests, same)) (grind (arith, nat_tests, same))
  where
    block : ℕ → ℕ → ℕ → Bool → TaskControl
    block base in_use mask preempt = record { base = base; in_use = in_use; mask = mask; preempt = preempt }

    at : (i j k l m n : ℕ) (p q : Bool) → i ≡ j → k ≡ l → m ≡ n → p ≡ q → block i k m p ≡ block j l n q
    at i j k l m n p q one two three four = cc

pub block_decides : (a b : TaskControl) → Decides (blocks.eq-value.it a b) (a ≡ b)
block_decides = decides_equality same_block (λ a. grind (arith, nat_tests))

-- Notifications.
same_state : (s t : NoteState) → states.eq-value.it s t ≡ true → s ≡ t
same_state NotWaiting NotWaiting same = refl
same_state Waiting Waiting same = refl
same_state Received Received same = refl
same_state s t same = absurd (cc same)

state_itself : (s : NoteState) → states.eq-value.it s s ≡ true
state_itself NotWaiting = refl
state_itself Waiting = refl
state_itself Received = refl

same_notification : (a b : Notification) → notifications.eq-value.it a b ≡ true → a ≡ b
same_notification a b same = at a.value b.value a.state b.state (grind (arith, nat_tests, same)) (same_state a.state b.state (grind (arith, nat_tests, same)))
  where
    notification : ℕ → NoteState → Notification
    notification value state = record { value = value; state = state }

    at : (i j : ℕ) (s t : NoteState) → i ≡ j → s ≡ t → notification i s ≡ notification j t
    at i j s t one two = cc

pub notification_decides : (a b : Notification) → Decides (notifications.eq-value.it a b) (a ≡ b)
notification_decides = decides_equality same_notification (λ a. grind (arith, nat_tests, state_itself a.state))

-- Calls that are not finished.
same_unfinished : (a b : Unfinished) → unfinished.eq-value.it a b ≡ true → a ≡ b
same_unfinished a b same = grind (arith, nat_tests, same)

unfinished_itself : (a : Unfinished) → unfinished.eq-value.it a a ≡ true
unfinished_itself a = grind (arith, nat_tests)

pub unfinished_decides : (a b : Unfinished) → Decides (unfinished.eq-value.it a b) (a ≡ b)
unfinished_decides = decides_equality same_unfinished unfinished_itself
