-- Each change names what it was and is, and these two differ.
use Rattle.std.proofs.Common.{◌≡◌, ◌≢◌, ℕ, suc, ◌+◌, List, [], ◌∷◌, ◌++◌, map, Bool, true, false, Option, Some, refl, sym, subst, arith, true≢false}
use Rattle.std.specs.Prelude.{All, nat_eq, slice_get}
use Rattle.std.specs.List.{AllByRecursion}
use Rattle.std.proofs.lemmas.Bool.Decides.{Decides-eqb}
use Rattle.std.proofs.lemmas.List.Elements.{All-from_recursion}
use Rattle.bench_types.specs.declared.kernel_data.CoreLook.{CoreLook}
use Rattle.bench_types.specs.declared.note.Notification.{Notification}
use Rattle.bench_model.specs.SameTest.{are_same_bools, are_same_options, are_same_states, are_same_holds}
use Rattle.run_views.specs.declared.change.Change.{Change}
use Rattle.run_views.specs.declared.change.Change.TheVariants.{Tick, Hold, Core, Task, Further, Mutex, Queue}
use Rattle.run_views.specs.declared.change.CoreChange.{CoreChange}
use Rattle.run_views.specs.declared.change.CoreChange.TheVariants.{Current, Pend, Asked}
use Rattle.run_views.specs.declared.change.MutexChange.TheVariants.{Holder}
use Rattle.run_views.specs.declared.change.NoteChange.{NoteChange}
use Rattle.run_views.specs.declared.change.NoteChange.TheVariants.{Value, State}
use Rattle.run_views.specs.declared.change.QueueChange.TheVariants.{Messages}
use Rattle.run_views.specs.declared.change.TaskChange.{TaskChange}
use Rattle.run_views.specs.declared.change.TaskChange.TheVariants.{Stands, InUse, Base, Mask, Preempt, Call, Note}
use Rattle.run_views.specs.declared.look.Look.{Look}
use Rattle.run_views.specs.declared.look.TaskStatus.{TaskStatus}
use Rattle.run_views.specs.Changes.{are_same_causes, are_same_numbers, are_same_standings, changes, changes_each, core_changes, further_changes, mutex_changes, note_changes, queue_changes}
use Rattle.run_views.specs.Changes.{task_changes, TellsOf, TellsOfCore, TellsOfItem, TellsOfMutex, TellsOfNote, TellsOfQueue, TellsOfTask, unless}
use Rattle.run_views.proofs.Tests.{Tells, bools_decided, causes_decided, holds_decided, numbers_decided, standings_decided, states_decided}

joined : {X : Type 0} (P : X → Type 0) (xs ys : List X) → AllByRecursion P xs → AllByRecursion P ys → AllByRecursion P (xs ++ ys)
joined P [] ys first second = second
joined P (x ∷ xs) ys first second = (first.0, joined P xs ys first.1 second)

-- a change that is named unless the two are the same
one_printed : {C V : Type 0} (P : C → Type 0) (same : V → V → Bool) → Tells same → (old new : V) (change : C) → (old ≢ new → P change) → AllByRecursion P
    (unless (same old new) change)
one_printed P same tells old new change printed = go (same old new) (tells old new).1
  where
    go : (b : Bool) → (old ≡ new → b ≡ true) → AllByRecursion P (unless b change)
    go true equal = tt
    go false equal = (printed (λ e. true≢false (sym (equal e))), tt)

core_printed : (old new : CoreLook) → AllByRecursion (λ change. TellsOfCore change old new) (core_changes old new)
core_printed old new =
    let P : CoreChange → Type 0 = λ change. TellsOfCore change old new in
    joined P _ _ (joined P _ _
    (one_printed P nat_eq Decides-eqb old.current new.current (Current old.current new.current) (λ differ. (refl, refl, differ)))
    (one_printed P are_same_bools bools_decided old.pend new.pend (Pend new.pend) (λ differ. (refl, differ))))
    (one_printed P are_same_bools bools_decided old.asked new.asked (Asked new.asked) (λ differ. (refl, differ)))

task_printed : (old new : TaskStatus) → AllByRecursion (λ change. TellsOfTask change old new) (task_changes old new)
task_printed old new =
    let P : TaskChange → Type 0 = λ change. TellsOfTask change old new in
    joined P _ _
    (joined P _ _ (joined P _ _ (joined P _ _ (joined P _ _
    (one_printed P are_same_standings standings_decided old.standing new.standing (Stands old.standing new.standing) (λ differ. (refl, refl, differ)))
    (one_printed P nat_eq Decides-eqb old.in_use new.in_use (InUse old.in_use new.in_use) (λ differ. (refl, refl, differ))))
    (one_printed P nat_eq Decides-eqb old.base new.base (Base old.base new.base) (λ differ. (refl, refl, differ))))
    (one_printed P nat_eq Decides-eqb old.mask new.mask (Mask old.mask new.mask) (λ differ. (refl, refl, differ))))
    (one_printed P are_same_bools bools_decided old.preempt new.preempt (Preempt new.preempt) (λ differ. (refl, differ))))
    (joined P _ _ (joined P _ _
    (one_printed P (are_same_options are_same_causes) causes_decided old.cause new.cause (Call old.cause new.cause) (λ differ. (refl, refl, differ)))
    (one_printed P nat_eq Decides-eqb old.value new.value (Note (Value old.value new.value)) (λ differ. (refl, refl, differ))))
    (one_printed P are_same_states states_decided old.state new.state (Note (State old.state new.state)) (λ differ. (refl, refl, differ))))

note_printed : (old new : Notification) → AllByRecursion (λ change. TellsOfNote change old new) (note_changes old new)
note_printed old new =
    joined (λ change. TellsOfNote change old new) _ _
    (one_printed (λ change. TellsOfNote change old new) nat_eq Decides-eqb old.value new.value (Value old.value new.value) (λ differ. (refl, refl, differ)))
    (one_printed (λ change. TellsOfNote change old new) are_same_states states_decided old.state new.state (State old.state new.state)
    (λ differ. (refl, refl, differ)))

holder_printed : (old new : Option ℕ) → AllByRecursion (λ change. TellsOfMutex change old new) (mutex_changes old new)
holder_printed old new = one_printed (λ change. TellsOfMutex change old new) are_same_numbers numbers_decided old new (Holder old new)
    (λ differ. (refl, refl, differ))

messages_printed : (old new : ℕ) → AllByRecursion (λ change. TellsOfQueue change old new) (queue_changes old new)
messages_printed old new = one_printed (λ change. TellsOfQueue change old new) nat_eq Decides-eqb old new (Messages old new) (λ differ. (refl, refl, differ))

module _ {X C : Type 0} (of_item : ℕ → C → Change) (changes_of : X → X → List C) (tells : C → X → X → Type 0)
    (printed : (old new : X) → AllByRecursion (λ change. tells change old new) (changes_of old new)) (P : Change → Type 0) where
  item_printed : (number : ℕ) (some : List C) (old new : X) → ((change : C) → tells change old new → P (of_item number change)) → AllByRecursion
      (λ change. tells change old new) some → AllByRecursion P (map (of_item number) some)
  item_printed number [] old new are all = tt
  item_printed number (change ∷ more) old new are all = (are change all.0, item_printed number more old new are all.1)

  items_printed : (number : ℕ) (olds news : List X) → ((k : ℕ) (old new : X) (change : C) → slice_get olds k ≡ Some old → slice_get news k ≡ Some new → tells
      change old new → P (of_item (k + number) change)) → AllByRecursion P (changes_each of_item changes_of number olds news)
  items_printed number [] news are = tt
  items_printed number (old ∷ olds) [] are = tt
  items_printed number (old ∷ olds) (new ∷ news) are =
      joined P _ _
      (item_printed number (changes_of old new) old new (λ change tells. subst (λ n. P (of_item n change)) (let n : 0 + number ≡ number = omega arith in n)
      (are 0 old new change refl refl tells)) (printed old new))
      (items_printed (suc number) olds news (λ k old new change was is tells. subst (λ n. P (of_item n change))
      (let n : suc k + number ≡ k + suc number = omega arith in n) (are (suc k) old new change was is tells)))

at_zero : (k : ℕ) → k ≡ k + 0
at_zero k = omega arith

further_printed : (P : Change → Type 0) (index : ℕ) (olds news : List (List Notification)) →
    ((k : ℕ) (old new : List Notification) (task : ℕ) (change : NoteChange) → slice_get olds k ≡ Some old → slice_get news k ≡ Some new → TellsOfItem
    (TellsOfNote change) task old new → P (Further (k + index) task change)) → AllByRecursion P (further_changes index olds news)
further_printed P index [] news are = tt
further_printed P index (old ∷ olds) [] are = tt
further_printed P index (old ∷ olds) (new ∷ news) are =
    joined P _ _
    (items_printed (Further index) note_changes TellsOfNote note_printed P 0 old new (λ task a b change was is tells.
    subst (λ n. P (Further index n change)) (at_zero task) (subst (λ n. P (Further n task change)) (let n : 0 + index ≡ index = omega arith in n)
    (are 0 old new task change refl refl (record { old = a; new = b; was = was; is = is; printed = tells })))))
    (further_printed P (suc index) olds news (λ k a b task change was is tells. subst (λ n. P (Further n task change))
    (let n : suc k + index ≡ k + suc index = omega arith in n) (are (suc k) a b task change was is tells)))

pub changes_printed : (before after : Look) → All (TellsOf before after) (changes before after)
unfolding changes
changes_printed before after =
    let P = TellsOf before after in
    All-from_recursion P (changes before after)
    (joined P _ _ (joined P _ _ (joined P _ _ (joined P _ _ (joined P _ _ (joined P _ _
    (one_printed P nat_eq Decides-eqb before.tick after.tick (Tick before.tick after.tick) (λ differ. (refl, refl, differ)))
    (one_printed P (are_same_options are_same_holds) holds_decided before.hold after.hold (Hold before.hold after.hold) (λ differ. (refl, refl, differ))))
    (items_printed Core core_changes TellsOfCore core_printed P 0 before.cores after.cores
    (λ k old new change was is tells. subst (λ n. P (Core n change)) (at_zero k) (record { old = old; new = new; was = was; is = is; printed = tells }))))
    (items_printed Task task_changes TellsOfTask task_printed P 0 before.tasks after.tasks
    (λ k old new change was is tells. subst (λ n. P (Task n change)) (at_zero k) (record { old = old; new = new; was = was; is = is; printed = tells }))))
    (further_printed P 1 before.further after.further (λ k old new task change was is printed. subst (λ n. P (Further n task change))
    (let n : suc k ≡ k + 1 = omega arith in n) (record { old = old; new = new; was = was; is = is; printed = printed }))))
    (items_printed Mutex mutex_changes TellsOfMutex holder_printed P 0 before.holders after.holders
    (λ k old new change was is tells. subst (λ n. P (Mutex n change)) (at_zero k) (record { old = old; new = new; was = was; is = is; printed = tells }))))
    (items_printed Queue queue_changes TellsOfQueue messages_printed P 0 before.messages after.messages
    (λ k old new change was is tells. subst (λ n. P (Queue n change)) (at_zero k) (record { old = old; new = new; was = was; is = is; printed = tells }))))
