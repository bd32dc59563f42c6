-- The changes from one look to another lead from the one to the other.
use Rattle.std.proofs.Common.{◌≡◌, ℕ, suc, List, [], ◌∷◌, ◌++◌, length, map, Bool, true, false, Option, refl, ap, ◌∙◌, append_assoc, arith, length-append}
use Rattle.std.specs.Prelude.{fold, nat_eq}
use Rattle.std.proofs.lemmas.Bool.Decides.{Decides-eqb}
use Rattle.std.proofs.lemmas.List.Sums.{fold-append}
use Rattle.bench_types.specs.declared.kernel_data.CoreLook.{CoreLook}
use Rattle.bench_types.specs.declared.note.Notification.{Notification}
use Rattle.bench_model.specs.SameTest.{are_same_bools, are_same_options, are_same_states, are_same_holds}
use Rattle.run_views.specs.declared.change.Change.{Change}
use Rattle.run_views.specs.declared.change.Change.TheVariants.{Tick, Hold, Core, Task, Further, Mutex, Queue}
use Rattle.run_views.specs.declared.change.CoreChange.TheVariants.{Current, Pend, Asked}
use Rattle.run_views.specs.declared.change.MutexChange.TheVariants.{Holder}
use Rattle.run_views.specs.declared.change.NoteChange.{NoteChange}
use Rattle.run_views.specs.declared.change.NoteChange.TheVariants.{Value, State}
use Rattle.run_views.specs.declared.change.QueueChange.TheVariants.{Messages}
use Rattle.run_views.specs.declared.change.TaskChange.TheVariants.{Stands, InUse, Base, Mask, Preempt, Call, Note}
use Rattle.run_views.specs.declared.look.Look.{Look}
use Rattle.run_views.specs.declared.look.TaskStatus.{TaskStatus}
use Rattle.run_views.specs.Changes.{applied, are_same_causes, are_same_numbers, are_same_standings, changes, changes_each, core_after, core_changes, further_after}
use Rattle.run_views.specs.Changes.{further_changes, HasSameShape, holder_after, item_changed, look_after, messages_after, mutex_changes, note_after, note_changes, task_after}
use Rattle.run_views.specs.Changes.{queue_changes, task_changes, unless}
use Rattle.run_views.proofs.Tests.{Tells, bools_decided, causes_decided, holds_decided, numbers_decided, standings_decided, states_decided}

-- the changes, made one after another, lead from the one to the other
record Leads {X C : Type 0} (after : C → X → X) (from : X) (changes : List C) (to : X) : Type 0 where
  made : fold (λ x change. after change x) from changes ≡ to

both : {X C : Type 0} {after : C → X → X} {x y z : X} {first second : List C} → Leads after x first y → Leads after y second z → Leads after x (first ++ second)
    z
both {X} {C} {after} {x} {first = first} {second = second} one two =
    let f : X → C → X = λ x change. after change x in
    record { made = fold-append f x first second ∙ ap (λ y. fold f y second) one.made ∙ two.made }

-- one change, which sets a part unless it is the same
set : {X C V : Type 0} {after : C → X → X} (same : V → V → Bool) → Tells same → (put : V → X) (old new : V) (change : C) → after change (put old) ≡ put new →
    Leads after (put old) (unless (same old new) change) (put new)
set {after = after} same tells put old new change sets = go (same old new) (tells old new).0
  where
    go : (b : Bool) → (b ≡ true → old ≡ new) → Leads after (put old) (unless b change) (put new)
    go true equal = record { made = ap put (equal refl) }
    go false equal = record { made = sets }

along : {X C : Type 0} {after : C → X → X} {x y z w : X} {some others : List C} → x ≡ z → some ≡ others → y ≡ w → Leads after x some y → Leads after z others w
along x-is some-is y-is leads = let made = leads.made in record { made = cc (made, x-is, some-is, y-is) }

core_leads : (old new : CoreLook) → Leads core_after old (core_changes old new) new
core_leads old new =
    both (both
    (set nat_eq Decides-eqb (λ n. record { current = n; pend = old.pend; asked = old.asked }) old.current new.current (Current old.current new.current) refl)
    (set are_same_bools bools_decided (λ b. record { current = new.current; pend = b; asked = old.asked }) old.pend new.pend (Pend new.pend) refl))
    (set are_same_bools bools_decided (λ b. record { current = new.current; pend = new.pend; asked = b }) old.asked new.asked (Asked new.asked) refl)

task_leads : (old new : TaskStatus) → Leads task_after old (task_changes old new) new
task_leads old new =
    both
    (both (both (both (both
    (set are_same_standings standings_decided (λ s. record old { standing = s }) old.standing new.standing (Stands old.standing new.standing) refl)
    (set nat_eq Decides-eqb (λ n. record one { in_use = n }) old.in_use new.in_use (InUse old.in_use new.in_use) refl))
    (set nat_eq Decides-eqb (λ n. record two { base = n }) old.base new.base (Base old.base new.base) refl))
    (set nat_eq Decides-eqb (λ n. record three { mask = n }) old.mask new.mask (Mask old.mask new.mask) refl))
    (set are_same_bools bools_decided (λ b. record four { preempt = b }) old.preempt new.preempt (Preempt new.preempt) refl))
    (both (both
    (set (are_same_options are_same_causes) causes_decided (λ c. record five { cause = c }) old.cause new.cause (Call old.cause new.cause) refl)
    (set nat_eq Decides-eqb (λ n. record six { value = n }) old.value new.value (Note (Value old.value new.value)) refl))
    (set are_same_states states_decided (λ s. record new { state = s }) old.state new.state (Note (State old.state new.state)) refl))
  where
    one : TaskStatus
    one = record old { standing = new.standing }

    two : TaskStatus
    two = record one { in_use = new.in_use }

    three : TaskStatus
    three = record two { base = new.base }

    four : TaskStatus
    four = record three { mask = new.mask }

    five : TaskStatus
    five = record four { preempt = new.preempt }

    six : TaskStatus
    six = record five { cause = new.cause }

note_leads : (old new : Notification) → Leads note_after old (note_changes old new) new
note_leads old new =
    both
    (set nat_eq Decides-eqb (λ n. record { value = n; state = old.state }) old.value new.value (Value old.value new.value) refl)
    (set are_same_states states_decided (λ s. record { value = new.value; state = s }) old.state new.state (State old.state new.state) refl)

holder_leads : (old new : Option ℕ) → Leads holder_after old (mutex_changes old new) new
holder_leads old new = set are_same_numbers numbers_decided (λ h. h) old new (Holder old new) refl

messages_lead : (old new : ℕ) → Leads messages_after old (queue_changes old new) new
messages_lead old new = set nat_eq Decides-eqb (λ n. n) old new (Messages old new) refl

item_at : {X : Type 0} (f : X → X) (front : List X) (x : X) (rest : List X) → item_changed (length front) f (front ++ x ∷ rest) ≡ front ++ f x ∷ rest
item_at f [] x rest = refl
item_at f (y ∷ front) x rest = ap (λ xs. y ∷ xs) (item_at f front x rest)

module _ {X C : Type 0} (of_item : ℕ → C → Change) (changes_of : X → X → List C) (after : C → X → X)
    (leads : (old new : X) → Leads after old (changes_of old new) new) (put : List X → Look)
    (puts : (number : ℕ) (change : C) (xs : List X) → look_after (of_item number change) (put xs) ≡ put (item_changed number (after change) xs)) where
  -- the changes of the item that comes after those in front
  item_leads : (front : List X) (x : X) (rest : List X) (some : List C) → fold (λ look change. look_after change look) (put (front ++ x ∷ rest))
      (map (of_item (length front)) some) ≡ put (front ++ fold (λ x change. after change x) x some ∷ rest)
  item_leads front x rest [] = refl
  item_leads front x rest (change ∷ more) =
      ap (λ look. fold (λ look change. look_after change look) look (map (of_item (length front)) more))
      (puts (length front) change (front ++ x ∷ rest) ∙ ap put (item_at (after change) front x rest))
      ∙ item_leads front (after change x) rest more

  items_lead : (front olds news : List X) → length olds ≡ length news → Leads look_after (put (front ++ olds))
      (changes_each of_item changes_of (length front) olds news) (put (front ++ news))
  items_lead front [] [] same = record { made = refl }
  items_lead front [] (new ∷ news) same = absurd (omega (arith, same))
  items_lead front (old ∷ olds) [] same = absurd (omega (arith, same))
  items_lead front (old ∷ olds) (new ∷ news) same =
      let shorter : length olds ≡ length news = omega (arith, same) in
      let next : length (front ++ new ∷ []) ≡ suc (length front) = omega (arith, length-append front (new ∷ [])) in
      both
      (record { made = item_leads front old olds (changes_of old new) ∙ ap (λ x. put (front ++ x ∷ olds)) (leads old new).made })
      (along (ap put (append_assoc front (new ∷ []) olds)) (ap (λ n. changes_each of_item changes_of n olds news) next)
      (ap put (append_assoc front (new ∷ []) news)) (items_lead (front ++ new ∷ []) olds news shorter))

-- the changes of the further notifications that come after those in front
further_lead : (put : List (List Notification) → Look) → ((index task : ℕ) (change : NoteChange) (xs : List (List Notification)) → look_after
    (Further index task change) (put xs) ≡ put (further_after index task change xs)) → (front olds news : List (List Notification)) → map length olds ≡ map
    length news
    → Leads look_after (put (front ++ olds)) (further_changes (suc (length front)) olds news) (put (front ++ news))
further_lead put puts front [] [] same = record { made = refl }
further_lead put puts front [] (new ∷ news) same = absurd (cc same)
further_lead put puts front (old ∷ olds) [] same = absurd (cc same)
further_lead put puts front (old ∷ olds) (new ∷ news) same =
    let index = suc (length front) in
    let here : length old ≡ length new = cc same in
    let shorter : map length olds ≡ map length news = cc same in
    let next : length (front ++ new ∷ []) ≡ suc (length front) = omega (arith, length-append front (new ∷ [])) in
    both
    (items_lead (Further index) note_changes note_after note_leads (λ xs. put (front ++ xs ∷ olds))
    (λ task change xs. puts index task change (front ++ xs ∷ olds) ∙ ap put (item_at (item_changed task (note_after change)) front xs olds)) [] old new here)
    (along (ap put (append_assoc front (new ∷ []) olds)) (ap (λ n. further_changes (suc n) olds news) next) (ap put (append_assoc front (new ∷ []) news))
    (further_lead put puts (front ++ new ∷ []) olds news shorter))

pub changes_lead : (before after : Look) → HasSameShape before after → applied (changes before after) before ≡ after
unfolding changes applied
changes_lead before after shape =
    (both (both (both (both (both (both
    (set nat_eq Decides-eqb (λ n. record before { tick = n }) before.tick after.tick (Tick before.tick after.tick) refl)
    (set (are_same_options are_same_holds) holds_decided (λ h. record one { hold = h }) before.hold after.hold (Hold before.hold after.hold) refl))
    (items_lead Core core_changes core_after core_leads (λ cores. record two { cores = cores }) (λ core change cores. refl) [] before.cores after.cores
    shape.cores))
    (items_lead Task task_changes task_after task_leads (λ tasks. record three { tasks = tasks }) (λ task change tasks. refl) [] before.tasks after.tasks
    shape.tasks))
    (further_lead (λ further. record four { further = further }) (λ index task change further. refl) [] before.further after.further shape.further))
    (items_lead Mutex mutex_changes holder_after holder_leads (λ holders. record five { holders = holders }) (λ mutex change holders. refl) [] before.holders
    after.holders shape.mutexes))
    (items_lead Queue queue_changes messages_after messages_lead (λ messages. record after { messages = messages }) (λ queue change messages. refl) []
    before.messages after.messages shape.queues)).made
  where
    one : Look
    one = record before { tick = after.tick }

    two : Look
    two = record one { hold = after.hold }

    three : Look
    three = record two { cores = after.cores }

    four : Look
    four = record three { tasks = after.tasks }

    five : Look
    five = record four { further = after.further }
