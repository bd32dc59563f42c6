-- Notifying a task: what it leaves as it is, as lists, and that soundness stays.
use Rattle.std.proofs.Common.{◌≡◌, ℕ, suc, ◌*◌, ◌<◌, ◌≤◌, ◌^◌, Bool, true, false, cond, List, length, refl, sym, ap, subst, ◌∙◌, arith, inl, inr}
use Rattle.std.specs.Prelude.{slice_set}
use Rattle.std.proofs.lemmas.Bool.{cases_eq, cases_order}
use Rattle.std.proofs.lemmas.List.{length-set, get_or-set_same, get_or-set_other}
use Rattle.std.proofs.lemmas.Nat.{or_lt}
use Rattle.std.proofs.Math.Nat.{suc-mul, mul-le-mul_right}
use Rattle.bench_types.specs.declared.note.NotifyAction.{NotifyAction}
use Rattle.bench_types.specs.declared.note.NotifyAction.TheVariants.{Nothing, SetBits, Increment, Set, SetNew}
use Rattle.bench_types.specs.declared.note.Note.{Note}
use Rattle.bench_types.specs.declared.note.Notification.{Notification}
use Rattle.bench_types.specs.Step.{IsNotifyActionOfWord}
use Rattle.bench_model.specs.Looks.{note_look}
use Rattle.bench_model.specs.Notes.{no_note, note_at, is_waiting, passes, acted, notified, of_slot, slot_in, slot_of}
use Rattle.bench_model.specs.Notifying.{notify}
use Rattle.bench_model.specs.Seek.{wake}
use Rattle.bench_model.specs.Table.{Table, stamp_queues}
use Rattle.bench_model.specs.Lists.{list_queues, view_of}
use Rattle.bench_model.specs.Sound.{HasWords, IsConsistent}
use Rattle.rule_laws.proofs.Seeks.{wake_seen, wake_sound}
use Rattle.order_laws.proofs.Sizes.{lengths_of, resized}

pub notes_apart : (table : Table) (notes : List Notification) → view_of (record table { notes = notes }) ≡ record (view_of table) { notes = notes }
notes_apart table notes = refl

pub notes_sound : (table : Table) (notes : List Notification) → IsConsistent table → length notes ≡ table.settings.tasks * table.settings.notes → HasWords notes
    → IsConsistent (record table { notes = notes })
notes_sound table notes sound each words = record {
  sized = resized table _ refl (ap (λ a. record (lengths_of table) { notes = a }) (each ∙ sym sound.sized.notes)) sound.sized;
  stamped = sound.stamped;
  in_place = sound.in_place;
  in_time = sound.in_time;
  blocks = sound.blocks;
  calls = sound.calls;
  notes = words;
  mutexes = sound.mutexes;
}

acted_word : (action : NotifyAction) (value : ℕ) → IsNotifyActionOfWord action → value < 2 ^ 32 → acted action value < 2 ^ 32
acted_word Nothing value word low = low
acted_word (SetBits bits) value word low = or_lt 32 value bits low word
acted_word Increment value word low = omega arith
acted_word (Set new) value word low = word
acted_word (SetNew new) value word low = word

notified_word : (action : NotifyAction) (note : Notification) → IsNotifyActionOfWord action → note.value < 2 ^ 32 → (notified action note).value < 2 ^ 32
unfolding notified
notified_word action note word low = at (passes action note.state)
  where
    at : (b : Bool) → cond b (acted action note.value) note.value < 2 ^ 32
    at true = acted_word action note.value word low
    at false = low

-- all notifications after a rule of one
module _ {A : Type 0} (slot : ℕ) (rule : Notification → A × Notification) where
  abbrev ruled : List Notification → List Notification
  ruled notes = (of_slot slot rule notes).1

  ruled_words : (notes : List Notification) → ((note : Notification) → note.value < 2 ^ 32 → (rule note).1.value < 2 ^ 32) → HasWords notes → HasWords
      (ruled notes)
  ruled_words notes keeps words i low =
      let new = (rule (note_at notes slot)).1 in
      let long = length-set notes slot new in
      elim (cases_eq i slot) [
        | inl here ↦ let below : slot < length notes = omega (arith, low, here, long) in subst (λ (n : Notification). n.value < 2 ^ 32)
            (sym (ap (note_at (ruled notes)) here ∙ get_or-set_same notes slot new no_note below)) (keeps (note_at notes slot) (words slot below))
        | inr away ↦ subst (λ (n : Notification). n.value < 2 ^ 32) (sym (get_or-set_other notes slot i new no_note away)) (words i (omega (arith, low, long)))
      ]

  pub ruled_sound : (table : Table) → IsConsistent table → ((note : Notification) → note.value < 2 ^ 32 → (rule note).1.value < 2 ^ 32) → IsConsistent
      (record table { notes = ruled table.notes })
  ruled_sound table sound keeps =
      notes_sound table (ruled table.notes) sound (length-set table.notes slot _ ∙ sound.sized.notes) (ruled_words table.notes keeps sound.notes)

pub places_apart : (entries task index other at : ℕ) → index < entries → at < entries → slot_in entries task index ≡ slot_in entries other at
    → (task ≡ other) × (index ≡ at)
unfolding slot_in
places_apart entries task index other at low below same = elim (cases_order task other) [
  | inl alike ↦ (alike, omega (arith, ap (λ task. task * entries) alike, same))
  | inr (inl less) ↦
      let more : suc task * entries ≤ other * entries = mul-le-mul_right entries (omega (arith, less)) in
      absurd (omega (arith, more, suc-mul task entries, low, same))
  | inr (inr greater) ↦
      let more : suc other * entries ≤ task * entries = mul-le-mul_right entries (omega (arith, greater)) in
      absurd (omega (arith, more, suc-mul other entries, below, same))
]

module _ (table : Table) (acting : ℕ) (note : Note) where
  abbrev slot : ℕ
  slot = slot_of table.settings note.task note.index

  abbrev known : Table
  known = record table { notes = slice_set table.notes slot (notified note.action (note_at table.notes slot)) }

  pub leaves_others : (task index : ℕ) → note.index < table.settings.notes → index < table.settings.notes → ((task ≡ note.task) × (index ≡ note.index) → ⊥)
      → note_look (notify stamp_queues acting note table) task index ≡ note_look table task index
  unfolding notify wake
  leaves_others task index low below apart = at (is_waiting (note_at table.notes slot).state)
    where
      other : note_look known task index ≡ note_look table task index
      other =
          get_or-set_other table.notes slot (slot_of table.settings task index) _ no_note
          (λ same. apart (places_apart table.settings.notes task index note.task note.index below low same))

      at : (b : Bool) → note_look (cond b (wake stamp_queues acting note.task known) known) task index ≡ note_look table task index
      at true = other
      at false = other

  pub wakes_only_a_waiter : is_waiting (note_look table note.task note.index).state ≡ false
      → notify stamp_queues acting note table ≡ record table { notes = (notify stamp_queues acting note table).notes }
  unfolding notify
  wakes_only_a_waiter none = at (is_waiting (note_at table.notes slot).state) none
    where
      at : (b : Bool) → b ≡ false
          → cond b (wake stamp_queues acting note.task known) known ≡ record table { notes = (cond b (wake stamp_queues acting note.task known) known).notes }
      at true none = absurd (cc (none))
      at false none = refl

  module _ (sound : IsConsistent table) (low : note.task < table.settings.tasks) where
    known_sound : IsNotifyActionOfWord note.action → IsConsistent known
    known_sound word = ruled_sound slot (λ old. (old, notified note.action old)) table sound (λ old. notified_word note.action old word)

    pub notify_seen : view_of (notify stamp_queues acting note table) ≡ notify list_queues acting note (view_of table)
    unfolding notify
    notify_seen = at (is_waiting (note_at table.notes slot).state)
      where
        at : (b : Bool) → view_of (cond b (wake stamp_queues acting note.task known) known) ≡ cond b (wake list_queues acting note.task (view_of known))
            (view_of known)
        at true = wake_seen known acting note.task sound.stamped.given (omega (arith, sound.sized.rows, low))
        at false = refl

    pub notify_sound : IsNotifyActionOfWord note.action → IsConsistent (notify stamp_queues acting note table)
    unfolding notify
    notify_sound word = at (is_waiting (note_at table.notes slot).state)
      where
        at : (b : Bool) → IsConsistent (cond b (wake stamp_queues acting note.task known) known)
        at true = wake_sound known acting note.task (known_sound word) low
        at false = known_sound word
