-- The notifications of a task for which nobody waits any more, one after another.
use Rattle.std.proofs.Common.{◌≡◌, ℕ, suc, ◌+◌, ◌*◌, ◌<◌, ◌≤◌, Bool, true, false, cond, eqb, ltb, leb, ◌&&◌, List, length, map, refl, sym, ap, ◌∙◌, arith, inl, inr}
use Rattle.std.specs.Prelude.{slice_set}
use Rattle.std.proofs.Math.Nat.{mul-le-mul_right, suc-mul}
use Rattle.std.proofs.lemmas.Bool.{cases_eq}
use Rattle.std.proofs.lemmas.Bool.Decides.{nat_tests}
use Rattle.std.proofs.lemmas.List.{ext_get_or, get_or-set_same, get_or-set_other, length-set}
use Rattle.std.proofs.lemmas.List.FromFn.{get_or-map-range_with_len, length-map-range_with_len}
use Rattle.bench_types.specs.declared.note.Notification.{Notification}
use Rattle.list_orders.specs.Search.{numbers}
use Rattle.bench_model.specs.Notes.{no_note, note_at, slot_in, unawaited}
use Rattle.bench_model.specs.Suspending.{without_waits}

-- a notification that there is
pub slot_below : (tasks entries task index : ℕ) → task < tasks → index < entries → slot_in entries task index < tasks * entries
unfolding slot_in
slot_below tasks entries task index low few =
    let fits : suc task * entries ≤ tasks * entries = mul-le-mul_right entries (omega (arith, low)) in
    omega (arith, fits, suc-mul task entries, few)

module _ (entries task : ℕ) (notes : List Notification) where
  -- the slot is one of the task's first notifications
  abbrev is_before : ℕ → ℕ → Bool
  is_before n slot = leb (slot_in entries task 0) slot && ltb slot (slot_in entries task n)

  abbrev piece : ℕ → ℕ → Notification
  piece n slot = cond (is_before n slot) (unawaited (note_at notes slot)) (note_at notes slot)

  -- nobody waits for so many of the first
  abbrev pub freed : ℕ → List Notification
  freed n = map (piece n) (numbers (length notes))

  pub freed_length : (n : ℕ) → length (freed n) ≡ length notes
  freed_length n = length-map-range_with_len (piece n) 0 (length notes)

  freed_at : (n slot : ℕ) → slot < length notes → note_at (freed n) slot ≡ piece n slot
  freed_at n slot below = get_or-map-range_with_len (piece n) 0 (length notes) slot slot no_note below (omega arith)

  pub none_freed : freed 0 ≡ notes
  none_freed = ext_get_or no_note (freed 0) notes (freed_length 0) (λ slot low. let below : slot < length notes = omega (arith, freed_length 0, low) in
      freed_at 0 slot below ∙ untouched slot)
    where
      untouched : (slot : ℕ) → piece 0 slot ≡ note_at notes slot
      untouched slot =
          let no : is_before 0 slot ≡ false = grind (arith, nat_tests) in
          ap (λ b. cond b (unawaited (note_at notes slot)) (note_at notes slot)) no

  -- one more
  module _ (n : ℕ) (below : slot_in entries task n < length notes) where
    abbrev slot : ℕ
    slot = slot_in entries task n

    abbrev next : List Notification
    next = slice_set (freed n) slot (unawaited (note_at (freed n) slot))

    not_yet : is_before n slot ≡ false
    not_yet = grind (arith, nat_tests)

    now : is_before (suc n) slot ≡ true
    unfolding slot_in
    now = grind (arith, nat_tests)

    other : (i : ℕ) → (i ≡ slot → ⊥) → is_before (suc n) i ≡ is_before n i
    unfolding slot_in
    other i away = grind (arith, nat_tests, away)

    pub one_freed : next ≡ freed (suc n)
    one_freed = ext_get_or no_note next (freed (suc n)) (long ∙ sym (freed_length (suc n))) (λ i low. each i (omega (arith, long, low)))
      where
        long : length next ≡ length notes
        long = length-set (freed n) slot _ ∙ freed_length n

        here : note_at next slot ≡ piece (suc n) slot
        here =
            get_or-set_same (freed n) slot (unawaited (note_at (freed n) slot)) no_note (omega (arith, freed_length n, below))
            ∙ ap unawaited (freed_at n slot below ∙ ap (λ b. cond b (unawaited (note_at notes slot)) (note_at notes slot)) not_yet)
            ∙ sym (ap (λ b. cond b (unawaited (note_at notes slot)) (note_at notes slot)) now)

        each : (i : ℕ) → i < length notes → note_at next i ≡ note_at (freed (suc n)) i
        each i low = elim (cases_eq i slot) [
          | inl same ↦ ap (note_at next) same ∙ here ∙ sym (ap (note_at (freed (suc n))) same ∙ freed_at (suc n) slot below)
          | inr away ↦ get_or-set_other (freed n) slot i _ no_note away ∙ freed_at n i low
              ∙ sym (ap (λ b. cond b (unawaited (note_at notes i)) (note_at notes i)) (other i away)) ∙ sym (freed_at (suc n) i low)
        ]

  -- all of them
  pub all_freed : freed entries ≡ without_waits entries task notes
  unfolding without_waits slot_in
  all_freed =
      let ends : task * entries + entries ≡ suc task * entries + 0 = omega (arith, suc-mul task entries) in
      ap (λ end. map (λ slot. cond (leb (task * entries + 0) slot && ltb slot end) (unawaited (note_at notes slot)) (note_at notes slot)) (numbers (length notes)))
      ends
