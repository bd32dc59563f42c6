-- Columns by slots. Each place of a run is in a slot, as that of its tick or of a span of time.
-- Where a slot begins in two runs, it begins at one column.
use Rattle.std.specs.Prelude.{◌≡◌, ◌<◌, ◌≤◌, ℕ, suc, ◌+◌, ◌-◌, ◌==◌, List, filter, length, map, max, min, sum, take, slice_get, slice_index_or}
use Rattle.list_orders.specs.Search.{numbers}
use Rattle.bench_types.specs.Limits.{max_steps}

-- the number at the place; behind the last one, that one
abbrev pub at_or_last : List ℕ → ℕ → ℕ
at_or_last listed place = slice_index_or listed (min place (length listed - 1)) 0

-- no number is less than one before it
abbrev pub Rise : List ℕ → Type 0
Rise listed = (p q : ℕ) → p ≤ q → at_or_last listed p ≤ at_or_last listed q

-- how many of the first places are in the slot
abbrev pub places_with : List ℕ → ℕ → ℕ → ℕ
places_with slots count slot = length (filter (λ other. other == slot) (take count slots))

-- how many places are in the slot
abbrev pub places_in : List ℕ → ℕ → ℕ
places_in slots slot = length (filter (λ other. other == slot) slots)

-- as many columns as the run with more places in the slot needs, and one where none is in it
abbrev pub slot_width : List ℕ → List ℕ → ℕ → ℕ
slot_width before after slot = max 1 (max (places_in before slot) (places_in after slot))

-- the first column of a slot, behind those of the slots before it
abbrev pub slot_column : List ℕ → List ℕ → ℕ → ℕ
slot_column before after slot = sum (map (slot_width before after) (numbers slot))

-- Where a place of a run begins: as far behind the first column of its slot as there are places
-- before it in the slot. The end behind the last place is in the slot of that place.
abbrev pub column_at : List ℕ → List ℕ → List ℕ → ℕ → ℕ
column_at before after run place =
    let slot = at_or_last run place in
    slot_column before after slot + places_with run place slot

-- of each place of the run, and of the end behind the last one
abbrev pub slot_columns : List ℕ → List ℕ → List ℕ → List ℕ
slot_columns before after run = map (column_at before after run) (numbers (suc (length run)))

-- slots of the places of a run, in order
pub record AreSlots (slots : List ℕ) : Type 0 where
  pub rise : Rise slots
  pub some : 0 < length slots
  pub few : length slots ≤ suc max_steps
  pub low : at_or_last slots (length slots) ≤ max_steps

-- each place has a column of its own, behind those of the places before it
abbrev pub Ascend : List ℕ → Type 0
Ascend columns = (p q : ℕ) → p < q → q < length columns
    → slice_index_or columns p 0 < slice_index_or columns q 0

-- no place before it is in its slot
abbrev pub BeginsSlot : List ℕ → ℕ → Type 0
BeginsSlot run place = places_with run place (at_or_last run place) ≡ 0

pub record AreLinedUp (before after : List ℕ) : Type 0 where
  pub before_ascend : Ascend (slot_columns before after before)
  pub after_ascend : Ascend (slot_columns before after after)
  -- where a slot begins in both runs, they begin at one column
  pub aligned : (p q : ℕ) → p < length before → q < length after
      → BeginsSlot before p → BeginsSlot after q → at_or_last before p ≡ at_or_last after q
      → slice_get (slot_columns before after before) p
      ≡ slice_get (slot_columns before after after) q
