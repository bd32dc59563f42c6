-- The two lists by wakes where the tick count, and each wake, is so many ticks later.
use Rattle.std.specs.Prelude.{ℕ, zero, suc, List, [], ◌∷◌, ◌++◌, length, Bool, true, ◌&&◌, nat_lt, nat_le, if◌then◌else◌}
use Rattle.std.specs.Option.{option_map_or}
use Rattle.index_lists.specs.Listed.{Listed, ListsView, list_at, with_list, first_entry, last_entry}
use Rattle.bench_model.specs.Shifted.{later_tick}
use Rattle.tick_delay.specs.Parts.{other_list}

-- a task that waits, with a wake so many ticks later
abbrev pub later_wake : ℕ → Listed → Listed
later_wake by entry = record entry { key = later_tick by entry.key }

-- the list of two in which the task stands where the tick count is this one
abbrev pub list_for : ℕ → ℕ → Listed → ℕ
list_for tick turn entry = if nat_lt entry.key tick then other_list turn else turn

-- the list has the entry at its end
abbrev pub with_last : ℕ → Listed → ListsView → ListsView
with_last list entry lists = with_list list (list_at lists list ++ entry ∷ []) lists

-- the first entry of the list, which has these entries, goes to the end of the one in which it
-- stands with its later wake
abbrev pub first_later_of : ℕ → ℕ → ℕ → ℕ → List Listed → ListsView → ListsView
first_later_of by tick turn list [] lists = lists
first_later_of by tick turn list (entry ∷ rest) lists =
    let later = later_wake by entry in
    with_last (list_for tick turn later) later (with_list list rest lists)

unfoldable pub first_later : ℕ → ℕ → ℕ → ℕ → ListsView → ListsView
first_later by tick turn list lists =
    first_later_of by tick turn list (list_at lists list) lists

-- so many of them do so
abbrev pub first_ones_later : ℕ → ℕ → ℕ → ℕ → ℕ → ListsView → ListsView
first_ones_later by tick turn list zero lists = lists
first_ones_later by tick turn list (suc count) lists =
    first_later by tick turn list (first_ones_later by tick turn list count lists)

-- all tasks of this turn's list do so, and then those of the other
abbrev pub all_later : ℕ → ℕ → ℕ → ListsView → ListsView
all_later by tick turn lists =
    first_ones_later by tick turn (other_list turn) (length (list_at lists (other_list turn)))
    (first_ones_later by tick turn turn (length (list_at lists turn)) lists)

-- with their later wakes the last task of this turn's list still wakes in it, and the first of the
-- other list in that one
abbrev pub turns_stay : ℕ → ℕ → ℕ → ListsView → Bool
turns_stay by tick turn lists =
    option_map_or (λ entry. nat_le tick (later_tick by entry.1))
    (last_entry (list_at lists turn)) true
    && option_map_or (λ entry. nat_lt (later_tick by entry.1) tick)
    (first_entry (list_at lists (other_list turn))) true
