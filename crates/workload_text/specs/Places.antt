-- Where an instruction of a program stands in its document.
use Rattle.std.specs.Prelude.{ℕ, zero, suc, ◌+◌, ◌==◌, nat_le, nat_lt, List, codes, length, slice_get, Option, Some, None, if◌then◌else◌}
use Rattle.session_text.specs.Path.{item_path, member_path}
use Rattle.task_programs.specs.declared.instruction.Instruction.{Instruction}
use Rattle.task_programs.specs.declared.instruction.Instruction.TheVariants.{Call as Calls, Enter}
use Rattle.task_programs.specs.Programs.{item_end}

-- the index behind the item that begins at an index, which may be past the last instruction
abbrev pub end_or : ℕ → Option Instruction → ℕ
end_or index None = index
end_or index (Some instruction) = item_end index instruction

abbrev pub end_at : List Instruction → ℕ → ℕ
end_at program index = end_or index (slice_get program index)

-- of a list of items, the place and the first instruction of the one with an instruction in it:
-- from an item on, past so many at most
abbrev pub item_with : List Instruction → ℕ → ℕ → ℕ → ℕ → ℕ × ℕ
item_with program index zero place start = (place, start)
item_with program index (suc most) place start =
    if nat_le (end_at program start) index
    then item_with program index most (place + 1) (end_at program start)
    else (place, start)

abbrev pub loop_word : Option ℕ → List ℕ
loop_word None = codes "forever"
loop_word (Some rounds) = codes "of"

-- the list of items in an item, as its member and its first instruction; none where no items are
abbrev pub part_of : ℕ → ℕ → Option Instruction → Option (List ℕ × ℕ)
part_of index start (Some (Calls made otherwise end)) =
    Some (if nat_lt index otherwise then (codes "then", start + 1) else (codes "else", otherwise))
part_of index start (Some (Enter rounds end)) = Some (loop_word rounds, start + 1)
part_of index start other = None

abbrev pub place_or :
    List ℕ → (List ℕ → ℕ → List ℕ) → Option (List ℕ × ℕ) → List ℕ
place_or here place_in None = here
place_or here place_in (Some part) = place_in (member_path here part.0) part.1

-- the location of the item with an instruction in it, of the list at a location whose first
-- instruction is given; at most so many lists stand in one another
unfoldable pub place_in : List Instruction → ℕ → ℕ → List ℕ → ℕ → List ℕ
place_in program index zero at start = at
place_in program index (suc room) at start =
    let found = item_with program index (length program) 0 start in
    let here = item_path at found.0 in
    if found.1 == index then here
    else place_or here (place_in program index room)
    (part_of index found.1 (slice_get program found.1))
