-- The items of a program, and the instructions that they are.
use Rattle.std.specs.Prelude.{ℕ, zero, suc, ◌+◌, ◌==◌, min, List, [], ◌∷◌, ◌++◌, codes, length, map, Option, Some, None, Result, Ok, Err, if◌then◌else◌}
use Rattle.std.specs.List.{flat_map}
use Rattle.serde_json.specs.Data.{Data, Items, no_items, item}
use Rattle.serde_json.specs.Find.{get, as_array}
use Rattle.bench_types.specs.declared.fault.Fault.TheVariants.{BadArgument}
use Rattle.session_text.specs.declared.detail.BrokenRule.TheVariants.{Nesting}
use Rattle.session_text.specs.declared.detail.Detail.TheVariants as detail
use Rattle.session_text.specs.declared.detail.Expected.TheVariants.{Array}
use Rattle.session_text.specs.declared.fault.TextFault.{TextFault}
use Rattle.session_text.specs.declared.fault.Why.TheVariants.{Bench}
use Rattle.session_text.specs.Member.{array_at, typed}
use Rattle.session_text.specs.Names.{TaskNames}
use Rattle.session_text.specs.Path.{item_path, member_path, path_text}
use Rattle.session_text.specs.ReadingRules.{◌>>=◌}
use Rattle.task_programs.specs.declared.instruction.Instruction.{Instruction}
use Rattle.task_programs.specs.declared.instruction.Instruction.TheVariants as instruction
use Rattle.task_programs.specs.declared.instruction.ProgramCall.{ProgramCall}
use Rattle.task_programs.specs.Limits.{max_nesting}
use Rattle.workload_text.specs.declared.head.Head.{Head}
use Rattle.workload_text.specs.declared.head.Head.TheVariants as head
use Rattle.workload_text.specs.Heads.{head_at, only_of}

-- The instructions that an item is, where it begins at an index.

-- so many instructions on; an accepted program ends long before the greatest index
abbrev pub further : ℕ → ℕ → ℕ
further index count = min (index + count) 4294967295

-- works end behind the last one
abbrev pub works_item : ℕ → List ℕ → List Instruction
works_item start works =
    map (λ units. instruction.Work units (further start (length works))) works

-- a call alone
abbrev pub plain_call : ProgramCall → ℕ → List Instruction
plain_call made start = instruction.Call made (further start 1) (further start 1) ∷ []

-- with `then` alone, which ends behind its join
abbrev pub call_with_then : ProgramCall → ℕ → List Instruction → List Instruction
call_with_then made start passed =
    let end = further start (length passed + 2) in
    instruction.Call made end end ∷ passed ++ instruction.Join end ∷ []

-- with both; `else` begins behind the join of `then`, where that is empty too
abbrev pub call_with_both :
    ProgramCall → ℕ → List Instruction → List Instruction → List Instruction
call_with_both made start passed failed =
    let otherwise = further start (length passed + 2) in
    let end = further otherwise (length failed + 1) in
    instruction.Call made otherwise end ∷ passed
    ++ instruction.Join end ∷ failed ++ instruction.Join end ∷ []

abbrev pub call_item : ProgramCall → ℕ → List Instruction → List Instruction → List Instruction
call_item made start passed failed =
    if length failed == 0
    then (if length passed == 0 then plain_call made start
    else call_with_then made start passed)
    else call_with_both made start passed failed

-- a `break` that leads nowhere yet leads to the end of its loop
abbrev pub led_out : ℕ → Instruction → Instruction
led_out end (instruction.Break to) = instruction.Break (if to == 0 then end else to)
led_out end other = other

abbrev pub loop_item : Option ℕ → ℕ → List Instruction → List Instruction
loop_item rounds start body =
    let end = further start (length body + 2) in
    instruction.Enter rounds end ∷ map (led_out end) body
    ++ instruction.Again (further start 1) ∷ []

-- The items of a list.

-- F5 at the item in which they stand: too many stand around them
abbrev pub nested_fault : List ℕ → TextFault
nested_fault at = record {
  why = Bench BadArgument;
  path = path_text at;
  detail = detail.Rule (Nesting max_nesting);
}

abbrev pub none_inside : List ℕ → Items → Result (List Instruction) TextFault
none_inside outer no_items = Ok []
none_inside outer (item d rest) = Err (nested_fault outer)

-- the items from an index on of the array at a location, the first of which begins at an
-- instruction
abbrev pub each_from :
    (List ℕ → ℕ → Data → Result (List Instruction) TextFault) → List ℕ → ℕ → ℕ → Items
    → Result (List (List Instruction)) TextFault
each_from read at index start no_items = Ok []
each_from read at index start (item d rest) = do
  first ← read (item_path at index) start d
  others ← each_from read at (suc index) (further start (length first)) rest
  Ok (first ∷ others)

-- what reads the items of an array: it takes the location of the item in which they stand, that of
-- the array, and the index of the first instruction
abbrev pub Inside : Type 0
Inside = List ℕ → List ℕ → ℕ → Items → Result (List Instruction) TextFault

-- the items of a branch, which may be left out
abbrev pub branch_or : Inside → List ℕ → List ℕ → ℕ → Option Data
    → Result (List Instruction) TextFault
branch_or inside at name start None = Ok []
branch_or inside at name start (Some value) = do
  items ← typed Array value (as_array value) (member_path at name)
  inside at (member_path at name) start items

abbrev pub branch_at : Inside → List ℕ → List ℕ → ℕ → Data → Result (List Instruction) TextFault
branch_at inside at name start d = branch_or inside at name start (get name d)

unfoldable pub call_at :
    Inside → ProgramCall → List ℕ → ℕ → Data → Result (List Instruction) TextFault
call_at inside made at start d = do
  passed ← branch_at inside at (codes "then") (further start 1) d
  failed ← branch_at inside at (codes "else") (further start (length passed + 2)) d
  Ok (call_item made start passed failed)

-- the body of a loop is an array
unfoldable pub loop_at :
    Inside → Option ℕ → List ℕ → List ℕ → ℕ → Data → Result (List Instruction) TextFault
loop_at inside rounds name at start d = do
  items ← array_at at name d
  body ← inside at (member_path at name) (further start 1) items
  Ok (loop_item rounds start body)

abbrev pub headed_at : Inside → Head → List ℕ → ℕ → Data → Result (List Instruction) TextFault
headed_at inside head.Break at start d = Ok (instruction.Break 0 ∷ [])
headed_at inside (head.Works works) at start d = Ok (works_item start works)
headed_at inside (head.Call made) at start d = call_at inside made at start d
headed_at inside (head.Repeat rounds) at start d =
    loop_at inside (Some rounds) (codes "of") at start d
headed_at inside head.Forever at start d = loop_at inside None (codes "forever") at start d

-- an item
unfoldable pub item_at :
    Inside → TaskNames → List ℕ → ℕ → Data → Result (List Instruction) TextFault
item_at inside names at start d = do
  which ← head_at names at d
  instructions ← headed_at inside which at start d
  only ← only_of which at d
  Ok instructions

abbrev pub flat : List (List Instruction) → List Instruction
flat items = flat_map (λ instructions. instructions) items

-- the items of an array, in which there is room for so many lists of items, one in another
unfoldable pub items_at : ℕ → TaskNames → Inside
items_at zero names outer at start items = none_inside outer items
items_at (suc room) names outer at start items = do
  all ← each_from (item_at (items_at room names) names) at 0 start items
  Ok (flat all)
