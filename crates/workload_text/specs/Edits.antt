-- An edit of a workload, as its document says it.
use Rattle.std.specs.Prelude.{ℕ, List, [], ◌∷◌, codes, Option, Some, None, option_map, Result, Ok}
use Rattle.serde_json.specs.Data.{Data}
use Rattle.serde_json.specs.Find.{as_str}
use Rattle.session_text.specs.declared.detail.Detail.TheVariants.{NoWord}
use Rattle.session_text.specs.declared.detail.Expected.TheVariants.{Number}
use Rattle.session_text.specs.declared.fault.TextFault.{TextFault}
use Rattle.session_text.specs.Array.{list_at}
use Rattle.session_text.specs.Detail.{words_of}
use Rattle.session_text.specs.Member.{as_u32, number_at, object_at, only_at, text_at, typed}
use Rattle.session_text.specs.Names.{TaskNames}
use Rattle.session_text.specs.Nearest.{stray}
use Rattle.session_text.specs.Path.{member_path}
use Rattle.session_text.specs.ReadingRules.{◌>>=◌, found}
use Rattle.session_text.specs.Step.{kind_among, task_named_at}
use Rattle.workload_edits.specs.declared.edit.Branch.{Branch}
use Rattle.workload_edits.specs.declared.edit.Branch.TheVariants.{Then, Else}
use Rattle.workload_edits.specs.declared.edit.Change.{Change}
use Rattle.workload_edits.specs.declared.edit.Change.TheVariants as change
use Rattle.workload_edits.specs.declared.edit.PathPart.{PathPart}
use Rattle.workload_edits.specs.declared.edit.PathPart.TheVariants as part
use Rattle.workload_edits.specs.declared.edit.TaskEdit.{TaskEdit}
use Rattle.workload_text.specs.declared.edit.EditKind.{EditKind}
use Rattle.workload_text.specs.declared.edit.EditKind.TheVariants as kind
use Rattle.workload_text.specs.declared.head.Head.{Head}
use Rattle.workload_text.specs.Heads.{members_of_head, object_head_at}
use Rattle.workload_text.specs.Items.{headed_at, items_at}

-- the words of `edit`
abbrev pub edit_kinds : List (List ℕ × EditKind)
edit_kinds = (codes "change", kind.Change) ∷ (codes "set", kind.Set) ∷ []

unfoldable pub edit_kind_at : List ℕ → Data → Result EditKind TextFault
edit_kind_at at d = do
  word ← text_at at (codes "edit") d
  found (kind_among edit_kinds word) (member_path at (codes "edit"))
      (NoWord (stray word (words_of edit_kinds)))

-- the branches of a call
abbrev pub branches : List (List ℕ × Branch)
branches = (codes "then", Then) ∷ (codes "else", Else) ∷ []

-- a word of a path is a branch
abbrev pub branch_part_at : List ℕ → List ℕ → Result PathPart TextFault
branch_part_at at word =
    found (option_map part.Branch (kind_among branches word)) at
    (NoWord (stray word (words_of branches)))

-- anything else is the index of an item
abbrev pub index_part_at : List ℕ → Data → Result PathPart TextFault
index_part_at at d = typed Number d (option_map part.Index (as_u32 d)) at

abbrev pub part_or : List ℕ → Data → Option (List ℕ) → Result PathPart TextFault
part_or at d (Some word) = branch_part_at at word
part_or at d None = index_part_at at d

-- a part of a path
abbrev pub part_at : List ℕ → Data → Result PathPart TextFault
part_at at d = part_or at d (as_str d)

abbrev pub change_members : List (List ℕ)
change_members = codes "edit" ∷ codes "task" ∷ codes "priority" ∷ codes "mask" ∷ []

-- the priority and the mask that the task is to have
unfoldable pub numbers_at : List ℕ → Data → Result Change TextFault
numbers_at at d = do
  priority ← number_at at (codes "priority") d
  mask ← number_at at (codes "mask") d
  members ← object_at at d
  only ← only_at at change_members members
  Ok (change.Numbers priority mask)

-- beside the members of the new item
abbrev pub set_members : Head → List (List ℕ)
set_members which = codes "edit" ∷ codes "task" ∷ codes "item" ∷ members_of_head which

-- in an item lists of items stand in one another at most this often: the program is one around it
abbrev pub most_lists_inside : ℕ
most_lists_inside = 16

-- the path of an item, and the new item, which has the other members
unfoldable pub set_at : TaskNames → List ℕ → Data → Result Change TextFault
set_at names at d = do
  path ← list_at part_at at (codes "item") d
  which ← object_head_at names at d
  instructions ← headed_at (items_at most_lists_inside names) which at 0 d
  members ← object_at at d
  only ← only_at at (set_members which) members
  Ok (change.Item path)

abbrev pub change_at : TaskNames → EditKind → List ℕ → Data → Result Change TextFault
change_at names kind.Change at d = numbers_at at d
change_at names kind.Set at d = set_at names at d

unfoldable pub edit_at : TaskNames → List ℕ → Data → Result TaskEdit TextFault
edit_at names at d = do
  members ← object_at at d
  which ← edit_kind_at at d
  task ← task_named_at names at (codes "task") d
  what ← change_at names which at d
  Ok (record { task = task; change = what })
