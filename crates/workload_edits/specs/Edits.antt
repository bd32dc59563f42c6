-- What an edit makes of a workload, on its JSON data.
use Rattle.std.specs.Prelude.{ℕ, zero, suc, List, [], ◌∷◌, codes, bytes_eq, is_some, Option, Some, None, option_map, option_and_then, if◌then◌else◌}
use Rattle.serde_json.specs.Data.{Data, number, unsigned, array, object, Items, no_items, item, Members, no_members, member, put}
use Rattle.serde_json.specs.Find as find
use Rattle.workload_edits.specs.declared.edit.Branch.{Branch}
use Rattle.workload_edits.specs.declared.edit.Branch.TheVariants.{Then, Else}
use Rattle.workload_edits.specs.declared.edit.Change.{Change}
use Rattle.workload_edits.specs.declared.edit.Change.TheVariants as change
use Rattle.workload_edits.specs.declared.edit.PathPart.{PathPart}
use Rattle.workload_edits.specs.declared.edit.PathPart.TheVariants as part

-- Values with other values in them.

-- an object with another value at a member
abbrev pub with_member : List ℕ → Data → Data → Data
with_member name new (object members) = object (put name new members)
with_member name new other = other

-- items with another one at an index
abbrev pub with_item_at : ℕ → Data → Items → Items
with_item_at index new no_items = no_items
with_item_at zero new (item d rest) = item new rest
with_item_at (suc index) new (item d rest) = item d (with_item_at index new rest)

-- an array with another value at an index
abbrev pub with_item : ℕ → Data → Data → Data
with_item index new (array items) = array (with_item_at index new items)
with_item index new other = other

-- an object with what is made of the value at a member, if there is one of which it can be made
abbrev pub within_member : List ℕ → (Data → Option Data) → Data → Option Data
within_member name make d =
    option_map (λ new. with_member name new d) (option_and_then make (find.get name d))

-- an array with what is made of the value at an index
abbrev pub within_item : ℕ → (Data → Option Data) → Data → Option Data
within_item index make d =
    option_map (λ new. with_item index new d) (option_and_then make (find.at index d))

-- The place of an item in a program.

abbrev pub branch_member : Branch → List ℕ
branch_member Then = codes "then"
branch_member Else = codes "else"

-- the member of a loop in which its items stand
abbrev pub list_member : Data → List ℕ
list_member d = if is_some (find.get (codes "repeat") d) then codes "of" else codes "forever"

-- A new item at a path: an index leads to an item of a list, in an item to one of a loop, and a
-- branch leads to its list, in an item that is a call. There is none where no item stands there.
abbrev mutual
  -- in an item, or in its place where the path ends
  pub with_in : List PathPart → Data → Data → Option Data
  with_in [] new d = Some new
  with_in (part.Index index ∷ rest) new d =
      within_member (list_member d) (within_item index (with_in rest new)) d
  with_in (part.Branch branch ∷ rest) new d =
      within_member (branch_member branch) (with_at rest new) d

  -- in a list of items
  pub with_at : List PathPart → Data → Data → Option Data
  with_at [] new items = None
  with_at (part.Index index ∷ rest) new items = within_item index (with_in rest new) items
  with_at (part.Branch branch ∷ rest) new items = None

-- The task.

abbrev pub whole : ℕ → Data
whole n = number (unsigned n)

-- members but for that of a name
abbrev pub without : List ℕ → Members → Members
without name no_members = no_members
without name (member key d rest) =
    if bytes_eq name key then rest else member key d (without name rest)

-- the new item that an edit says beside its kind, its task and its path
abbrev pub new_item : Data → Data
new_item (object members) =
    object (without (codes "item") (without (codes "task") (without (codes "edit") members)))
new_item other = other

-- a task with another priority and another mask
abbrev pub with_numbers : ℕ → ℕ → Data → Data
with_numbers priority mask task =
    with_member (codes "mask") (whole mask) (with_member (codes "priority") (whole priority) task)

-- what an edit makes of its task
abbrev pub changed : Change → Data → Data → Option Data
changed (change.Numbers priority mask) edit task = Some (with_numbers priority mask task)
changed (change.Item path) edit task =
    within_member (codes "program") (with_at path (new_item edit)) task

-- what an edit makes of a workload, where it changes the task of an index; none where that task is
-- not there, or no item at the path
abbrev pub edited : ℕ → Change → Data → Data → Option Data
edited index what edit workload =
    within_member (codes "tasks") (within_item index (changed what edit)) workload
