-- Where each step of an edited session stands before the edits.
use Rattle.std.specs.Prelude.{◌≤◌, ◌<◌, ℕ, List, [], ◌∷◌, insert, remove, map, Option, Some, None, is_ok, if◌then◌else◌, ⊤}
use Rattle.list_orders.specs.Search.{numbers}
use Rattle.bench_types.specs.declared.edit.Edit.{Edit}
use Rattle.bench_types.specs.declared.edit.Edit.TheVariants.{Insert, Remove, Replace, ChangeTask}
use Rattle.bench_types.specs.Session.{Session}
use Rattle.bench_model.specs.Edits.{accepted, after_edit}

-- The place that a step has before the edits; none of a step that an edit inserts. What a step is
-- replaced by stands where it stood.
abbrev pub Origin : Type 0
Origin = Option ℕ

-- before any edit each step stands where it stands
abbrev pub all_kept : ℕ → List Origin
all_kept count = map Some (numbers count)

-- the origins move as the edit moves the steps
abbrev pub origins_after : Edit → List Origin → List Origin
origins_after (Insert at step) origins = insert origins at None
origins_after (Remove at) origins = remove origins at
origins_after (Replace at step) origins = origins
origins_after (ChangeTask task priority mask) origins = origins

-- an edit that is not accepted is passed over
abbrev pub origins_made : Session → Edit → List Origin → List Origin
origins_made session edit origins =
    if is_ok (accepted session edit) then origins_after edit origins else origins

-- the origins after edits of the session in their order, from those of its steps
abbrev pub origins_of : Session → List Edit → List Origin → List Origin
origins_of session [] origins = origins
origins_of session (edit ∷ edits) origins =
    origins_of (after_edit session edit) edits (origins_made session edit origins)

-- among so many steps there is the place of the edit
abbrev pub HasPlaceAmong : ℕ → Edit → Type 0
HasPlaceAmong count (Insert at step) = at ≤ count
HasPlaceAmong count (Remove at) = at < count
HasPlaceAmong count (Replace at step) = at < count
HasPlaceAmong count (ChangeTask task priority mask) = ⊤
