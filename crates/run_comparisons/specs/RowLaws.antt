-- What the rows of a session and of the edited session have to do with the steps of both.
use Rattle.std.specs.Prelude.{◌≡◌, ◌↔◌, ◌⊎◌, ◌<◌, ◌-◌, ◌==◌, ℕ, suc, List, [], ◌∷◌, ◌++◌, length, Contains, Option, Some, None}
use Rattle.std.specs.Prelude.{Ok, is_ok, nat_lt, option_and_then, slice_get, if◌then◌else◌}
use Rattle.bench_types.specs.declared.edit.Edit.{Edit}
use Rattle.bench_types.specs.declared.edit.Edit.TheVariants.{Insert, Remove, Replace, ChangeTask}
use Rattle.bench_types.specs.declared.step.Step.{Step}
use Rattle.bench_types.specs.Session.{Session}
use Rattle.bench_model.specs.Edits.{accepted, after_edit, after_edits}
use Rattle.run_comparisons.specs.declared.rows.Row.TheVariants.{Both}
use Rattle.run_comparisons.specs.Rows.{rows_of}

-- where the step of a place stands after an edit; nowhere where the edit removes it
abbrev pub moved : Edit → ℕ → Option ℕ
moved (Insert at step) place = Some (if nat_lt place at then place else suc place)
moved (Remove at) place =
    if place == at then None else Some (if nat_lt place at then place else place - 1)
moved (Replace at step) place = Some place
moved (ChangeTask task priority mask) place = Some place

-- an edit that is refused moves none
abbrev pub moved_by : Session → Edit → ℕ → Option ℕ
moved_by session edit place =
    if is_ok (accepted session edit) then moved edit place else Some place

-- where the step of a place stands after edits of the session in their order
abbrev pub moved_to : Session → List Edit → ℕ → Option ℕ
moved_to session [] place = Some place
moved_to session (edit ∷ edits) place =
    option_and_then (moved_to (after_edit session edit) edits) (moved_by session edit place)

-- A step of the session stands in a row of both exactly with the step that it is moved to. So one
-- that no edit removes has no row alone.
abbrev pub MovedStandTogether : Type 0
MovedStandTogether =
    (session : Session) (edits : List Edit) (old new : ℕ) → old < length session.steps
    → Contains (rows_of session edits) (Both old new) ↔ (moved_to session edits old ≡ Some new)

-- a `replace` among the edits, which is accepted, puts the step where that of the place then stands
pub record IsReplaced (session : Session) (edits : List Edit) (place : ℕ) (step : Step) : Type 0
  where
    pub first : List Edit
    pub at : ℕ
    pub rest : List Edit
    pub among : edits ≡ first ++ Replace at step ∷ rest
    pub made : accepted (after_edits session first) (Replace at step) ≡ Ok tt
    pub stands : moved_to session first place ≡ Some at

-- both steps are there, and they are one step, or an edit puts the second in place of the first
pub record AreOneOrReplaced (session : Session) (edits : List Edit) (old new : ℕ) : Type 0 where
  pub step : Step
  pub other : Step
  pub stands : slice_get session.steps old ≡ Some step
  pub beside : slice_get (after_edits session edits).steps new ≡ Some other
  pub one : (step ≡ other) ⊎ IsReplaced session edits old other

-- so it is in each row of both
abbrev pub RowsAreOfOne : Type 0
RowsAreOfOne =
    (session : Session) (edits : List Edit) (old new : ℕ)
    → Contains (rows_of session edits) (Both old new) → AreOneOrReplaced session edits old new
