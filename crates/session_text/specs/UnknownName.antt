-- The name for which a step, an action or an edit has F3: it is no user task's.
use Rattle.std.specs.Prelude.{List, [], ◌∷◌, ℕ, codes, bytes_eq, Bool, not, Option, Some, None, option_and_then}
use Rattle.std.specs.List.{filter_map, find, list_any}
use Rattle.std.specs.Option.{unwrap_or}
use Rattle.serde_json.specs.Data.{Data}
use Rattle.serde_json.specs.Find.{get, as_str}
use Rattle.bench_types.specs.declared.step_flaw.StepFlaw.{StepFlaw}
use Rattle.bench_types.specs.declared.step_flaw.StepFlaw.TheVariants as flaws
use Rattle.session_text.specs.declared.detail.Detail.{Detail}
use Rattle.session_text.specs.declared.detail.Detail.TheVariants as detail
use Rattle.session_text.specs.Nearest.{nearest, shown}

-- what names tasks: the step of an edit that brings one, and else the value itself
abbrev pub naming : Data → Data
naming d = unwrap_or (get (codes "step") d) d

-- the members that name tasks, in the order in which their faults are tried
abbrev pub naming_members : List (List ℕ)
naming_members = codes "by" ∷ codes "to" ∷ codes "task" ∷ []

-- the text that is this member of a value
abbrev pub text_of : Data → List ℕ → Option (List ℕ)
text_of d name = option_and_then as_str (get name d)

-- a name is none of the names
abbrev pub is_unknown : List (List ℕ) → List ℕ → Bool
is_unknown names name = not (list_any (bytes_eq name) names)

-- the first name in a value that is none of those of the user tasks
abbrev pub unknown_name : List (List ℕ) → Data → Option (List ℕ)
unknown_name names d = find (is_unknown names) (filter_map (text_of (naming d)) naming_members)

-- such a name, with the nearest one of the user tasks
abbrev no_task : List (List ℕ) → ℕ → Option (List ℕ) → Detail
no_task names task None = detail.Step (flaws.Task task)
no_task names task (Some name) = detail.NoTask (shown name) (nearest name names)

-- what is known of the flaw of what a value spells, under the names of the user tasks
abbrev pub detail_of : List (List ℕ) → Option Data → StepFlaw → Detail
detail_of names d (flaws.Task task) = no_task names task (option_and_then (unknown_name names) d)
detail_of names d flaw = detail.Step flaw
