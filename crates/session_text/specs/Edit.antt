-- An edit: `edit` says which, and after it stand the members of its kind.
use Rattle.std.specs.Prelude.{ℕ, List, [], ◌∷◌, codes, bytes_eq, find, Option, Some, option_map, is_some, Result, Ok, if◌then◌else◌}
use Rattle.serde_json.specs.Data.{Data, Members}
use Rattle.bench_types.specs.declared.header.Header.{Header}
use Rattle.bench_types.specs.declared.step.Step.{Step}
use Rattle.bench_types.specs.declared.edit.Edit.{Edit}
use Rattle.bench_types.specs.declared.edit.Edit.TheVariants as edit
use Rattle.bench_types.specs.StepFlaw.{edit_flaw}
use Rattle.session_text.specs.declared.detail.Detail.TheVariants.{NoWord}
use Rattle.session_text.specs.declared.fault.TextFault.{TextFault}
use Rattle.session_text.specs.declared.format.Format.{Format}
use Rattle.session_text.specs.declared.format.Format.TheVariants.{Two, Three}
use Rattle.session_text.specs.declared.edit.EditKind.{EditKind}
use Rattle.session_text.specs.declared.edit.EditKind.TheVariants.{Insert, Remove, Replace, Change}
use Rattle.session_text.specs.Accepted.{item_accepted}
use Rattle.session_text.specs.Detail.{words_of}
use Rattle.session_text.specs.Member.{object_at, member_at, number_at, text_at, only_at}
use Rattle.session_text.specs.Names.{TaskNames, names_of, user_names}
use Rattle.session_text.specs.Nearest.{stray}
use Rattle.session_text.specs.ReadingRules.{◌>>=◌, found}
use Rattle.session_text.specs.Path.{member_path}
use Rattle.session_text.specs.Session.{document}
use Rattle.session_text.specs.Step.{step_at, task_named_at}

-- the words of `edit`
abbrev pub edit_kinds : List (List ℕ × EditKind)
edit_kinds =
    (codes "insert", Insert) ∷ (codes "remove", Remove) ∷ (codes "replace", Replace)
    ∷ (codes "change", Change) ∷ []

abbrev pub edit_kind_of : List ℕ → Option EditKind
edit_kind_of word = option_map (λ entry. entry.1) (find (λ entry. bytes_eq word entry.0) edit_kinds)

unfoldable pub edit_kind_at : List ℕ → Data → Result EditKind TextFault
edit_kind_at at d = do
  word ← text_at at (codes "edit") d
  found (edit_kind_of word) (member_path at (codes "edit")) (NoWord (stray word (words_of edit_kinds)))

abbrev pub edit_members_of : EditKind → List (List ℕ)
edit_members_of Insert = codes "edit" ∷ codes "at" ∷ codes "step" ∷ []
edit_members_of Remove = codes "edit" ∷ codes "at" ∷ []
edit_members_of Replace = codes "edit" ∷ codes "at" ∷ codes "step" ∷ []
edit_members_of Change = codes "edit" ∷ codes "task" ∷ codes "priority" ∷ codes "mask" ∷ []

-- the step that an edit brings
unfoldable pub new_step_at : Format → TaskNames → List ℕ → Data → Result Step TextFault
new_step_at format names at d = do
  value ← member_at at (codes "step") d
  step_at format names (member_path at (codes "step")) value

unfoldable pub edit_of_kind_at :
    Format → TaskNames → EditKind → List ℕ → Data → Result Edit TextFault
edit_of_kind_at format names Insert at d = do
  location ← number_at at (codes "at") d
  step ← new_step_at format names at d
  Ok (edit.Insert location step)
edit_of_kind_at format names Remove at d = do
  location ← number_at at (codes "at") d
  Ok (edit.Remove location)
edit_of_kind_at format names Replace at d = do
  location ← number_at at (codes "at") d
  step ← new_step_at format names at d
  Ok (edit.Replace location step)
edit_of_kind_at format names Change at d = do
  task ← task_named_at names at (codes "task") d
  priority ← number_at at (codes "priority") d
  mask ← number_at at (codes "mask") d
  Ok (edit.ChangeTask task priority mask)

-- an edit of a kind, at an object with no members beside those of the kind
unfoldable pub edit_among :
    Format → TaskNames → EditKind → List ℕ → Data → Members → Result Edit TextFault
edit_among format names which at d members = do
  made ← edit_of_kind_at format names which at d
  only ← only_at at (edit_members_of which) members
  Ok made

unfoldable pub edit_at : Format → TaskNames → List ℕ → Data → Result Edit TextFault
edit_at format names at d = do
  members ← object_at at d
  which ← edit_kind_at at d
  edit_among format names which at d members

-- the format that an edit is read in where it stands alone: the third where the header says which
-- queues there are, else the second, so its step may have an index
abbrev pub lone_format : Header → Format
lone_format header = if is_some header.queues then Three else Two

-- an edit under a header, or its first fault
unfoldable pub lone_edit_at : Header → List ℕ → Data → Result Edit TextFault
lone_edit_at header at d = do
  made ← edit_at (lone_format header) (names_of header) at d
  done ← item_accepted (user_names header) at (Some d) (edit_flaw header made)
  Ok made

-- the edit that a text spells
unfoldable pub edit_text : Header → List ℕ → Result Edit TextFault
edit_text header text = do
  d ← document text
  lone_edit_at header [] d
