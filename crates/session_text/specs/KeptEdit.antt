-- An edit of a session whose run keeps work: in format 3 one may change the work of a call.
use Rattle.std.specs.Prelude.{ℕ, Bool, true, false, ◌&&◌, List, [], ◌∷◌, ◌++◌, codes, option_map, is_none, is_some, Option, None, Result, Ok}
use Rattle.std.specs.Option.{option_or}
use Rattle.serde_json.specs.Data.{Data, Members}
use Rattle.serde_json.specs.Find.{get}
use Rattle.bench_types.specs.declared.header.Header.{Header}
use Rattle.bench_types.specs.declared.step_flaw.StepFlaw.{StepFlaw}
use Rattle.bench_types.specs.StepFlaw.{edit_flaw}
use Rattle.kept_edits.specs.declared.edit.KeptEdit.{KeptEdit}
use Rattle.kept_edits.specs.declared.edit.KeptEdit.TheVariants as kept
use Rattle.kept_edits.specs.declared.edit.WorkChange.{WorkChange}
use Rattle.kept_edits.specs.declared.edit.WorkChange.TheVariants.{More, Fewer}
use Rattle.session_text.specs.declared.detail.Detail.TheVariants.{NoWord}
use Rattle.session_text.specs.declared.fault.TextFault.{TextFault}
use Rattle.session_text.specs.declared.format.Format.{Format}
use Rattle.session_text.specs.declared.format.Format.TheVariants.{One, Two, Three}
use Rattle.session_text.specs.declared.kept_edit.KeptKind.{KeptKind}
use Rattle.session_text.specs.declared.kept_edit.KeptKind.TheVariants.{Plain, Work}
use Rattle.session_text.specs.Detail.{words_of}
use Rattle.session_text.specs.Edit.{edit_kind_of, edit_kinds, edit_among}
use Rattle.session_text.specs.Member.{object_at, number_at, text_at, only_at}
use Rattle.session_text.specs.Names.{TaskNames}
use Rattle.session_text.specs.Nearest.{stray}
use Rattle.session_text.specs.ReadingRules.{◌>>=◌, found}
use Rattle.session_text.specs.Path.{member_path}
use Rattle.session_text.specs.Step.{kind_among}

-- the word of `edit` that the third format has beside the others
abbrev pub work_kinds : Format → List (List ℕ × KeptKind)
work_kinds One = []
work_kinds Two = []
work_kinds Three = (codes "work", Work) ∷ []

-- the words of `edit` that a format has
abbrev pub kept_words : Format → List (List ℕ)
kept_words format = words_of edit_kinds ++ words_of (work_kinds format)

-- what a word is of an edit
abbrev pub kept_kind_of : Format → List ℕ → Option KeptKind
kept_kind_of format word =
    option_or (option_map Plain (edit_kind_of word)) (kind_among (work_kinds format) word)

unfoldable pub kept_kind_at : Format → List ℕ → Data → Result KeptKind TextFault
kept_kind_at format at d = do
  word ← text_at at (codes "edit") d
  found (kept_kind_of format word) (member_path at (codes "edit"))
      (NoWord (stray word (kept_words format)))

-- `less` stands in place of `by`
abbrev pub is_fewer : Data → Bool
is_fewer d = is_none (get (codes "by") d) && is_some (get (codes "less") d)

unfoldable pub change_of : Bool → List ℕ → Data → Result WorkChange TextFault
change_of true at d = do
  less ← number_at at (codes "less") d
  Ok (Fewer less)
change_of false at d = do
  by ← number_at at (codes "by") d
  Ok (More by)

-- the members of a change of work
abbrev pub work_members : WorkChange → List (List ℕ)
work_members (More by) = codes "edit" ∷ codes "at" ∷ codes "by" ∷ []
work_members (Fewer less) = codes "edit" ∷ codes "at" ∷ codes "less" ∷ []

-- a change of work: of which call, and how many units more, or fewer
unfoldable pub work_at : List ℕ → Data → Members → Result KeptEdit TextFault
work_at at d members = do
  location ← number_at at (codes "at") d
  change ← change_of (is_fewer d) at d
  only ← only_at at (work_members change) members
  Ok (kept.Work location change)

-- an edit of a kind, at an object with no members beside those of the kind
unfoldable pub kept_among :
    Format → TaskNames → KeptKind → List ℕ → Data → Members → Result KeptEdit TextFault
kept_among format names (Plain which) at d members = do
  made ← edit_among format names which at d members
  Ok (kept.Plain made)
kept_among format names Work at d members = work_at at d members

unfoldable pub kept_edit_at : Format → TaskNames → List ℕ → Data → Result KeptEdit TextFault
kept_edit_at format names at d = do
  members ← object_at at d
  which ← kept_kind_at format at d
  kept_among format names which at d members

-- the first thing for which an edit is not accepted; a change of work always is
abbrev pub kept_flaw : Header → KeptEdit → Option StepFlaw
kept_flaw header (kept.Plain edit) = edit_flaw header edit
kept_flaw header (kept.Work at change) = None
