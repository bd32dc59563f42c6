-- What a notification does: `action` says which, and `value` is its number where it has one.
use Rattle.std.specs.Prelude.{ℕ, List, [], ◌∷◌, codes, bytes_eq, find, Option, Some, None, option_map, Result, Ok}
use Rattle.serde_json.specs.Data.{Data}
use Rattle.bench_types.specs.declared.note.NotifyAction.{NotifyAction}
use Rattle.bench_types.specs.declared.note.NotifyAction.TheVariants as action
use Rattle.session_text.specs.declared.detail.Detail.TheVariants.{NoWord}
use Rattle.session_text.specs.declared.fault.TextFault.{TextFault}
use Rattle.session_text.specs.declared.action.NotifyActionKind.{NotifyActionKind}
use Rattle.session_text.specs.declared.action.NotifyActionKind.TheVariants.{Nothing, SetBits, Increment, Set, SetNew}
use Rattle.session_text.specs.Detail.{words_of}
use Rattle.session_text.specs.Member.{number_at, text_at}
use Rattle.session_text.specs.Nearest.{stray}
use Rattle.session_text.specs.ReadingRules.{◌>>=◌, found}
use Rattle.session_text.specs.Path.{member_path}

-- the words of `action`
abbrev pub action_kinds : List (List ℕ × NotifyActionKind)
action_kinds =
    (codes "none", Nothing) ∷
    (codes "set_bits", SetBits) ∷
    (codes "increment", Increment) ∷
    (codes "set", Set) ∷
    (codes "set_new", SetNew) ∷ []

abbrev pub action_kind_of : List ℕ → Option NotifyActionKind
action_kind_of word =
    option_map (λ entry. entry.1) (find (λ entry. bytes_eq word entry.0) action_kinds)

unfoldable pub action_kind_at : List ℕ → Data → Result NotifyActionKind TextFault
action_kind_at at d = do
  word ← text_at at (codes "action") d
  found (action_kind_of word) (member_path at (codes "action"))
      (NoWord (stray word (words_of action_kinds)))

unfoldable pub action_of_kind_at : NotifyActionKind → List ℕ → Data → Result NotifyAction TextFault
action_of_kind_at Nothing at d = Ok action.Nothing
action_of_kind_at SetBits at d = do
  bits ← number_at at (codes "value") d
  Ok (action.SetBits bits)
action_of_kind_at Increment at d = Ok action.Increment
action_of_kind_at Set at d = do
  value ← number_at at (codes "value") d
  Ok (action.Set value)
action_of_kind_at SetNew at d = do
  value ← number_at at (codes "value") d
  Ok (action.SetNew value)

unfoldable pub action_at : List ℕ → Data → Result NotifyAction TextFault
action_at at d = do
  which ← action_kind_at at d
  action_of_kind_at which at d

-- the number of an action
abbrev pub action_number : NotifyAction → Option ℕ
action_number action.Nothing = None
action_number (action.SetBits bits) = Some bits
action_number action.Increment = None
action_number (action.Set value) = Some value
action_number (action.SetNew value) = Some value
