-- Members that stand twice: those whose name an earlier member of the same object has too.
use Rattle.std.specs.Prelude.{ℕ, ◌+◌, List, [], ◌∷◌, ◌++◌, length, bytes_eq, slice_get, Option, option_and_then, if◌then◌else◌}
use Rattle.std.specs.List.{list_any}
use Rattle.json.specs.Token.{Token}
use Rattle.json.specs.Json.{Json, Items, Members, value, max_depth}
use Rattle.json.specs.Json as json
use Rattle.json.specs.Lex.{tokens}
use Rattle.json.specs.Tree.{json_tokens}
use Rattle.json_data.specs.declared.doubled.Doubled.{Doubled}

-- the key of a member: the index of its token, and its name
pub record Key : Type 0 where
  pub token : ℕ
  pub name : List ℕ

abbrev pub key_of : Doubled → Key
key_of doubled = record { token = doubled.token; name = doubled.name.now }

-- the key at a token, where its name is one of those that stand before
abbrev pub if_doubled : ℕ → List ℕ → List (List ℕ) → List Key
if_doubled at name before =
    if list_any (bytes_eq name) before then record { token = at; name = name } ∷ [] else []

-- The keys in a value that stand again, in the order of the text. The value begins at a token.
abbrev mutual
  pub doubled_in : ℕ → Json → List Key
  doubled_in at json.null = []
  doubled_in at (json.boolean b) = []
  doubled_in at (json.number s) = []
  doubled_in at (json.string s) = []
  doubled_in at (json.array all) = doubled_in_items (at + 1) all
  doubled_in at (json.object all) = doubled_in_members (at + 1) [] all

  -- of items, the first of which begins at the token
  pub doubled_in_items : ℕ → Items → List Key
  doubled_in_items at json.no_items = []
  doubled_in_items at (json.item first rest) =
      doubled_in at first ++ doubled_in_items (at + length (json_tokens first)) rest

  -- of members, the first of which begins at the token, and the names of those before them
  pub doubled_in_members : ℕ → List (List ℕ) → Members → List Key
  doubled_in_members at before json.no_members = []
  doubled_in_members at before (json.member name first rest) =
      if_doubled at name before ++ doubled_in (at + 1) first
      ++ doubled_in_members (at + 1 + length (json_tokens first)) (name ∷ before) rest

-- the first of them in the value that tokens begin with
abbrev pub first_doubled : List Token → Option Key
first_doubled ts =
    option_and_then (λ read. slice_get (doubled_in 0 read.0) 0) (value max_depth ts)

-- the first of them in a text
abbrev pub doubled_in_text : List ℕ → Option Key
doubled_in_text text = first_doubled (tokens text)
