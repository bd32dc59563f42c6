-- The tokens of a text in the order of a stack: what was written last comes first.
use Rattle.std.specs.Prelude.{List, ◌∷◌}
use Rattle.json.specs.Token.{Token, begin_array, begin_object, end_array, end_object, key}
use Rattle.json.specs.Token as token
use Rattle.serde_json.specs.Data.{Data, null, boolean, number, string, array, object, Items, no_items, item, Members, no_members, member}
use Rattle.serde_json.specs.Written.{number_text}

abbrev mutual
  -- the tokens, and then those of the value
  pub with_value : Data → List Token → List Token
  with_value null written = token.null ∷ written
  with_value (boolean b) written = token.boolean b ∷ written
  with_value (number n) written = token.number (number_text n) ∷ written
  with_value (string s) written = token.string s ∷ written
  with_value (array items) written = end_array ∷ with_items items (begin_array ∷ written)
  with_value (object all) written = end_object ∷ with_members all (begin_object ∷ written)

  -- and then those of the items
  pub with_items : Items → List Token → List Token
  with_items no_items written = written
  with_items (item first others) written = with_items others (with_value first written)

  -- and then those of the members
  pub with_members : Members → List Token → List Token
  with_members no_members written = written
  with_members (member name value others) written =
      with_members others (with_value value (key name ∷ written))
