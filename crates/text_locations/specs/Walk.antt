-- What is known while a value is passed. Private clauses alone cite it.
use Rattle.std.specs.Prelude.{◌≡◌, ℕ, ◌+◌, List, length, Option, Some, None}
use Rattle.std.specs.Option.{option_map_or}
use Rattle.json.specs.Token.{Token}
use Rattle.json.specs.Json.{Items, Members}
use Rattle.text_locations.specs.declared.search.Passed.{Passed}
use Rattle.text_locations.specs.Leads.{led_to, last_member, nth_item}
use Rattle.text_locations.specs.Path.{Part}

-- `read` of the tokens that begin at an index was passed; the answer for it was found
pub record Passes {A : Type 0} (read : Option (A × List Token)) (at count : ℕ) (left : List Token)
    (answer : A → Option ℕ) (passed : Passed) : Type 0 where
  pub whole : A
  pub is : read ≡ Some (whole, left)
  pub next : passed.next + length left ≡ at + count
  pub found : passed.found ≡ answer whole

-- where the parts lead from the item that is wanted, and this where none is wanted any more
abbrev pub items_lead : Option ℕ → List Part → ℕ → Option ℕ → Items → Option ℕ
items_lead (Some n) rest at found all =
    option_map_or (λ item. led_to rest item.0 item.1) (nth_item at n all) found
items_lead None rest at found all = found

-- where they lead from the last member of that name, and this where there is none
abbrev pub members_lead : Option (List ℕ) → List Part → ℕ → Option ℕ → Members → Option ℕ
members_lead (Some name) rest at found all =
    option_map_or (λ value. led_to rest value.0 value.1) (last_member at name all) found
members_lead None rest at found all = found
