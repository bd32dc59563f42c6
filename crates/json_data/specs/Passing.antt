-- What is known where a value was passed. Private clauses alone cite it.
use Rattle.std.specs.Prelude.{◌≡◌, ℕ, ◌≤◌, List, [], slice_get, Some}
use Rattle.json_data.specs.declared.doubled.Passed.{Passed}
use Rattle.json_data.specs.declared.doubled.Passed.TheVariants.{Twice, Next}
use Rattle.json_data.specs.Doubled.{Key, key_of}

-- the first of the keys was found, or there is none, and this node follows
abbrev pub Passes : List Key → ℕ → Passed → Type 0
Passes keys after (Twice doubled) = slice_get keys 0 ≡ Some (key_of doubled)
Passes keys after (Next next) = (keys ≡ []) × (next ≡ after)

-- the node that follows is one from this index on, or the end
abbrev pub GoesOn : ℕ → ℕ → Passed → Type 0
GoesOn least end (Twice doubled) = Unit {0}
GoesOn least end (Next next) = (least ≤ next) × (next ≤ end)
