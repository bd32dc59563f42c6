-- The names that an object has had. Private clauses alone cite it.
use Rattle.std.specs.Prelude.{ℕ, List, Bool, ◌||◌, bytes_eq}
use Rattle.std.specs.BTreeSet.{contains_by}
use Rattle.std.specs.Cmp.Lexicographic.{slice_cmp}
use Rattle.std.specs.List.{list_any}
use Rattle.std.specs.Ordering.{nat_cmp}
use Rattle.json_data.specs.declared.seen.SeenNames.{SeenNames}

-- the name is one of the first ones, or in the tree
abbrev pub has_seen : SeenNames → List ℕ → Bool
has_seen seen name =
    list_any (λ few. bytes_eq name few.now) seen.few.items
    || contains_by (λ more. slice_cmp nat_cmp name more.now) seen.more
