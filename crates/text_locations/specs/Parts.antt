-- What the code's part of a path, and its target, stand for.
use Rattle.std.specs.Prelude.{[], ◌∷◌, Some, None}
use Rattle.text_locations.specs.Path as path
use Rattle.text_locations.specs.declared.path.Part.{Part}
use Rattle.text_locations.specs.declared.path.Part.TheVariants.{Member, Item}
use Rattle.text_locations.specs.declared.path.Target.{Target}
use Rattle.text_locations.specs.declared.path.Target.TheVariants.{Nothing, Whole, Below}

abbrev pub part_of : Part → path.Part
part_of (Member name) = path.member name.now
part_of (Item index) = path.item index

abbrev pub target_of : Target → path.Target
target_of Nothing = None
target_of Whole = Some []
target_of (Below part rest) = Some (part_of part ∷ path.parts rest.now)
