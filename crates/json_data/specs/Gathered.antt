-- A member that was found: where it is held, or where it was walked to.
use Rattle.serde_json.specs.Data.{Data}
use Rattle.json_data.specs.declared.gathered.Member.{Member}
use Rattle.json_data.specs.declared.gathered.Member.TheVariants.{Held, Walked}
use Rattle.json_data.specs.View.{view}

abbrev pub member_view : Member → Data
member_view (Held item) = view item.now
member_view (Walked item) = view item
