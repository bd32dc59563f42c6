-- The members that serde_json reads of an object.
use Rattle.std.specs.Prelude.{unwrap_or}
use Rattle.serde_json.specs.Data.{Members, no_members}
use Rattle.serde_json.specs.Find.{as_object}
use Rattle.json_data.specs.declared.object.Object.{Object}
use Rattle.json_data.specs.View.{view}

abbrev pub members_view : Object → Members
members_view object = unwrap_or (as_object (view object.item.now)) no_members
