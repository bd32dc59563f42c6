-- A value of a document: where it stands, and what is there.
use Rattle.std.specs.Prelude.{ℕ, List}
use Rattle.serde_json.specs.Data.{Data}
use Rattle.json_data.specs.View.{view}
use Rattle.session_text.specs.declared.node.Node.{Node}
use Rattle.session_text.specs.Path.{path_of}

abbrev pub location_of : Node → List ℕ
location_of node = path_of node.location.now

abbrev pub data_of : Node → Data
data_of node = view node.value.now
