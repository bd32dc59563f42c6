-- What serde_json reads of a document, and at each place in it.
use Rattle.std.specs.Prelude.{List}
use Rattle.json.specs.Token.{Token}
use Rattle.serde_json.specs.Data.{Data}
use Rattle.serde_json.specs.Data as read
use Rattle.json_data.specs.declared.document.Document.{Document}
use Rattle.json_data.specs.declared.item.Item.{Item}
use Rattle.json_data.specs.declared.items.Items.{Items}
use Rattle.json_data.specs.Reading.{data_of, rest_of}

abbrev pub document_view : Document → Data
document_view document = data_of document.tape

-- the tokens of its text
abbrev pub tokens_view : Document → List Token
tokens_view document = document.tape

abbrev pub view : Item → Data
view item = data_of item.element

-- the items from here on
abbrev pub items_view : Items → read.Items
items_view items = rest_of items.items
