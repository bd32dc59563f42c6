-- Values as texts.
use Rattle.std.proofs.Common.{◌≡◌, ◌≤◌, ℕ, nat_le, true, List, Some, Ok}
use Rattle.std.specs.Str.{IsUtf8}
use Rattle.std.proofs.lemmas.Bool.{leb-true}
use Rattle.serde_json.specs.Data.{Data, depth}
use Rattle.serde_json.specs.Read.{max_depth, read}
use Rattle.session_text.specs.Session.{document}
use Rattle.session_text.proofs.Documents.{document_read}

-- a text that was written for a value which nests no deeper than a text may is a document that is the value
pub read_back : (text : List ℕ) (d : Data) → IsUtf8 text → (depth d ≤ max_depth → read text ≡ Some d) → nat_le (depth d) max_depth ≡ true → document text ≡ Ok d
read_back text d utf8 reads shallow = document_read text d utf8 (reads (leb-true (depth d) max_depth shallow))
