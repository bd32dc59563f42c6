use Rattle.std.proofs.Common.{◌≡◌, List, Some, map, map-id, string_bytes, refl, sym, ap, ◌∙◌}
use Rattle.std.specs.Prelude.{String}
use Rattle.std.specs.declared.alloc.Global.{Global}
use Rattle.std.specs.Vec.Iter.{into_iter_items}
use Rattle.std.proofs.lemmas.Iterator.{items_from_drains}
use Rattle.std.proofs.lemmas.Iterator.Adapters.{YieldsList-from_vec}
use Rattle.program_io.proofs.ending.given_words.Goals as goal

pub returns-in_ok-collect-in-Ok : goal.returns-in_ok-collect-in-Ok
returns-in_ok-collect-in-Ok c =
    let handed = c.in-Ok.words in
    let ran = c.in_ok-collect-in-Ok.ensures.ran in
    let yields = YieldsList-from_vec (into_iter_items handed) refl handed.rest.ok.0 in
    let same : c.in_ok-collect-in-Ok.field-0.items ≡ into_iter_items handed = ran.2.0 ∙ sym (map-id ran.0) ∙ items_from_drains ran.0 ran.1 yields in
    rw c.in-Ok.is (ap (λ (words : List (String Global)). Some (map string_bytes words)) same)
