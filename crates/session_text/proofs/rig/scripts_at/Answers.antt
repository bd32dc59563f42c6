use Rattle.std.proofs.Common.{◌≡◌, ◌∙◌, codes, length, sym}
use Rattle.json_data.specs.View.{items_view}
use Rattle.session_text.specs.CoreAction.{script_at}
use Rattle.session_text.specs.Array.{list_at}
use Rattle.session_text.specs.Node.{data_of, location_of}
use Rattle.session_text.proofs.Scripts.{given, one_per_core}
use Rattle.session_text.proofs.rig.scripts_at.Goals as goal

pub returns-clause-one_per_core : goal.returns-clause-one_per_core
returns-clause-one_per_core c =
    let at = location_of c.args.node.now in
    let d = data_of c.args.node.now in
    let read = script_at c.args.format c.args.names.now in
    given (λ scripts. scripts.items) c.list_at.result (list_at read at (codes "scripts") d) (λ scripts. length scripts.items ≡ c.args.cores)
    (λ scripts is. one_per_core read at (codes "scripts") d c.args.cores (items_view c.in_ok-array.field-0) scripts.items c.in_ok-array.ensures
    (sym c.has_arrays.ensures ∙ c.if-not-has_arrays.false) is) c.list_at.ensures
