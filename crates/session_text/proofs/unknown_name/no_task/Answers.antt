use Rattle.std.proofs.Common.{◌≡◌, Some, refl, sym}
use Rattle.json_data.specs.View.{view}
use Rattle.session_text.specs.Names.{user_names}
use Rattle.session_text.specs.Nearest.{nearest}
use Rattle.session_text.specs.UnknownName.{unknown_name}
use Rattle.session_text.proofs.unknown_name.no_task.Goals as goal

pub returns-in-Some : goal.returns-in-Some
returns-in-Some c =
    let names = user_names c.args.header.now in
    let name = c.in-Some.name.now in
    let unknown : unknown_name names (view c.args.value.now) ≡ Some name = sym
    (rw (c.in-Some.is, c.as_slice.ensures.value, c.in_ok-names.ensures) at c.unknown_name.ensures) in
    let near : c.in_ok-known_nearest-in-Some.field-0 ≡ nearest name names = rw (c.as_slice-in-Some.ensures.value, c.in_ok-names.ensures)
    at c.in_ok-known_nearest-in-Some.ensures in
    rw (unknown, c.in_ok-of-in-Some.ensures, near) refl
