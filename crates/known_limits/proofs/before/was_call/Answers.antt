use Rattle.std.proofs.Common.{◌≡◌, Some, None, sym, ◌∙◌, arith}
use Rattle.std.specs.Prelude.{slice_get}
use Rattle.std.proofs.lemmas.Option.{gets}
use Rattle.known_limits.proofs.Begun.{was_nowhere, was_there}
use Rattle.known_limits.proofs.before.was_call.Goals as goal

pub returns-then-not-inserted : goal.returns-then-not-inserted
returns-then-not-inserted c =
    let document = c.args.document.now in
    let item = c.args.item.now in
    let lookup = c.in-Some.ensures.lookup in
    let anchor = c.anchor.ensures in
    let there : slice_get document item.anchor ≡ Some c.in-Some.step.now = grind (arith, gets, lookup, anchor) in
    c.begins_call.ensures
    ∙ was_there document c.args.task item c.requires c.in-Some.step.now there (sym c.inserted.ensures ∙ c.if-not-inserted.true)

pub returns-in-None : goal.returns-in-None
returns-in-None c =
    let document = c.args.document.now in
    let item = c.args.item.now in
    let lookup = c.in-None.ensures.lookup in
    let anchor = c.anchor.ensures in
    let there : slice_get document item.anchor ≡ None = grind (arith, gets, lookup, anchor) in
    was_nowhere document c.args.task item c.requires there
