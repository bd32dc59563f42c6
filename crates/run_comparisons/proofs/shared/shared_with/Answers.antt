use Rattle.std.proofs.Common.{◌≡◌, ◌++◌, [], List, Option, Vec, Global, take, ap, sym, ◌∙◌}
use Rattle.std.specs.List.{cons_option, filter_map}
use Rattle.std.proofs.lemmas.List.{append-nil}
use Rattle.run_comparisons.specs.declared.place_pair.PlacePair.{PlacePair}
use Rattle.run_comparisons.specs.Shared.{is_event, shared_at}
use Rattle.run_comparisons.proofs.Walks.{given_on}
use Rattle.run_comparisons.proofs.shared.shared_with.Goals.{in-Some+in_ok-push, in_default}
use Rattle.run_comparisons.proofs.shared.shared_with.Goals as goal

pub loop-row-preserved : goal.loop-row-preserved
loop-row-preserved c =
    let given = shared_at (is_event c.args.kind) c.args.session.now c.args.edited.now c.args.places.now c.args.later.now in
    let more = given_on given c.args.rows.now c.loop-row.row-index _ c.loop-row-test.true in
    let items = λ (shared : Vec PlacePair Global). shared.items in
    let with = λ (event : Option PlacePair). c.loop-row.shared.items ++ cons_option event [] in
    let gave : c.match-shared_at.shared.items ≡ c.loop-row.shared.items ++ cons_option c.shared_at.result [] = elim c.match-shared_at.branch [
      | in-Some+in_ok-push w ↦ ap items w.shared-is ∙ w.in_ok-push.ensures.items ∙ ap with (sym w.in-Some.is)
      | in_default w ↦ ap items w.shared-is ∙ sym (append-nil c.loop-row.shared.items) ∙ ap with (sym w.in_default.is)
    ] in
    gave ∙ ap (λ (items : List PlacePair). items ++ cons_option c.shared_at.result []) c.loop-row.invariant
    ∙ ap (λ (event : Option PlacePair). filter_map given (take c.loop-row.row-index c.args.rows.now) ++ cons_option event []) c.shared_at.ensures
    ∙ sym more
