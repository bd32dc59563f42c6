use Rattle.std.proofs.Common.{◌≡◌, ℕ, ◌≤◌, ◌<◌, ◌++◌, [], List, Option, Vec, Global, length, min, take, zip, ap, sym, arith, ◌∙◌}
use Rattle.std.specs.List.{cons_option, filter_map}
use Rattle.std.proofs.lemmas.List.{append-nil, take_all}
use Rattle.std.proofs.lemmas.Slice.Zip.{get_or-zip, length-zip}
use Rattle.run_comparisons.specs.declared.place_pair.PlacePair.{PlacePair}
use Rattle.run_comparisons.specs.Shared.{paired_at}
use Rattle.run_comparisons.proofs.Walks.{given_on}
use Rattle.run_comparisons.proofs.shared.paired_with.Goals.{in-Some+in_ok-push, in_default}
use Rattle.run_comparisons.proofs.shared.paired_with.Goals as goal

pub loop-number-preserved : goal.loop-number-preserved
loop-number-preserved c =
    let number = c.loop-number.number in
    let places = c.args.places.now in
    let later = c.args.later.now in
    let all = zip places later in
    let given : ℕ × ℕ → Option PlacePair = paired_at c.args.before.now c.args.after.now in
    let first : number < length places = omega (arith, c.loop-number-test.true, c.min-number-end.ensures) in
    let second : number < length later = omega (arith, c.loop-number-test.true, c.min-number-end.ensures) in
    let size : length all ≡ min (length places) (length later) = length-zip places later in
    let low : number < length all = omega (arith, size, first, second) in
    let more = given_on given all number (0, 0) low in
    let items = λ (events : Vec PlacePair Global). events.items in
    let with = λ (event : Option PlacePair). c.loop-number.events.items ++ cons_option event [] in
    let gave : c.match-paired_number.events.items ≡ c.loop-number.events.items ++ cons_option c.paired_number.result [] = elim c.match-paired_number.branch [
      | in-Some+in_ok-push w ↦ ap items w.events-is ∙ w.in_ok-push.ensures.items ∙ ap with (sym w.in-Some.is)
      | in_default w ↦ ap items w.events-is ∙ sym (append-nil c.loop-number.events.items) ∙ ap with (sym w.in_default.is)
    ] in
    gave ∙ ap (λ (items : List PlacePair). items ++ cons_option c.paired_number.result []) c.loop-number.invariant
    ∙ ap (λ (event : Option PlacePair). filter_map given (take number all) ++ cons_option event [])
    (c.paired_number.ensures ∙ ap given (sym (get_or-zip places later number (0, 0) first second)))
    ∙ sym more

pub returns : goal.returns
returns c =
    let places = c.args.places.now in
    let later = c.args.later.now in
    let all = zip places later in
    let given : ℕ × ℕ → Option PlacePair = paired_at c.args.before.now c.args.after.now in
    let size : length all ≡ min (length places) (length later) = length-zip places later in
    let past : length all ≤ c.loop-number.number = omega (arith, size, c.loop-number-test.false, c.min-number-end.ensures) in
    c.loop-number.invariant ∙ ap (filter_map given) (take_all c.loop-number.number all past)
