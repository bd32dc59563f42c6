use Rattle.std.proofs.Common.{◌≡◌, ◌+◌, ◌-◌, ◌++◌, length, take, drop, ap, ◌∙◌, arith}
use Rattle.std.proofs.Math.Seq.{take-append_seam}
use Rattle.std.proofs.lemmas.List.{length-drop, take_all}
use Rattle.kept_works.specs.Works.{ends_from}
use Rattle.kept_works.proofs.Calls.{calls_and_ends}
use Rattle.kept_works.proofs.works.unmade_calls.Goals as goal

pub returns : goal.returns
returns c = λ ends are.
    let clocks = c.args.clocks.now in
    let count = length c.args.items.now in
    let all = take_all (length clocks - count) (drop count clocks) (omega (arith, length-drop count clocks)) in
    let now = c.push_calls.new.last in
    let many : c.in_ok-last.last.len ≡ length now =
    omega (arith, c.in_ok-last.ensures.len, c.as_mut_slice.ensures.len, c.in_ok-push_calls.ensures.many) in
    let back = ap (λ n. take n (now ++ drop (length now) c.in_ok-last.last.items)) many ∙ take-append_seam now (drop (length now) c.in_ok-last.last.items) in
    calls_and_ends c.args.cores c.args.users c.args.items.now clocks c.as_mut_slice.result.now c.push_calls.new.last c.new-unmade.result.items
    c.push_calls.new.unmade.items c.push_ends.new.unmade.items (c.args.cores + c.args.users) ends c.requires.many
    (c.as_mut_slice.ensures.value ∙ c.in_ok-last.ensures.items_if_clones_equal (λ y e. e)) c.new-unmade.ensures.items c.in_ok-push_calls.ensures.works
    (c.in_ok-push_ends.ensures
    ∙ (λ i. c.push_calls.new.unmade.items ++ ends_from c.args.cores (all i) ((c.as_slice.ensures.value ∙ back) i))) are
