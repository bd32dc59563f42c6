use Rattle.std.proofs.Common.{suc, ◌+◌, ◌∙◌, drop, ap, add-one, rules, tests, Iter}
use Rattle.std.proofs.lemmas.Iterator.{YieldsList-from_slice, YieldsList-from_take}
use Rattle.std.proofs.lemmas.Iterator.Search.{position_from_yields_List}
use Rattle.std.proofs.lemmas.List.{take_rest}
use Rattle.bench_types.specs.declared.step.Step.{Step}
use Rattle.run_comparisons.specs.Alike.{are_alike}
use Rattle.run_comparisons.specs.SideBySide.{look_ahead}
use Rattle.run_comparisons.proofs.side_by_side.found_after.Goals as goal

pub returns : goal.returns
returns c =
    let steps = c.args.steps.now in
    let place = c.args.place in
    let rest = ap (λ (it : Iter Step). it.rest.now) c.take.ensures.source ∙ c.iter.ensures.rest in
    let ahead = rest ∙ take_rest steps (place + 1) ∙ ap (λ n. drop n steps) (add-one place) in
    position_from_yields_List (are_alike c.args.step.now) _ _ c.position.result c.position.ensures.ran
    (YieldsList-from_take look_ahead (YieldsList-from_slice (drop (suc place) steps) ahead) c.take.ensures.count) (λ x b q k. search (rules, tests))
