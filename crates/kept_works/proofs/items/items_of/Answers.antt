use Rattle.std.proofs.Common.{◌≡◌, ◌+◌, ℕ, false, [], ◌∷◌, ◌++◌, length, get_or, take, ap, sym, ◌∙◌, arith}
use Rattle.std.proofs.lemmas.List.{length-take-le, take_more}
use Rattle.bench_types.specs.declared.step.Step.TheVariants.{Tick}
use Rattle.kept_runs.specs.Items.{items_from}
use Rattle.kept_works.proofs.Edited.{items_more}
use Rattle.kept_works.proofs.items.items_of.Goals as goal

pub loop-index-preserved : goal.loop-index-preserved
loop-index-preserved c =
    let steps = c.args.steps.now in
    let index = c.loop-index.index in
    let long : 0 + length (take index steps) ≡ index = omega (arith, length-take-le index steps (omega arith)) in
    c.in_ok-push.ensures.items
    ∙ (λ i. c.loop-index.invariant i ++ c.of_document.ensures i ∷ [])
    ∙ ap (λ (anchor : ℕ). items_from 0 (take index steps) ++ record { step = get_or steps index Tick; anchor = anchor; inserted = false; changes = [] } ∷ []) (sym long)
    ∙ sym (items_more 0 (take index steps) (get_or steps index Tick))
    ∙ ap (items_from 0) (sym (take_more steps index Tick (omega arith)))
