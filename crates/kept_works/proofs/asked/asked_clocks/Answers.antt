use Rattle.std.proofs.Common.{◌≡◌, ◌∙◌, ◌+◌, ◌-◌, ◌^◌, ◌<◌, ◌++◌, ◌∷◌, [], All, List, cond, length, min, take, ap, subst, sym, arith}
use Rattle.std.specs.Prelude.{slice_index_or}
use Rattle.std.specs.Vec.{with_items}
use Rattle.std.proofs.lemmas.List.{length-take-le, take_more, with_items_is}
use Rattle.bench_types.specs.declared.step.Step.{Step}
use Rattle.bench_types.specs.declared.step.Step.TheVariants.{Tick}
use Rattle.list_orders.specs.Search.{has}
use Rattle.kept_works.specs.Asked.{task_at}
use Rattle.keeping.specs.Works.{clock_at}
use Rattle.kept_works.specs.Walk.{IsAt}
use Rattle.kept_works.proofs.Answering.{all_answered, all_short, answers_on, row_low, row_of, row_read, AreAnswered}
use Rattle.smp_kernel.proofs.Counts.{counted_more}
use Rattle.kept_works.proofs.asked.asked_clocks.Goals as goal

pub answer-requires-clause-row : goal.answer-requires-clause-row
answer-requires-clause-row c =
    let asked = c.args.asked.now in
    let row = c.numbers.ensures ∙ row_read _ asked c.in_ok-rows.rows.items c.loop-place.place _ c.in_ok-rows.ensures
    (omega (arith, c.loop-place-test.true, c.loop-place.auto.place-end)) c.index.ensures in
    subst (All (λ index. index < length asked)) (sym row) (row_low asked c.loop-place.place)

pub loop-place-preserved : goal.loop-place-preserved
loop-place-preserved c =
    let run = c.args.run.now in
    let asked = c.args.asked.now in
    let place = c.loop-place.place in
    let so_far = c.loop-place.invariant in
    let row = c.numbers.ensures ∙ row_read _ asked c.in_ok-rows.rows.items place _ c.in_ok-rows.ensures
    (omega (arith, c.loop-place-test.true, c.loop-place.auto.place-end)) c.index.ensures in
    let count = ap (λ (steps : List Step). length steps) c.steps-steps.ensures.steps in
    let early : place < length run.steps = omega (arith, c.loop-place-test.true, c.loop-place.auto.place-end, count) in
    let made : length (take place run.steps) ≡ place = length-take-le place run.steps (omega (arith, early)) in
    let few = c.steps-steps.ensures.checked.few in
    let lent = c.deref_mut.ensures.value in
    let clocks = c.deref.ensures.value in
    let kept : length c.answer.new.answers ≡ c.loop-place.answers.len =
    omega (arith, c.answer.ensures.many, ap length lent, c.loop-place.answers.ok.0) in
    let items = with_items_is c.loop-place.answers c.answer.new.answers kept in
    let room = c.go_on.ensures.made run.header (take place run.steps) so_far.at (omega (arith, made, early, few)) in
    let next = ap (λ (steps : List Step). take place run.steps ++ slice_index_or steps place Tick ∷ []) c.steps-steps.ensures.steps
    ∙ sym (take_more run.steps place Tick early) in
    let answered =
    answers_on run asked place c.numbers.result.now c.loop-place.walk c.loop-place.answers.items c.answer.new.answers c.requires.asked row so_far.at
    (omega (arith, made, early, few)) (c.answer.ensures.many ∙ ap length lent) (λ index low.
    c.answer.ensures.answers index low
    ∙ (λ i. cond (has index c.numbers.result.now) (clock_at (clocks i) (task_at asked index)) (clock_at (lent i) index))) so_far.answered in
    record {
      at = subst (λ made. IsAt run.header made c.go_on.new.self) next room;
      answered = subst (AreAnswered run asked (place + 1)) (sym items) answered;
      meter = c.go_on.ensures.meter ∙ ap (λ count. min (count + 1) (2 ^ 64 - 1)) so_far.meter ∙ counted_more place c.args.meter.now;
    }

pub answer-requires-2-clause-row : goal.answer-requires-2-clause-row
answer-requires-2-clause-row c =
    let asked = c.args.asked.now in
    let last = length c.steps-steps.result.now in
    let row = c.numbers-2.ensures ∙ row_read _ asked c.in_ok-rows.rows.items last _ c.in_ok-rows.ensures (omega arith) c.index-2.ensures in
    subst (All (λ index. index < length asked)) (sym row) (row_low asked last)

-- behind the last step
answered_last :
    (c : goal.After-drop-rows-2) → AreAnswered c.args.run.now c.args.asked.now (length c.args.run.now.steps + 1)
    (with_items c.loop-place.answers c.answer-2.new.answers).items
answered_last c =
    let run = c.args.run.now in
    let asked = c.args.asked.now in
    let so_far = c.loop-place.invariant in
    let walk = c.loop-place.walk in
    let answers = c.loop-place.answers in
    let last = length c.steps-steps.result.now in
    let count = ap (λ (steps : List Step). length steps) c.steps-steps.ensures.steps in
    let all : c.loop-place.place ≡ length run.steps = omega (arith, c.loop-place-test.false, c.loop-place.auto.place-end, count) in
    let row = c.numbers-2.ensures ∙ row_read _ asked c.in_ok-rows.rows.items last _ c.in_ok-rows.ensures (omega arith) c.index-2.ensures
    ∙ ap (row_of asked) count in
    let at = subst (λ place. IsAt run.header (take place run.steps) walk) all so_far.at in
    let answered = subst (λ place. AreAnswered run asked place answers.items) all so_far.answered in
    let made : length (take (length run.steps) run.steps) ≡ length run.steps = length-take-le (length run.steps) run.steps (omega arith) in
    let few = c.steps-steps.ensures.checked.few in
    let lent = c.deref_mut-2.ensures.value in
    let clocks = c.deref-2.ensures.value in
    let kept : length c.answer-2.new.answers ≡ answers.len = omega (arith, c.answer-2.ensures.many, ap length lent, answers.ok.0) in
    subst (AreAnswered run asked (length run.steps + 1)) (sym (with_items_is answers c.answer-2.new.answers kept))
    (answers_on run asked (length run.steps) c.numbers-2.result.now walk answers.items c.answer-2.new.answers c.requires.asked row at
    (omega (arith, made, few)) (c.answer-2.ensures.many ∙ ap length lent) (λ index low.
    c.answer-2.ensures.answers index low
    ∙ (λ i. cond (has index c.numbers-2.result.now) (clock_at (clocks i) (task_at asked index)) (clock_at (lent i) index))) answered)

pub returns-clause-clocks : goal.returns-clause-clocks
returns-clause-clocks c = all_answered c.args.run.now c.args.asked.now _ c.requires.asked (answered_last c)

pub returns-clause-short : goal.returns-clause-short
returns-clause-short c = all_short c.args.run.now c.args.asked.now (length c.args.run.now.steps + 1) _ (answered_last c)
