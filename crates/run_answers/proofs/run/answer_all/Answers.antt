use Rattle.std.proofs.Common.{◌≡◌, ◌∙◌, ◌<◌, ◌-◌, ◌+◌, ℕ, List, Some, ap, arith, length, subst, sym}
use Rattle.std.specs.Prelude.{slice_index_or}
use Rattle.std.proofs.lemmas.Option.{slice_get-get_or}
use Rattle.bench_types.specs.declared.step.Step.{Step}
use Rattle.bench_types.specs.declared.step.Step.TheVariants.{Tick}
use Rattle.bench_types.specs.Step.{settings_of}
use Rattle.run_answers.specs.Answers.{task_of}
use Rattle.run_answers.proofs.Answering.{answered_begins, answered_call, answered_ends, answered_other, task_low, AreAnswered}
use Rattle.run_answers.proofs.run.answer_all.Goals as goal

pub loop-place-init : goal.loop-place-init
loop-place-init c =
    let run = c.args.run.now in
    answered_begins run.header run.steps (settings_of run.header).tasks (length c.steps-steps.result.now) c.args.answers.now c.args.next.now
    (ap length c.steps-steps.ensures.steps) c.requires.own c.requires.tasks c.requires.none

pub loop-place-preserved-in-Some : goal.loop-place-preserved-in-Some
loop-place-preserved-in-Some c =
    let run = c.args.run.now in
    let tasks = (settings_of run.header).tasks in
    let answers = c.loop-place.answers in
    let next = c.loop-place.next in
    let task = c.in-Some.task in
    let place : ℕ = c.loop-place.place - 1 in
    let same : c.loop-place.place ≡ place + 1 = omega (arith, c.loop-place-test.true) in
    let low : place < length run.steps = omega (arith, c.loop-place-test.true, c.loop-place.invariant.within) in
    let step = slice_index_or run.steps place Tick in
    let known : task_of step ≡ Some task
    = ap (λ (steps : List Step). task_of (slice_index_or steps place Tick)) (sym c.steps-steps.ensures.steps) ∙ sym c.in-Some.ensures in
    let before = subst (λ place. AreAnswered run.header run.steps tasks place answers next) same c.loop-place.invariant in
    let user = task_low (settings_of run.header) step task (c.steps-steps.ensures.checked.checked.steps place Tick low) known in
    let after = answered_call run.header run.steps tasks place step answers next low (slice_get-get_or run.steps place Tick low) before task known user in
    subst (λ answers. AreAnswered run.header run.steps tasks place answers c.answer_back.new.next) (sym c.answer_back.ensures.answers)
    (subst (AreAnswered run.header run.steps tasks place _) (sym c.answer_back.ensures.next) after)

pub loop-place-preserved : goal.loop-place-preserved
loop-place-preserved c =
    let run = c.args.run.now in
    let tasks = (settings_of run.header).tasks in
    let place : ℕ = c.loop-place.place - 1 in
    let same : c.loop-place.place ≡ place + 1 = omega (arith, c.loop-place-test.true) in
    let low : place < length run.steps = omega (arith, c.loop-place-test.true, c.loop-place.invariant.within) in
    let step = slice_index_or run.steps place Tick in
    let known = ap (λ (steps : List Step). task_of (slice_index_or steps place Tick)) (sym c.steps-steps.ensures.steps) ∙ sym c.task_of.ensures ∙ c.in_default.is in
    let before = subst (λ place. AreAnswered run.header run.steps tasks place c.loop-place.answers c.loop-place.next) same c.loop-place.invariant in
    answered_other run.header run.steps tasks place step c.loop-place.answers c.loop-place.next low (slice_get-get_or run.steps place Tick low) before known

pub returns : goal.returns
returns c =
    let run = c.args.run.now in
    let first : c.loop-place.place ≡ 0 = omega (arith, c.loop-place-test.false) in
    answered_ends run.header run.steps (settings_of run.header).tasks c.loop-place.place c.loop-place.answers c.loop-place.next first c.loop-place.invariant
