use Rattle.std.proofs.Common.{◌≡◌, ◌∙◌, ◌+◌, ◌-◌, ◌^◌, ◌++◌, ◌∷◌, [], ap, arith, length, min, subst, sym, take}
use Rattle.std.specs.Prelude.{slice_index_or}
use Rattle.bench_types.specs.declared.step.Step.TheVariants.{Tick}
use Rattle.bench_model.specs.Equal.{StandsFor}
use Rattle.bench_model.specs.Session.{state_after}
use Rattle.smp_kernel.proofs.Counts.{counted_more}
use Rattle.run_answers.specs.Answers.{own_answer}
use Rattle.run_answers.proofs.Answering.{own_all, own_more, state_more}
use Rattle.run_answers.proofs.run.answer_each.Goals as goal

pub loop-step-preserved : goal.loop-step-preserved
loop-step-preserved c =
    let steps = c.args.steps.now in
    let index = c.loop-step.step-index in
    let so_far = c.loop-step.invariant in
    let made = c.step-reply.ensures in
    let place : c.len-place.result ≡ index = c.len-place.ensures ∙ so_far.len in
    let own = c.own_answer.ensures ∙ ap (λ place. own_answer place (slice_index_or steps index Tick) c.step-reply.result) place in
    record {
      answers = λ table stands.
          c.push_reserved.ensures.items
          ∙ (λ i. so_far.answers table stands i ++ own i ∷ [])
          ∙ own_more table steps index Tick c.step-reply.result (omega arith) (made.reply (state_after table (take index steps)) (so_far.stands table stands));
      stands = λ table stands.
          subst (StandsFor c.step-reply.new.self) (sym (state_more table steps index Tick (omega arith)))
          (made.state (state_after table (take index steps)) (so_far.stands table stands));
      settings = made.shape ∙ so_far.settings;
      len = omega (arith, c.push_reserved.ensures.len, so_far.len);
      room = c.push_reserved.ensures.capacity ∙ so_far.room;
      meter = made.meter ∙ ap (λ count. min (count + 1) (2 ^ 64 - 1)) so_far.meter ∙ counted_more index c.args.meter.now;
    }

pub returns-clause-answers : goal.returns-clause-answers
returns-clause-answers c table stands =
    let all : c.loop-step.step-index ≡ length c.args.steps.now = omega (arith, c.loop-step-test.false) in
    own_all table c.args.steps.now c.loop-step.step-index _ all (c.loop-step.invariant.answers table stands)
