use Rattle.std.proofs.Common.{◌+◌, ◌-◌, ◌^◌, min, subst, sym, ◌∙◌, ap, arith, take}
use Rattle.std.proofs.lemmas.List.{length-take-le, take_more}
use Rattle.bench_types.specs.declared.step.Step.TheVariants.{Tick}
use Rattle.session_runs.specs.Made.{IsMade}
use Rattle.smp_kernel.proofs.Counts.{counted_more}
use Rattle.session_runs.proofs.run.make_each.Goals as goal

pub make_next-requires-clause-way : goal.make_next-requires-clause-way
make_next-requires-clause-way c =
    let steps = c.args.steps.now in
    let place = c.loop-step.step-index in
    let way = c.requires.way in record {
      header = way.0;
      steps = take place steps;
      made = c.loop-step.invariant.made way.0 way.1;
      room = omega (arith, length-take-le place steps (omega arith), c.requires.few_steps);
    }

pub loop-step-preserved : goal.loop-step-preserved
loop-step-preserved c =
    let steps = c.args.steps.now in
    let place = c.loop-step.step-index in
    let so_far = c.loop-step.invariant in
    record {
      made = λ header first. subst (λ ss. IsMade header ss c.make_next.new.kernel c.make_next.new.self) (sym (take_more steps place Tick (omega arith)))
          (c.make_next.ensures.made header (take place steps) (so_far.made header first));
      settings = c.make_next.ensures.settings ∙ so_far.settings;
      len = omega (arith, c.make_next.ensures.len, so_far.len);
      room = c.make_next.ensures.room ∙ so_far.room;
      meter = c.make_next.ensures.meter ∙ ap (λ count. min (count + 1) (2 ^ 64 - 1)) so_far.meter ∙ counted_more place c.args.meter.now;
    }
