use Rattle.std.proofs.Common.{◌≡◌, ◌∙◌, ◌++◌, ◌∷◌, ◌+◌, ◌-◌, ◌^◌, [], ap, arith, length, min, subst, sym}
use Rattle.std.specs.Option.{option_or}
use Rattle.std.proofs.lemmas.List.{length-append}
use Rattle.bench_types.specs.Session.{Session}
use Rattle.smp_kernel.specs.Counting.{meter_after}
use Rattle.smp_kernel.proofs.Counts.{counted_more}
use Rattle.kept_runs.specs.Rule.{after_steps, AreNext, IsRunFrom}
use Rattle.kept_runs.specs.Known.{end_limit}
use Rattle.keeping.specs.Ends.{first_end}
use Rattle.keeping.specs.Progress.{progress_at_start, Holds}
use Rattle.keeping.proofs.FirstEnds.{ends_begin, ends_more}
use Rattle.keeping.proofs.Running.{after_more, are_more, run_ends, too_long}
use Rattle.keeping.proofs.run.keep_run.Goals as goal

pub loop-step-init : goal.loop-step-init
loop-step-init c =
    let first = progress_at_start c.args.order c.args.header.now c.args.unmade.items c.args.outside.items in
    let empty = c.in_ok-keeping.ensures.empty in
    record {
      next = subst (AreNext first) (sym empty) tt;
      holds = subst (Holds c.in_ok-keeping.keeping) (sym (ap (after_steps first) empty)) c.in_ok-keeping.ensures.here;
      end = ends_begin first ∙ sym (ap (first_end first) empty);
      header = c.in_ok-keeping.ensures.header;
      counted = sym (ap (λ steps. meter_after (length steps) c.args.meter.now) empty);
    }

pub make-requires : goal.make-requires
make-requires c =
    let first = progress_at_start c.args.order c.args.header.now c.args.unmade.items c.args.outside.items in
    let now = after_steps first c.loop-step.keeping.run.steps in
    record {
      now = now;
      holds = c.loop-step.invariant.holds;
      is = sym (c.next_step.ensures now c.loop-step.invariant.holds) ∙ c.in-Some.is;
    }

pub loop-step-smaller : goal.loop-step-smaller
loop-step-smaller c =
    let first = progress_at_start c.args.order c.args.header.now c.args.unmade.items c.args.outside.items in
    let now = after_steps first c.loop-step.keeping.run.steps in
    let made = ap (λ (run : Session). length run.steps) c.in_ok-make.ensures.steps in
    let one = length-append c.loop-step.keeping.run.steps (c.in-Some.step ∷ []) in
    let next = sym (c.next_step.ensures now c.loop-step.invariant.holds) ∙ c.in-Some.is in
    let later = c.in_ok-make.ensures.made now c.loop-step.invariant.holds next in
    omega (arith, made, one, later.room)

pub loop-step-preserved : goal.loop-step-preserved
loop-step-preserved c =
    let first = progress_at_start c.args.order c.args.header.now c.args.unmade.items c.args.outside.items in
    let steps = c.loop-step.keeping.run.steps in
    let step = c.in-Some.step in
    let now = after_steps first steps in
    let next = sym (c.next_step.ensures now c.loop-step.invariant.holds) ∙ c.in-Some.is in
    let made : c.make.new.self.run.steps ≡ steps ++ step ∷ [] = ap (λ (run : Session). run.steps) c.in_ok-make.ensures.steps in
    let later = c.in_ok-make.ensures.made now c.loop-step.invariant.holds next in
    let count : length c.make.new.self.run.steps ≡ length steps + 1 = omega (arith, ap length made, length-append steps (step ∷ [])) in
    record {
      next = subst (AreNext first) (sym made) (are_more steps first step c.loop-step.invariant.next next);
      holds = subst (Holds c.make.new.self) (sym (after_more first steps step) ∙ sym (ap (after_steps first) made)) later;
      end = c.first_end-end.ensures now c.loop-step.invariant.holds
          ∙ ap (λ end. option_or end (end_limit (steps ++ step ∷ []) (length steps) now)) c.loop-step.invariant.end ∙ ends_more first steps step
          ∙ sym (ap (first_end first) made);
      header = ap (λ (run : Session). run.header) c.in_ok-make.ensures.steps ∙ c.loop-step.invariant.header;
      counted =
          c.in_ok-make.ensures.counted ∙ ap (λ meter. min (meter + 1) (2 ^ 64 - 1)) c.loop-step.invariant.counted
          ∙ counted_more (length steps) c.args.meter.now ∙ sym (ap (λ count. meter_after count c.args.meter.now) count);
    }

pub returns-in_err-make-clause-long : goal.returns-in_err-make-clause-long
returns-in_err-make-clause-long c known =
    let given = rw known at c.from_residual-in_err-make.ensures.1 in
    let first = progress_at_start c.args.order c.args.header.now c.args.unmade.items c.args.outside.items in
    let now = after_steps first c.loop-step.keeping.run.steps in
    let next = sym (c.next_step.ensures now c.loop-step.invariant.holds) ∙ c.in-Some.is in
    too_long c.loop-step.keeping.run.steps first c.in-Some.step c.loop-step.invariant.next next (c.in_err-make.ensures.full (cc (given)))

pub returns-clause-run : goal.returns-clause-run
returns-clause-run c =
    let first = progress_at_start c.args.order c.args.header.now c.args.unmade.items c.args.outside.items in
    let steps = c.loop-step.keeping.run.steps in
    let now = after_steps first steps in
    let holds = c.loop-step.invariant.holds in
    let run = run_ends steps first _ c.loop-step.invariant.next (sym (c.next_step.ensures now holds) ∙ c.in_default.is) (c.in_ok-run.ensures.left now holds) in
    subst (λ (session : Session). IsRunFrom first session.steps c.in_ok-run.run'.left) (sym c.in_ok-run.ensures.session) run

pub returns-clause-end : goal.returns-clause-end
returns-clause-end c =
    let first = progress_at_start c.args.order c.args.header.now c.args.unmade.items c.args.outside.items in
    c.loop-step.invariant.end ∙ sym (ap (λ (session : Session). first_end first session.steps) c.in_ok-run.ensures.session)
