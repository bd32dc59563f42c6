use Rattle.std.proofs.Common.{◌∙◌, List, ap, ap₂, length, subst, sym}
use Rattle.bench_types.specs.declared.header.Header.{Header}
use Rattle.bench_types.specs.Session.{Session}
use Rattle.bench_types.specs.Step.{settings_of}
use Rattle.settled_runs.specs.declared.waiting_call.WaitingCall.{WaitingCall}
use Rattle.smp_kernel.specs.Counting.{meter_after, CountsUpTo}
use Rattle.run_numbers.specs.Readings.{IsSubjectOf}
use Rattle.ranked_changes.specs.Verdicts.{number_in}
use Rattle.ranked_changes.proofs.Counted.{judged_few, judged_so, on_err}
use Rattle.ranked_changes.proofs.judge.made_verdict.Goals as goal

pub number_in-requires-clause-known : goal.number_in-requires-clause-known
number_in-requires-clause-known c =
    subst (λ (header : Header). IsSubjectOf (settings_of header) c.args.judge.subject)
    (sym (ap (λ (run : Session). run.header) c.session.ensures ∙ c.in-Ok.ensures.header)) c.requires.known

pub returns-clause-verdict : goal.returns-clause-verdict
returns-clause-verdict c =
    let judge = c.args.judge in (
      c.in-Ok.run',
      c.in-Ok.ensures.run,
      c.in-Ok.ensures.room,
      c.in_ok-number.ensures.number
          ∙ ap₂ (λ (session : Session) (left : List WaitingCall). number_in judge (record { session = session; left = left })) c.session.ensures
          c.left.ensures.left,
    )

pub returns-clause-meter : goal.returns-clause-meter
returns-clause-meter c =
    let run = c.in-Ok.run' in (
      run,
      c.in-Ok.ensures.run,
      judged_so c.args.source.now run c.args.meter.now c.make_run.new.meter c.number_in.new.meter c.requires.made c.in-Ok.ensures.counted
          (c.in_ok-number.ensures.meter ∙ ap (λ (session : Session). meter_after (length session.steps) c.make_run.new.meter) c.session.ensures),
    )

pub returns-in_err-number-clause-some : goal.returns-in_err-number-clause-some
returns-in_err-number-clause-some c =
    let run = c.in-Ok.run' in
    on_err c.from_residual.result
    (judged_few c.args.source.now run c.args.meter.now c.make_run.new.meter c.number_in.new.meter c.requires.made c.in-Ok.ensures.room
    c.in-Ok.ensures.counted
    (subst (λ (session : Session). CountsUpTo (length session.steps) c.make_run.new.meter c.number_in.new.meter) c.session.ensures
    c.in_err-number.ensures.some))
