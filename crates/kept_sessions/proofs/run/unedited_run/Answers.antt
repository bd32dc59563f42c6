use Rattle.std.proofs.Common.{rules, subst, true, inl}
use Rattle.bench_types.specs.Session.{Session, IsSession}
use Rattle.session_runs.specs.Run.{IsRunOf}
use Rattle.settled_runs.specs.Runs.{IsSettledTooLong}
use Rattle.kept_sessions.proofs.Made.{unedited_known}
use Rattle.kept_sessions.proofs.run.unedited_run.Goals as goal

pub returns-clause-run : goal.returns-clause-run
returns-clause-run c =
    unedited_known c.args.order c.args.made.now c.in_ok-run.run' c.requires.unedited
    (subst (λ (session : Session). IsSession session) c.session-session.ensures c.steps-steps.ensures.checked.checked)
    (subst (λ (session : Session). IsRunOf true session c.in_ok-run.run') c.session-session.ensures c.in_ok-run.ensures.run) c.in_ok-run.ensures.room

pub returns-in_err-run-clause-long : goal.returns-in_err-run-clause-long
returns-in_err-run-clause-long c is =
    inl (subst (λ (session : Session). IsSettledTooLong session) c.session-session.ensures (c.settled_run.ensures.long (search rules)))

pub returns-clause-counted : goal.returns-clause-counted
returns-clause-counted c = record {
  settled = c.in_ok-run.run';
  is_settled = subst (λ (session : Session). IsRunOf true session c.in_ok-run.run') c.session-session.ensures c.in_ok-run.ensures.run;
  few = c.in_ok-run.ensures.room;
  is = c.in_ok-run.ensures.counted;
}
