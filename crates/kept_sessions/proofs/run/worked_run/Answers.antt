use Rattle.kept_sessions.proofs.Made.{run_is}
use Rattle.kept_sessions.proofs.run.worked_run.Goals as goal

pub returns-clause-run : goal.returns-clause-run
returns-clause-run c = run_is c.args.order c.args.made.now c.in_ok-runs.runs.settled c.in_ok-runs.runs.kept c.in_ok-runs.ensures.runs

pub returns-clause-counted : goal.returns-clause-counted
returns-clause-counted c = record {
  settled = c.in_ok-runs.runs.settled;
  is_settled = c.in_ok-runs.ensures.runs.is_settled;
  few = c.in_ok-runs.ensures.runs.few;
  is = c.in_ok-runs.ensures.counted;
}
