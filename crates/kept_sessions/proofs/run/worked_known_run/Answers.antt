use Rattle.std.proofs.Common.{◌+◌, length, ◌∙◌, arith}
use Rattle.kept_runs.specs.Known.{known_until}
use Rattle.kept_sessions.proofs.Made.{known_behind, known_is, on_err}
use Rattle.kept_sessions.proofs.run.worked_known_run.Goals as goal

pub returns-in_err-limit-clause-some : goal.returns-in_err-limit-clause-some
returns-in_err-limit-clause-some c =
    let runs = c.in_ok-settled.field-0 in
    let first = length runs.settled.session.steps in
    let third = length runs.kept.run.session.steps in
    on_err c.from_residual-in_err-limit.result
    (known_behind first third (first + third) c.args.meter.now c.made_runs.new.meter c.known_until.new.meter c.in_ok-settled.ensures.runs.few
    c.in_ok-settled.ensures.room (omega arith) c.in_ok-settled.ensures.counted c.in_err-limit.ensures.some)

pub returns-clause-run : goal.returns-clause-run
returns-clause-run c =
    let runs = c.in_ok-settled.field-0 in
    known_is c.args.order c.args.made.now runs.settled runs.kept c.in_ok-limit.limit c.in_ok-settled.ensures.runs
    (c.in_ok-limit.ensures.limit
    ∙ (λ i. known_until c.args.order (c.session.ensures i) (c.edits.ensures.edits i) runs.settled.session.steps runs.kept.run.session.steps))
