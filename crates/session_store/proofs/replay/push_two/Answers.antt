use Rattle.std.proofs.Common.{◌-◌, length, take, drop, subst, arith}
use Rattle.std.proofs.lemmas.Result.{on_ok_weaker, on_err_weaker}
use Rattle.bench_model.specs.Equal.{StandsFor}
use Rattle.bench_model.specs.Session.{state_after}
use Rattle.session_store.proofs.Cuts.{state_of_slices, length_of_slices, some_later}
use Rattle.session_store.proofs.replay.push_two.Goals as goal

pub returns-clause-state : goal.returns-clause-state
returns-clause-state g c =
    let steps = c.args.steps.now in
    on_ok_weaker c.push_segment-2.result
    (λ moves table stands. subst (StandsFor c.push_segment-2.new.kernel) (state_of_slices table c.args.span steps)
    (moves (state_after table (take c.args.span steps)) (c.in_ok-push_segment.ensures.state table stands)))
    c.push_segment-2.ensures.state

pub returns-clause-some : goal.returns-clause-some
returns-clause-some g c =
    let steps = c.args.steps.now in
    let span = c.args.span in
    let all = length_of_slices span steps in
    on_err_weaker c.push_segment-2.result
    (some_later (length (take span steps)) (length (take (length steps - span) (drop span steps))) (length steps) c.args.meter.now c.push_segment.new.meter
    c.push_segment-2.new.meter (omega (arith, all)) c.in_ok-push_segment.ensures.meter)
    c.push_segment-2.ensures.some
