use Rattle.std.proofs.Common.{string_bytes}
use Rattle.run_views.proofs.Runs.{trace_printed}
use Rattle.run_views.proofs.trace_lines.push_trace.Goals as goal

pub returns : goal.returns
returns c =
    trace_printed c.args.places c.args.interest.now c.args.header.now c.args.watch.now.kernel c.push_steps.new.watch.kernel c.args.steps.now
    (string_bytes c.args.text.now) (string_bytes c.push_steps.new.text) (string_bytes c.push_place.new.text) c.push_steps.new.watch.look
    c.requires.started c.in_ok-push_steps.ensures.printed c.in_ok-push_steps.ensures.shows c.in_ok-push_place.ensures
