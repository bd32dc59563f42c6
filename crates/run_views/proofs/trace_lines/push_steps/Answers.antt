use Rattle.std.proofs.Common.{◌<◌, ◌^◌, length, string_bytes, sym, subst, ◌∙◌}
use Rattle.run_views.specs.declared.look.Look.{Look}
use Rattle.run_views.proofs.Runs.{all_printed, none_printed, step_printed, printed_here}
use Rattle.run_views.proofs.trace_lines.push_steps.Goals as goal

pub loop-place-init : goal.loop-place-init
loop-place-init c = none_printed c.args.places c.args.interest.now c.args.header.now c.args.watch.now.kernel c.args.steps.now (string_bytes c.args.text.now)
    c.args.watch.now.look c.requires.shows

pub loop-place-preserved : goal.loop-place-preserved
loop-place-preserved c =
    let printed = c.in_ok-seen.ensures in
    let seen = c.in_ok-seen.seen in
    step_printed c.step.new.self.kernel c.step.new.self.look (string_bytes c.push_printed.new.text) _ c.loop-place.invariant c.loop-place-test.true
    printed.shows printed.settings printed.state
    (λ table stands. printed_here c.args.places c.args.interest.now c.args.header.now c.loop-place.place table seen.before _ seen.reply seen.changes
    (string_bytes c.loop-place.text) (string_bytes c.push_printed.new.text)
    (printed.before ∙ c.loop-place.invariant.shows.shown table stands) (printed.reply table stands) (printed.changes table stands) c.in_ok-push_printed.ensures)

pub push_printed-requires-clause-cores : goal.push_printed-requires-clause-cores
push_printed-requires-clause-cores c = subst (λ (look : Look). length look.cores < 2 ^ 32) (sym c.in_ok-seen.ensures.before)
    c.loop-place.invariant.shows.numbered.cores

pub returns : goal.returns
returns c = record { printed = all_printed _ c.loop-place.invariant c.loop-place-test.false; shows = c.loop-place.invariant.shows }
