use Rattle.std.proofs.Common.{◌+◌, ◌-◌, ◌^◌, min, get_or, sym, ◌∙◌, ap, arith, take}
use Rattle.bench_types.specs.declared.kernel_data.Settings.{Settings}
use Rattle.bench_types.specs.declared.step.Step.TheVariants.{Tick}
use Rattle.bench_model.specs.Control.{current}
use Rattle.bench_model.specs.Session.{state_after}
use Rattle.session_segments.proofs.Counts.{counted_more}
use Rattle.session_segments.proofs.Replays.{replayed_goes}
use Rattle.session_segments.proofs.Rows.{own_core}
use Rattle.session_segments.proofs.Tallied.{tallied_goes, tallied_room}
use Rattle.session_segments.proofs.replay.push_outcomes.Goals as goal

pub make_next-requires-clause-room : goal.make_next-requires-clause-room
make_next-requires-clause-room c =
    let stands = c.requires.stands in
    tallied_room c.args.kernel.now.settings stands.0 c.args.steps.now c.loop-step.step-index c.loop-step.tallies (omega arith) c.requires.few_steps
    (c.loop-step.invariant.counted stands.0 stands.1)

pub running-requires : goal.running-requires
running-requires c =
    let place = c.loop-step.step-index in
    let settings = c.args.kernel.now.settings in
    let stands = c.requires.stands in
    let sized = stands.1.sound.consistent.sized in
    let low = own_core settings (get_or c.args.steps.now place Tick) (omega (arith, sized.some_core, ap (λ (v : _). v.settings.cores) stands.1.shows))
    (c.requires.steps place Tick (omega arith)) in
    omega (arith, c.core.ensures, low, ap (λ (s : Settings). s.cores) (c.make_next.ensures.shape ∙ c.loop-step.invariant.settings))

pub loop-step-preserved : goal.loop-step-preserved
loop-step-preserved c =
    let steps = c.args.steps.now in
    let place = c.loop-step.step-index in
    let so_far = c.loop-step.invariant in
    record {
      so_far = λ table stands.
          let before = state_after table (take place steps) in
          let here = (so_far.so_far table stands).stands in
          replayed_goes table steps place c.loop-step.kernel c.make_next.new.kernel c.loop-step.replies.items c.push_reserved.new.self.items
          c.loop-step.currents.items c.push_reserved-in-loop-step.new.self.items c.make_next.result c.running.result (omega arith)
          (c.make_next.ensures.reply before here) (c.make_next.ensures.state before here) c.push_reserved.ensures.items
          (c.running.ensures.seen ∙ ap (current c.make_next.new.kernel.control) c.core.ensures) c.push_reserved-in-loop-step.ensures.items
          (so_far.so_far table stands);
      counted = λ table stands.
          let before = state_after table (take place steps) in
          let here = (so_far.so_far table stands).stands in
          tallied_goes c.args.kernel.now.settings table steps place c.loop-step.kernel c.make_next.new.kernel c.make_next.result c.loop-step.tallies
          c.make_next.new.self (omega arith) (sym so_far.settings)
          here (c.make_next.ensures.reply before here) (c.make_next.ensures.state before here) c.make_next.ensures.counted (so_far.counted table stands);
      tops = c.make_next.ensures.tops;
      settings = c.make_next.ensures.shape ∙ so_far.settings;
      replied = omega (arith, c.push_reserved.ensures.len, so_far.replied);
      reply_room = omega (arith, c.push_reserved.ensures.capacity, so_far.reply_room);
      left = omega (arith, c.push_reserved-in-loop-step.ensures.len, so_far.left);
      current_room = omega (arith, c.push_reserved-in-loop-step.ensures.capacity, so_far.current_room);
      meter = c.make_next.ensures.meter ∙ ap (λ count. min (count + 1) (2 ^ 64 - 1)) so_far.meter ∙ counted_more place c.args.meter.now;
    }
