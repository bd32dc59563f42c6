use Rattle.std.proofs.Common.{suc, ◌+◌, ◌-◌, ◌^◌, ◌≤◌, ◌≡◌, min, subst, sym, ◌∙◌, ap, arith, take, length}
use Rattle.bench_model.specs.Equal.{StandsFor}
use Rattle.bench_model.specs.Session.{state_after}
use Rattle.bench_model.specs.Tallied.{AllCountsBelow}
use Rattle.tallies.proofs.Rooms.{wider_room}
use Rattle.session_segments.proofs.Counts.{counted_more}
use Rattle.session_segments.proofs.Replays.{state_after_more}
use Rattle.session_segments.proofs.Tallied.{counted_goes}
use Rattle.session_segments.proofs.replay.tally_steps.Goals as goal

pub make_next-requires-clause-room : goal.make_next-requires-clause-room
make_next-requires-clause-room c =
    let place = c.loop-step.step-index in
    let most = 2 ^ 32 - length c.args.steps.now in
    let within : most + place ≤ 2 ^ 32 - 1 = omega (arith, c.requires.few_steps) in
    wider_room c.loop-step.tallies within (c.loop-step.invariant.grown most c.requires.room)

pub loop-step-preserved : goal.loop-step-preserved
loop-step-preserved c =
    let steps = c.args.steps.now in
    let place = c.loop-step.step-index in
    let so_far = c.loop-step.invariant in
    record {
      state = λ table stands. subst (λ t. StandsFor c.make_next.new.kernel t) (sym (state_after_more table steps place (omega arith)))
          (c.make_next.ensures.state (state_after table (take place steps)) (so_far.state table stands));
      counted = λ table stands.
          let before = state_after table (take place steps) in
          let here = so_far.state table stands in
          counted_goes c.args.kernel.now.settings table steps place c.loop-step.kernel c.make_next.new.kernel c.make_next.result c.args.tallies.now
          c.loop-step.tallies c.make_next.new.self (omega arith) (sym so_far.settings)
          here (c.make_next.ensures.reply before here) (c.make_next.ensures.state before here) c.make_next.ensures.counted so_far.sizes
          (so_far.counted table stands);
      settings = c.make_next.ensures.shape ∙ so_far.settings;
      sizes = c.make_next.ensures.kept ∙ so_far.sizes;
      grown = λ bound below.
          let next : suc (bound + place) ≡ bound + (place + 1) = omega arith in
          subst (λ n. AllCountsBelow n c.make_next.new.self) next (c.make_next.ensures.grown (bound + place) (so_far.grown bound below));
      tops = c.make_next.ensures.tops;
      meter = c.make_next.ensures.meter ∙ ap (λ count. min (count + 1) (2 ^ 64 - 1)) so_far.meter ∙ counted_more place c.args.meter.now;
    }

pub returns-clause-grown : goal.returns-clause-grown
returns-clause-grown c = λ bound below.
    let all : bound + c.loop-step.step-index ≡ bound + length c.args.steps.now = omega arith in
    subst (λ n. AllCountsBelow n c.loop-step.tallies) all (c.loop-step.invariant.grown bound below)
