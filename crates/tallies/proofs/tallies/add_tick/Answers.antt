use Rattle.std.proofs.Common.{ℕ, ◌-◌, ◌^◌, ◌<◌, All, length, ap, arith, sym, subst, ◌∙◌}
use Rattle.tallies.specs.Counting.{inverted, ran, waited, HasWaitRoom}
use Rattle.tallies.proofs.TickCounts.{counted_tick, length_ran, length_waited, room_after_runs, room_after_waits}
use Rattle.bench_model.specs.Tallied.{tally_at}
use Rattle.tallies.proofs.TickLoop.{shape_length}
use Rattle.tallies.proofs.tallies.add_tick.Goals as goal

pub add_waits-requires-clause-tasks : goal.add_waits-requires-clause-tasks
add_waits-requires-clause-tasks c =
    let kernel = c.args.kernel.now in
    let old = c.args.tasks.now in
    ap length c.add_runs.ensures ∙ length_ran kernel.control old ∙ shape_length old kernel.settings c.requires.shape

pub add_waits-requires-clause-room : goal.add_waits-requires-clause-room
add_waits-requires-clause-room c = subst (λ ts. All HasWaitRoom ts) (sym c.add_runs.ensures)
    (room_after_runs c.args.kernel.now.control c.args.tasks.now c.requires.room)

pub add_inversions-requires-clause-tasks : goal.add_inversions-requires-clause-tasks
add_inversions-requires-clause-tasks c =
    let kernel = c.args.kernel.now in
    let old = c.args.tasks.now in
    ap length (c.add_waits.ensures ∙ ap (waited kernel) c.add_runs.ensures) ∙ length_waited kernel (ran kernel.control old) ∙ length_ran kernel.control old ∙
    shape_length old kernel.settings c.requires.shape

pub add_inversions-requires-clause-room : goal.add_inversions-requires-clause-room
add_inversions-requires-clause-room c =
    let kernel = c.args.kernel.now in
    let mid = ran kernel.control c.args.tasks.now in
    subst (λ ts. (task : ℕ) → task < length ts → (tally_at ts task).counts.inverted < 2 ^ 32 - 1)
    (sym (c.add_waits.ensures ∙ ap (waited kernel) c.add_runs.ensures))
    (λ task low. room_after_waits kernel mid (room_after_runs kernel.control c.args.tasks.now c.requires.room) task
    (omega (arith, low, length_waited kernel mid)))

pub returns : goal.returns
returns c =
    let kernel = c.args.kernel.now in
    c.add_inversions.ensures ∙ ap (inverted kernel) (c.add_waits.ensures ∙ ap (waited kernel) c.add_runs.ensures) ∙ counted_tick kernel c.args.tasks.now
