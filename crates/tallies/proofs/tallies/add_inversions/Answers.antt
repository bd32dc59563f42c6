use Rattle.std.proofs.Common.{◌≡◌, ◌<◌, ◌-◌, ◌^◌, ◌∙◌, ℕ, length, sym, ap, subst, true, arith}
use Rattle.bench_types.specs.declared.kernel_data.Settings.{Settings}
use Rattle.bench_model.specs.Tallied.{tally_at}
use Rattle.ready_core.specs.Fields.{has_priority}
use Rattle.tallies.specs.Counting.{inverted_in}
use Rattle.tallies.proofs.Inversions.{effective_low, inverted_upto, length_upto, rank_low, upto_all, upto_more, upto_none, upto_room}
use Rattle.tallies.proofs.TickFinds.{cores_stand, outranks_none}
use Rattle.tallies.proofs.tallies.add_inversions.Goals as goal

pub loop-priority-init : goal.loop-priority-init
loop-priority-init c = upto_none c.args.kernel.now c.min-lowest.result c.args.tasks.now

pub add_inversions_in-requires-clause-tasks : goal.add_inversions_in-requires-clause-tasks
add_inversions_in-requires-clause-tasks c =
    ap length c.loop-priority.invariant ∙ length_upto c.args.kernel.now c.min-lowest.result c.loop-priority.priority c.args.tasks.now ∙ c.requires.tasks

pub add_inversions_in-requires-clause-room : goal.add_inversions_in-requires-clause-room
add_inversions_in-requires-clause-room c =
    let kernel = c.args.kernel.now in
    let old = c.args.tasks.now in
    subst (λ ts. (task : ℕ) → task < length ts → has_priority kernel.control c.loop-priority.priority task ≡ true → (tally_at ts task).counts.inverted < 2 ^ 32
    - 1) (sym c.loop-priority.invariant)
    (λ task low home.
    let under : task < length old = omega (arith, low, length_upto kernel c.min-lowest.result c.loop-priority.priority old) in
    upto_room kernel c.min-lowest.result c.loop-priority.priority old task under home (c.requires.room task under))

pub loop-priority-preserved : goal.loop-priority-preserved
loop-priority-preserved c =
    let kernel = c.args.kernel.now in
    c.add_inversions_in.ensures ∙ ap (inverted_in kernel c.loop-priority.priority) c.loop-priority.invariant ∙ upto_more kernel c.min-lowest.result
    c.loop-priority.priority c.args.tasks.now c.loop-priority.auto.priority

pub returns : goal.returns
returns c =
    let kernel = c.args.kernel.now in
    let old = c.args.tasks.now in
    let most = ap (λ (s : Settings). s.priorities) c.settings-priorities.ensures.settings in
    let end : c.loop-priority.priority ≡ kernel.settings.priorities = omega
    (arith, c.loop-priority-test.false, c.loop-priority.auto.priority-end, c.min-lowest.ensures, c.from.ensures, most) in
    c.loop-priority.invariant ∙ ap (λ p. inverted_upto kernel c.min-lowest.result p old) end
    ∙ upto_all kernel c.min-lowest.result kernel.settings.priorities old
    (λ t low. rank_low kernel c.settings-priorities.ensures.sound t (omega (arith, low, c.requires.tasks)))
    (λ t low under. outranks_none kernel.control kernel.settings.cores c.lowest_current.result t (cores_stand kernel c.settings-priorities.ensures.sound)
    c.lowest_current.ensures
    (omega (arith, under, effective_low kernel.control t, c.min-lowest.ensures)))
