use Rattle.std.proofs.Common.{◌<◌, ◌+◌, ◌-◌, ◌^◌, ◌∙◌, length, sym, ap, subst, arith}
use Rattle.std.specs.Prelude.{slice_set, IfSome}
use Rattle.bench_types.specs.declared.kernel_data.Settings.{Settings}
use Rattle.bench_model.specs.Tally.{TaskTally}
use Rattle.list_orders.proofs.Listings.{listing_length}
use Rattle.smp_kernel.specs.Kernel.{ready_list}
use Rattle.tallies.specs.Counting.{with_inversion}
use Rattle.tallies.proofs.Inversions.{IsAlong, along_all, along_first, along_here, along_more, ends_there, of_list}
use Rattle.bench_model.specs.Tallied.{tally_at}
use Rattle.tallies.proofs.tallies.add_inversions_in.Goals as goal

pub loop-place-init : goal.loop-place-init
loop-place-init c = record {
  along = along_first c.args.kernel.now c.args.priority c.args.tasks.now;
  next = c.first_ready-next.ensures.first;
  in_range = c.first_ready-next.ensures.task;
}

pub is_inverted-requires-clause-ready : goal.is_inverted-requires-clause-ready
is_inverted-requires-clause-ready c = (of_list c.args.kernel.now c.args.priority c.loop-place._place c.in-Some.task
    (sym c.loop-place.invariant.next ∙ c.in-Some.is)).1

pub add_inversion-requires : goal.add_inversion-requires
add_inversion-requires c =
    let kernel = c.args.kernel.now in
    let old = c.args.tasks.now in
    let now = c.loop-place.tasks in
    let task = c.in-Some.task in
    let along = c.loop-place.invariant.along in
    let here = sym c.loop-place.invariant.next ∙ c.in-Some.is in
    let low : task < length old = omega (
      arith,
      c.requires.tasks,
      subst (λ o. IfSome o (λ task. task < kernel.settings.tasks)) c.in-Some.is
          c.loop-place.invariant.in_range,
    ) in
    let tally = along_here kernel c.args.priority old now c.loop-place._place task along kernel.settings.tasks c.first_ready-next.ensures.once here low in
    record {
      task = omega (arith, low, along.size);
      room = subst (λ (t : TaskTally). t.counts.inverted < 2 ^ 32 - 1) (sym tally)
          (c.requires.room task low (of_list kernel c.args.priority c.loop-place._place task here).0);
    }

pub next_ready-next-requires-clause-ready : goal.next_ready-next-requires-clause-ready
next_ready-next-requires-clause-ready c = (of_list c.args.kernel.now c.args.priority c.loop-place._place c.in-Some.task
    (sym c.loop-place.invariant.next ∙ c.in-Some.is)).1

pub returns-in-None : goal.returns-in-None
returns-in-None c =
    let kernel = c.args.kernel.now in
    along_all kernel c.args.priority c.args.tasks.now c.loop-place.tasks c.loop-place._place c.loop-place.invariant.along
    (ends_there (ready_list kernel c.args.priority) c.loop-place._place (sym c.loop-place.invariant.next ∙ c.in-None.is))

pub loop-place-preserved : goal.loop-place-preserved
loop-place-preserved c =
    let kernel = c.args.kernel.now in
    let old = c.args.tasks.now in
    let now = c.loop-place.tasks in
    let task = c.in-Some.task in
    let place = c.loop-place._place in
    let here = sym c.loop-place.invariant.next ∙ c.in-Some.is in
    let low : task < length old = omega (
      arith,
      c.requires.tasks,
      subst (λ o. IfSome o (λ task. task < kernel.settings.tasks)) c.in-Some.is
          c.loop-place.invariant.in_range,
    ) in
    let made = c.add_inversion.ensures ∙ ap (λ b. slice_set now task (with_inversion b (tally_at now task))) c.is_inverted.ensures in
    record {
      along = subst (IsAlong kernel c.args.priority old (place + 1)) (sym made)
          (along_more kernel c.args.priority old now place task c.loop-place.invariant.along kernel.settings.tasks c.first_ready-next.ensures.once here low);
      next = c.next_ready-next.ensures.next c.args.priority place c.requires.priority here;
      in_range = c.next_ready-next.ensures.task;
    }

pub returns : goal.returns
returns c =
    let kernel = c.args.kernel.now in
    let size = listing_length kernel.settings.tasks (ready_list kernel c.args.priority) c.first_ready-next.ensures.once in
    along_all kernel c.args.priority c.args.tasks.now c.loop-place.tasks c.loop-place._place c.loop-place.invariant.along
    (omega (arith, size, c.loop-place-test.false, ap (λ (s : Settings). s.tasks) c.settings-place-end.ensures.settings))
