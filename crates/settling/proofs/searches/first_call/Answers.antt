use Rattle.std.proofs.Common.{◌≡◌, ◌∙◌, ◌<◌, ap, arith, inl, inr, subst, sym}
use Rattle.std.specs.Prelude.{slice_index}
use Rattle.bench_types.specs.declared.kernel_data.Settings.{Settings}
use Rattle.settled_runs.specs.Settled.{is_timely}
use Rattle.settling.specs.Places.{AreQueues}
use Rattle.settling.proofs.Finds.{finds_as, moved, passes_as, same_cores, same_settings, search_ends}
use Rattle.settling.proofs.searches.first_call.Goals.{then-place-first+then-is_timely, then-place-first+else-is_timely, else-place-first}
use Rattle.settling.proofs.searches.first_call.Goals as goal

pub loop-core-preserved : goal.loop-core-preserved
loop-core-preserved c table stands =
    let heads = c.args.queues.now.heads.items in
    let next = c.args.queues.now.next.items in
    let core = c.loop-core.core in
    let settings = same_settings c.args.kernel.now table stands in
    let queues = subst (λ (settings : Settings). AreQueues c.args.steps.now c.args.come settings.tasks heads next) (sym settings) c.requires.queues in
    let count = ap (λ (settings : Settings). settings.cores) c.settings-core-end.ensures.settings in
    let below : core < table.settings.cores = omega (arith, same_cores c.args.kernel.now table stands, count, c.loop-core-test.true) in
    let head = c.head-place.ensures ∙ ap (slice_index heads) (c.running.ensures.current table stands) in
    let searched = c.loop-core.invariant table stands in
    elim c.if-place-first.branch [
      | then-place-first+then-is_timely w ↦
          let timely = sym (w.is_timely.ensures table stands) ∙ w.if-is_timely.true in
          let finds =
          finds_as table heads next c.args.steps.now c.args.come stands.sound queues core c.loop-core.first c.head-place.result c.loop-core.found below
          searched head
          w.made_on-step.result w.made_on-step.ensures w.if-place-first.true timely in
          moved table heads c.args.steps.now c.args.come _ _ _ _ _ w.first-is w.found-is finds
      | then-place-first+else-is_timely w ↦
          let untimely = ap (is_timely table) (sym w.made_on-step.ensures) ∙ sym (w.is_timely.ensures table stands) ∙ w.if-is_timely.false in
          let passes =
          passes_as table heads next c.args.steps.now c.args.come stands.sound queues core c.loop-core.first c.head-place.result c.loop-core.found below
          searched head (inr untimely) in
          moved table heads c.args.steps.now c.args.come _ _ _ _ _ w.first-is w.found-is passes
      | else-place-first w ↦
          let passes =
          passes_as table heads next c.args.steps.now c.args.come stands.sound queues core c.loop-core.first c.head-place.result c.loop-core.found below
          searched head (inl w.if-place-first.false) in
          moved table heads c.args.steps.now c.args.come _ _ _ _ _ w.first-is w.found-is passes
    ]

pub returns : goal.returns
returns c table stands =
    let heads = c.args.queues.now.heads.items in
    let next = c.args.queues.now.next.items in
    let settings = same_settings c.args.kernel.now table stands in
    let queues = subst (λ (settings : Settings). AreQueues c.args.steps.now c.args.come settings.tasks heads next) (sym settings) c.requires.queues in
    let count = ap (λ (settings : Settings). settings.cores) c.settings-core-end.ensures.settings in
    let all : c.loop-core.core ≡ table.settings.cores =
    omega (arith, c.loop-core.auto.core-end, c.loop-core-test.false, count, same_cores c.args.kernel.now table stands) in
    search_ends table heads next c.args.steps.now c.args.come stands.sound queues c.loop-core.core c.loop-core.first c.loop-core.found all
    (c.loop-core.invariant table stands)
