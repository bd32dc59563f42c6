use Rattle.std.proofs.Common.{◌≡◌, ◌∙◌, ◌<◌, ap, arith, inl, inr, subst, sym}
use Rattle.std.specs.Prelude.{slice_index}
use Rattle.bench_types.specs.declared.kernel_data.Settings.{Settings}
use Rattle.settling.proofs.Finds.{same_cores, same_settings}
use Rattle.keeping.specs.Works.{due_on, AreFit}
use Rattle.keeping.proofs.Dues.{moved, search_ends, search_finds, search_passes}
use Rattle.keeping.proofs.works.Works.oldest_call.Goals.{then-head-first+in-Some, then-head-first+in_default, else-head-first}
use Rattle.keeping.proofs.works.Works.oldest_call.Goals as goal

pub loop-core-preserved : goal.loop-core-preserved
loop-core-preserved c table stands =
    let works = c.args.self.now in
    let core = c.loop-core.core in
    let count = ap (λ (settings : Settings). settings.cores) c.settings-core-end.ensures.settings in
    let below : core < table.settings.cores = omega (arith, same_cores c.args.kernel.now table stands, count, c.loop-core-test.true) in
    let head = c.head-head.ensures ∙ ap (slice_index works.queues.heads.items) (c.running.ensures.current table stands) in
    let comes = due_on table works c.args.timed in
    let searched = c.loop-core.invariant table stands in
    elim c.if-head-first.branch [
      | then-head-first+in-Some w ↦
          let finds =
          search_finds table works comes core c.loop-core.first c.loop-core.found w.in-Some.step below searched
          (omega (arith, head, w.if-head-first.true)) (sym (w.due_call.ensures table stands) ∙ w.in-Some.is) in
          moved table works comes _ _ _ _ _ (w.first-is ∙ head) w.found-is finds
      | then-head-first+in_default w ↦
          let passes =
          search_passes table works comes core c.loop-core.first c.loop-core.found searched
          (inr (sym (w.due_call.ensures table stands) ∙ w.in_default.is)) in
          moved table works comes _ _ _ _ _ w.first-is w.found-is passes
      | else-head-first w ↦
          let passes =
          search_passes table works comes core c.loop-core.first c.loop-core.found searched
          (inl (omega (arith, head, w.if-head-first.false))) in
          moved table works comes _ _ _ _ _ w.first-is w.found-is passes
    ]

pub returns : goal.returns
returns c now stands holds timed =
    let settings = same_settings c.args.kernel.now now.table stands in
    let fit = subst (λ settings. AreFit settings c.args.self.now) (sym settings) c.requires.fit in
    let count = ap (λ (settings : Settings). settings.cores) c.settings-core-end.ensures.settings in
    let all : c.loop-core.core ≡ now.table.settings.cores =
    omega (arith, c.loop-core.auto.core-end, c.loop-core-test.false, count, same_cores c.args.kernel.now now.table stands) in
    search_ends c.args.self.now now stands.sound fit holds c.args.timed timed c.loop-core.core c.loop-core.first c.loop-core.found all
    (c.loop-core.invariant now.table stands)
