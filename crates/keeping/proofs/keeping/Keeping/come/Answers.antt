use Rattle.std.proofs.Common.{◌≡◌, ◌∙◌, List, ap, arith, cond, length, refl, sym}
use Rattle.std.proofs.lemmas.List.{with_items_is}
use Rattle.bench_types.specs.declared.kernel_data.Settings.{Settings}
use Rattle.step_times.specs.Times.{time_of}
use Rattle.workload_runs.specs.Situations.{is_working}
use Rattle.kept_runs.specs.declared.clocks.Clock.{Clock}
use Rattle.kept_runs.specs.Clocks.{clock_after}
use Rattle.keeping.specs.Works.{clock_at}
use Rattle.keeping.proofs.Going.{gone_outside, kernel_here, some_to_come}
use Rattle.keeping.proofs.keeping.Keeping.come.Goals as goal

pub come-requires-clause-more : goal.come-requires-clause-more
come-requires-clause-more c =
    let at = c.requires.next in some_to_come c.args.self.now at.now at.holds c.args.step.now at.is c.requires.outside

pub returns-clause-gone : goal.returns-clause-gone
returns-clause-gone c now holds next =
    let old = c.args.self.now in
    let step = c.args.step.now in
    let kernel = c.kernel-kernel.result.now in
    let stands = kernel_here old now holds kernel c.kernel-kernel.ensures.stands in
    let settings = c.settings.ensures.settings ∙ c.kernel-kernel.ensures.settings ∙ sym holds.settings in
    let time : c.time_of-time.result ≡ time_of now.table.settings.units step =
    c.time_of-time.ensures ∙ ap (λ (settings : Settings). time_of settings.units step) settings in
    let before = c.deref_mut.ensures.value in
    let kept : length c.elapse.new.worked ≡ old.works.worked.len =
    omega (arith, c.elapse.ensures.many, ap length before, old.works.worked.ok.0) in
    let items = with_items_is old.works.worked c.elapse.new.worked kept in
    gone_outside old now holds step next _ c.requires.outside refl refl refl refl
    (omega (arith, ap length items, c.elapse.ensures.many, ap length before))
    (λ task low.
    ap (λ (items : List Clock). clock_at items task) items
    ∙ c.elapse.ensures.done now.table task stands (omega (arith, low, ap length before))
    ∙ (λ i. cond (is_working now.table task) (clock_after (time i) (clock_at (before i) task)) (clock_at (before i) task)))
    c.come.ensures
