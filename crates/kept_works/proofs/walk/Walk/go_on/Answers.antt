use Rattle.std.proofs.Common.{◌≡◌, ◌∙◌, ◌<◌, ◌&&◌, ℕ, List, length, ap, subst, sym, cond, arith}
use Rattle.std.proofs.lemmas.List.{with_items_is}
use Rattle.bench_types.specs.declared.kernel_data.Settings.{Settings}
use Rattle.bench_model.specs.Equal.{StandsFor}
use Rattle.bench_model.specs.Lists.{View}
use Rattle.bench_model.specs.Session.{state_after}
use Rattle.bench_model.specs.Start.{start}
use Rattle.settled_runs.specs.SettleLaws.{comes_from_outside}
use Rattle.step_times.specs.Times.{time_of}
use Rattle.workload_runs.specs.Situations.{is_working}
use Rattle.kept_runs.specs.declared.clocks.Clock.{Clock}
use Rattle.kept_runs.specs.Clocks.{clock_after}
use Rattle.kept_works.specs.declared.walk.Walk.{Walk}
use Rattle.keeping.specs.Works.{clock_at}
use Rattle.kept_works.proofs.Walking.{clock_behind, goes_further}
use Rattle.kept_works.proofs.walk.Walk.go_on.Goals.{then-comes_from_outside, else-comes_from_outside}
use Rattle.kept_works.proofs.walk.Walk.go_on.Goals as goal

pub returns-clause-made : goal.returns-clause-made
returns-clause-made c header made at room =
    let walk = c.args.self.now in
    let step = c.args.step.now in
    let table = state_after (start header) made in
    let before = walk.worked.items in
    let later = c.if-comes_from_outside.self.worked.items in
    let kernel : c.if-comes_from_outside.self.kernel ≡ walk.kernel = elim c.if-comes_from_outside.branch [
      | then-comes_from_outside w ↦ ap (λ (walk : Walk). walk.kernel) w.self-is
      | else-comes_from_outside w ↦ ap (λ (walk : Walk). walk.kernel) w.self-is
    ] in
    let counts : (length later ≡ length before) × ((task : ℕ) → task < length before
    → clock_at later task ≡ clock_behind step walk.kernel.settings (comes_from_outside step && is_working table task) (clock_at before task))
    = elim c.if-comes_from_outside.branch [
      | then-comes_from_outside w ↦
          let lent = w.deref_mut.ensures.value in
          let kept : length w.elapse.new.worked ≡ walk.worked.len = omega (arith, w.elapse.ensures.many, ap length lent, walk.worked.ok.0) in
          let items = ap (λ (walk : Walk). walk.worked.items) w.self-is ∙ with_items_is walk.worked w.elapse.new.worked kept in
          let time = w.time_of-time.ensures ∙ ap (λ (settings : Settings). time_of settings.units step) w.settings.ensures.settings in
          let comes = sym c.comes_from_outside.ensures ∙ w.if-comes_from_outside.true in (
            ap length items ∙ w.elapse.ensures.many ∙ ap length lent,
            λ task low.
                ap (λ (items : List Clock). clock_at items task) items
                ∙ w.elapse.ensures.done table task at.stands (omega (arith, low, ap length lent))
                ∙ (λ i. cond (is_working table task) (clock_after (time i) (clock_at (lent i) task)) (clock_at (lent i) task))
                ∙ ap (λ b. clock_behind step walk.kernel.settings (b && is_working table task) (clock_at before task)) (sym comes),
          )
      | else-comes_from_outside w ↦
          let items = ap (λ (walk : Walk). walk.worked.items) w.self-is in
          let stays = sym c.comes_from_outside.ensures ∙ w.if-comes_from_outside.false in (
            ap length items,
            λ task low.
                ap (λ (items : List Clock). clock_at items task) items
                ∙ ap (λ b. clock_behind step walk.kernel.settings (b && is_working table task) (clock_at before task)) (sym stays),
          )
    ] in
    goes_further header made step walk _ at c.requires.way.checked
    (c.step.ensures.state table (subst (λ (kernel : View). StandsFor kernel table) (sym kernel) at.stands))
    (c.step.ensures.shape ∙ ap (λ (kernel : View). kernel.settings) kernel) counts.0 counts.1
