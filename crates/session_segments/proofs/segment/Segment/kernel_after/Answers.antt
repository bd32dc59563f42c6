use Rattle.std.proofs.Common.{take, subst, sym, ap}
use Rattle.std.specs.Prelude.{All}
use Rattle.std.proofs.lemmas.List.Elements.{All-take}
use Rattle.bench_types.specs.declared.kernel_data.Settings.{Settings}
use Rattle.bench_types.specs.Step.{IsCheckedStep}
use Rattle.bench_model.specs.Lists.{View}
use Rattle.session_segments.proofs.segment.Segment.kernel_after.Goals as goal

pub advance-requires : goal.advance-requires
advance-requires g c =
    let inside = c.self.inside in
    let lent = subst (All (IsCheckedStep inside.kernel.settings)) (sym c.deref.ensures.value) c.self.invariant.0.checked in
    subst (λ (settings : Settings). All (IsCheckedStep settings) (take c.args.count c.deref.result.now))
    (sym (ap (λ (v : View). v.settings) c.in_ok-kernel.ensures)) (All-take (IsCheckedStep inside.kernel.settings) c.args.count c.deref.result.now lent)
