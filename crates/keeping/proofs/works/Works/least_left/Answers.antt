use Rattle.std.proofs.Common.{◌≡◌, ◌≢◌, ◌∙◌, ◌+◌, ◌<◌, ap, arith, subst, sym}
use Rattle.bench_types.specs.declared.kernel_data.Settings.{Settings}
use Rattle.settling.proofs.Finds.{same_cores, same_settings}
use Rattle.keeping.specs.Works.{left_on, AreFit}
use Rattle.keeping.proofs.Lefts.{least_ends, least_passes, least_takes, IsLeast}
use Rattle.keeping.proofs.works.Works.least_left.Goals.{then-left-eq0, else-left-eq0}
use Rattle.keeping.proofs.works.Works.least_left.Goals as goal

pub loop-core-preserved : goal.loop-core-preserved
loop-core-preserved c = record {
  within = elim c.if-left-eq0.branch [
    | then-left-eq0 w ↦ omega (arith, w.least-is, c.loop-core.invariant.within)
    | else-left-eq0 w ↦ omega (arith, w.least-is, w.min-least.ensures, c.loop-core.invariant.within)
  ];
  is = λ table stands.
      let works = c.args.self.now in
      let core = c.loop-core.core in
      let count = ap (λ (settings : Settings). settings.cores) c.settings-core-end.ensures.settings in
      let below : core < table.settings.cores = omega (arith, same_cores c.args.kernel.now table stands, count, c.loop-core-test.true) in
      let left = c.left_on-left.ensures table stands in
      elim c.if-left-eq0.branch [
        | then-left-eq0 w ↦
            subst (IsLeast table works c.args.units (core + 1)) (sym w.least-is)
            (least_passes table works c.args.units core c.loop-core.least (c.loop-core.invariant.is table stands) (sym left ∙ w.if-left-eq0.true))
        | else-left-eq0 w ↦
            let some : left_on table works core ≢ 0 = omega (arith, left, w.if-left-eq0.false) in
            subst (IsLeast table works c.args.units (core + 1)) (sym (w.least-is ∙ omega (arith, w.min-least.ensures, left)))
            (least_takes table works c.args.units core c.loop-core.least below (c.loop-core.invariant.is table stands) some)
      ];
}

pub returns : goal.returns
returns c now stands holds =
    let settings = same_settings c.args.kernel.now now.table stands in
    let fit = subst (λ settings. AreFit settings c.args.self.now) (sym settings) c.requires in
    let count = ap (λ (settings : Settings). settings.cores) c.settings-core-end.ensures.settings in
    let all : c.loop-core.core ≡ now.table.settings.cores =
    omega (arith, c.loop-core.auto.core-end, c.loop-core-test.false, count, same_cores c.args.kernel.now now.table stands) in
    least_ends c.args.self.now now stands.sound fit holds c.args.units c.loop-core.core c.loop-core.least all
    (c.loop-core.invariant.is now.table stands)
