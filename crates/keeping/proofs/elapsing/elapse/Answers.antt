use Rattle.std.proofs.Common.{◌∙◌, ◌<◌, ◌+◌, ap, arith, length, subst, sym}
use Rattle.std.specs.Prelude.{slice_set}
use Rattle.bench_types.specs.declared.kernel_data.Settings.{Settings}
use Rattle.bench_model.specs.Control.{current}
use Rattle.settling.proofs.Finds.{same_cores}
use Rattle.kept_runs.specs.Clocks.{clock_after}
use Rattle.workload_runs.specs.Situations.{is_working}
use Rattle.keeping.specs.Elapsing.{IsSmall}
use Rattle.keeping.specs.Works.{clock_at}
use Rattle.keeping.proofs.Elapses.{elapsed_finds, elapsed_passes, kept_there, AreElapsed}
use Rattle.keeping.proofs.elapsing.elapse.Goals.{then-is_working, else-is_working}
use Rattle.keeping.proofs.elapsing.elapse.Goals as goal

pub clock_after-requires : goal.clock_after-requires
clock_after-requires c =
    let table = c.running-task.ensures.sound.0 in
    let stands = c.running-task.ensures.sound.1 in
    let before = c.args.worked.now in
    let core = c.loop-core.core in
    let count = ap (λ (settings : Settings). settings.cores) c.settings-core-end.ensures.settings in
    let below : core < table.settings.cores = omega (arith, same_cores c.args.kernel.now table stands, count, c.loop-core-test.true) in
    let runs = c.running-task.ensures.current table stands in
    let low : current table.control core < length before = omega (arith, runs, c.running-task.ensures.task, c.requires.tasks) in
    let kept = kept_there table stands.sound c.args.time core before c.loop-core.worked below low (c.loop-core.invariant.is table stands) in
    subst IsSmall (sym kept ∙ ap (clock_at c.loop-core.worked) (sym runs)) (c.requires.small (current table.control core) low)

pub loop-core-preserved : goal.loop-core-preserved
loop-core-preserved c = record {
  many = elim c.if-is_working.branch [
    | then-is_working w ↦ omega (arith, c.if-is_working.auto.worked, c.loop-core.invariant.many)
    | else-is_working w ↦ omega (arith, c.if-is_working.auto.worked, c.loop-core.invariant.many)
  ];
  is = λ table stands.
      let before = c.args.worked.now in
      let core = c.loop-core.core in
      let now = c.loop-core.worked in
      let count = ap (λ (settings : Settings). settings.cores) c.settings-core-end.ensures.settings in
      let below : core < table.settings.cores = omega (arith, same_cores c.args.kernel.now table stands, count, c.loop-core-test.true) in
      let runs = c.running-task.ensures.current table stands in
      let low : current table.control core < length before = omega (arith, runs, c.running-task.ensures.task, c.requires.tasks) in
      let elapsed = c.loop-core.invariant.is table stands in
      let works = ap (is_working table) (sym runs) ∙ sym (c.is_working.ensures table stands) in
      elim c.if-is_working.branch [
        | then-is_working w ↦
            subst (AreElapsed table c.args.time (core + 1) before) (sym w.worked-is)
            (subst (λ task. AreElapsed table c.args.time (core + 1) before (slice_set now task w.clock_after.result)) (sym runs)
            (elapsed_finds table stands.sound c.args.time core before now w.clock_after.result below low elapsed (works ∙ w.if-is_working.true)
            (w.clock_after.ensures ∙ ap (λ task. clock_after c.args.time (clock_at now task)) runs)))
        | else-is_working w ↦
            subst (AreElapsed table c.args.time (core + 1) before) (sym w.worked-is)
            (elapsed_passes table stands.sound c.args.time core before now elapsed (works ∙ w.if-is_working.false))
      ];
}
