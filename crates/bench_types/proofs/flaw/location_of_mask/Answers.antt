use Rattle.std.proofs.Common.{◌^◌, ◌<◌, ◌==◌, arith, subst}
use Rattle.std.specs.Prelude.{All}
use Rattle.std.proofs.lemmas.List.{take_all}
use Rattle.std.proofs.lemmas.List.Elements.{All-more}
use Rattle.bench_types.specs.declared.header.TaskArgs.{TaskArgs}
use Rattle.bench_types.specs.Mask.{cores_of_mask}
use Rattle.bench_types.proofs.Positions.{sought_here, sought_on, sought_whole}
use Rattle.bench_types.proofs.flaw.location_of_mask.Goals as goal

pub returns-then-means_no_core-clause-value : goal.returns-then-means_no_core-clause-value
returns-then-means_no_core-clause-value c =
    let no_core = λ (task : TaskArgs). cores_of_mask c.args.cores task.mask == 0 in
    sought_here no_core c.args.tasks.now c.loop-place.place c.index-tasks-place.result c.loop-place-test.true c.index-tasks-place.is (grind arith)
    c.loop-place.invariant.value

pub loop-place-preserved : goal.loop-place-preserved
loop-place-preserved c =
    let no_core = λ (task : TaskArgs). cores_of_mask c.args.cores task.mask == 0 in
    let fits = λ (task : TaskArgs). task.mask < 2 ^ 32 in
    record {
      value = sought_on no_core c.args.tasks.now c.loop-place.place c.index-tasks-place.result c.loop-place-test.true c.index-tasks-place.is (grind arith)
          c.loop-place.invariant.value;
      words = All-more fits c.args.tasks.now c.loop-place.place c.index-tasks-place.result c.loop-place-test.true c.loop-place.invariant.words
          (subst fits c.index-tasks-place.is c.means_no_core.ensures.word);
    }

pub returns-clause-value : goal.returns-clause-value
returns-clause-value c = sought_whole (λ (task : TaskArgs). cores_of_mask c.args.cores task.mask == 0) c.args.tasks.now c.loop-place.place
    c.loop-place-test.false c.loop-place.invariant.value

pub returns-clause-words : goal.returns-clause-words
returns-clause-words c = subst (All (λ (task : TaskArgs). task.mask < 2 ^ 32)) (take_all c.loop-place.place c.args.tasks.now c.loop-place-test.false)
    c.loop-place.invariant.words
