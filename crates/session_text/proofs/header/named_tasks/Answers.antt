use Rattle.std.proofs.Common.{not, ap, refl, sym, ◌∙◌}
use Rattle.std.proofs.lemmas.List.{take_more}
use Rattle.bench_types.specs.declared.header.TaskArgs.{TaskArgs}
use Rattle.bench_types.specs.Name.{is_name}
use Rattle.bench_types.proofs.Positions.{sought_here, sought_on}
use Rattle.session_text.proofs.Accepting.{named_none, named_some}
use Rattle.session_text.proofs.header.named_tasks.Goals as goal

pub returns-in-None : goal.returns-in-None
returns-in-None c =
    let shape = c.index-shapes-location.result in
    let none = named_none shape (sym c.to_args.ensures ∙ c.in-None.is) in
    sym (sought_here (λ (task : TaskArgs). not (is_name task.name)) c.args.shapes.now c.loop-location.location shape c.loop-location-test.true
    c.index-shapes-location.is (ap not none) c.loop-location.invariant.sought)

pub loop-location-preserved : goal.loop-location-preserved
loop-location-preserved c =
    let shape = c.index-shapes-location.result in
    let some = named_some shape c.in-Some.task (sym c.to_args.ensures ∙ c.in-Some.is) in
    record {
      so_far = rw (
        c.in_ok-push-in-Some.ensures.items,
        take_more c.args.shapes.now c.loop-location.location shape c.loop-location-test.true,
        ←
            c.index-shapes-location.is,
        c.loop-location.invariant.so_far,
        some.1,
      ) refl;
      sought = sought_on (λ (task : TaskArgs). not (is_name task.name)) c.args.shapes.now c.loop-location.location shape c.loop-location-test.true
          c.index-shapes-location.is (ap not some.0) c.loop-location.invariant.sought;
    }
