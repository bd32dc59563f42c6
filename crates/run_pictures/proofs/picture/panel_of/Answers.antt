use Rattle.std.proofs.Common.{arith}
use Rattle.bench_types.proofs.Passes.{header_facts, passes_whole}
use Rattle.run_pictures.specs.RunLooks.{run_looks}
use Rattle.run_pictures.proofs.Filming.{looks_counted, looks_few, queues_few}
use Rattle.run_pictures.proofs.picture.panel_of.Goals as goal

pub returns-clause-numbered : goal.returns-clause-numbered
unfolding run_looks
returns-clause-numbered c =
    let places = c.args.places in
    let session = c.args.run.now.session.now in
    let checked = c.header-header.ensures.checked in
    let seen_run = c.in_ok-run_looks.ensures in
    let framed = c.in_ok-frame.ensures in
    let few = looks_few places session.header session.steps (omega arith) (omega (arith, checked.few)) in
    let some = looks_counted places session.header session.steps (omega (arith, checked.few)) in
    let limits = header_facts session.header (passes_whole session.header checked.checked.header.passes) in
    let same = c.header-header.ensures.header in
    record {
      places = rw (seen_run, framed) few;
      looks = rw seen_run some;
      cores = rw same limits.few_cores;
      tasks = rw same limits.few_tasks;
      queues = rw same (queues_few session.header checked.checked.header.passes);
    }
