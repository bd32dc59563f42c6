use Rattle.std.proofs.lemmas.Slice.Eq.{slice_eq-Decides}
use Rattle.bench_types.proofs.Equalities.{option_decides, unfinished_decides}
use Rattle.smp_kernel.proofs.scheduler.equal.have_same_calls.Goals as goal

pub returns : goal.returns
returns c = slice_eq-Decides (option_decides unfinished_decides) c.args.calls.now c.args.others.now c.eq.result c.eq.ensures
