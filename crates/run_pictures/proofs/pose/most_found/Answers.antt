use Rattle.std.proofs.Common.{◌≤◌, ap, arith, length}
use Rattle.std.proofs.lemmas.Nat.{mul-le}
use Rattle.bench_types.specs.Limits.{max_cores, max_tasks}
use Rattle.run_pictures.proofs.pose.most_found.Goals as goal

pub overflow_mul-sites : goal.overflow_mul-sites
overflow_mul-sites c =
    let tasks : length c.as_slice.result.now ≤ max_tasks = omega (arith, ap length c.as_slice.ensures, c.requires.tasks) in
    let cores : c.from.result ≤ max_cores = omega (arith, c.from.ensures, c.requires.cores) in
    let most = mul-le (length c.as_slice.result.now) c.from.result max_tasks max_cores tasks cores in
    omega (arith, most)
