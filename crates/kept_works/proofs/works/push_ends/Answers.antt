use Rattle.std.proofs.Common.{◌+◌, ℕ, None, ap}
use Rattle.kept_runs.specs.declared.clocks.Clock.{Clock}
use Rattle.kept_runs.specs.declared.works.Unmade.{Unmade}
use Rattle.kept_runs.specs.Clocks.{elapsed}
use Rattle.keeping.specs.Works.{clock_at}
use Rattle.kept_works.proofs.Loops.{numbers_on}
use Rattle.kept_works.proofs.works.push_ends.Goals as goal

pub loop-user-preserved : goal.loop-user-preserved
loop-user-preserved c =
    let end_of : ℕ → Unmade =
    λ (user : ℕ). record {
      task = c.args.cores + user;
      call = None;
      work = elapsed (clock_at c.args.last.now (c.args.cores + user)) (clock_at c.args.ends.now user);
    } in
    numbers_on end_of c.loop-user.user c.args.unmade.now.items c.loop-user.unmade.items _ _ c.loop-user.invariant c.in_ok-push.ensures.items
    (ap (λ (work : Clock). record { task = c.args.cores + c.loop-user.user; call = None; work = work }) c.elapsed.ensures.elapsed)
