use Rattle.std.proofs.Common.{◌≡◌, map}
use Rattle.list_orders.specs.Search.{numbers}
use Rattle.simulating.proofs.Ends.{end_of}
use Rattle.simulating.proofs.progress.ends_at.Given as goal

abbrev pub invariant-loop-user : goal.invariant-loop-user
invariant-loop-user l = l.ends.items ≡ map (end_of l.programs l.courses) (numbers l.user)
