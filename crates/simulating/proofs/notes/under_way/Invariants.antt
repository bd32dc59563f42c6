use Rattle.std.proofs.Common.{◌≡◌, filter}
use Rattle.list_orders.specs.Search.{numbers}
use Rattle.simulating.specs.Notes.{is_under_way}
use Rattle.simulating.proofs.notes.under_way.Given as goal

abbrev pub invariant-loop-user : goal.invariant-loop-user
invariant-loop-user l = l.users.items ≡ filter (is_under_way l.workload l.at_end) (numbers l.user)
