use Rattle.std.proofs.Common.{◌≡◌, filter}
use Rattle.list_orders.specs.Search.{numbers}
use Rattle.simulating.specs.Notes.{has_ended}
use Rattle.simulating.proofs.notes.ended.Given as goal

abbrev pub invariant-loop-user : goal.invariant-loop-user
invariant-loop-user l = l.users.items ≡ filter (has_ended l.at_end) (numbers l.user)
