use Rattle.std.proofs.Common.{◌≡◌, ◌++◌}
use Rattle.kept_works.specs.Works.{asked_ends}
use Rattle.kept_works.proofs.works.ask_ends.Given as goal

abbrev pub invariant-loop-user : goal.invariant-loop-user
invariant-loop-user l = l.asked.items ≡ l.fn.asked.items ++ asked_ends l.cores l.user l.end
