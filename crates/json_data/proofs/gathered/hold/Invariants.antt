use Rattle.std.proofs.Common.{length}
use Rattle.json.specs.Json as json
use Rattle.json.specs.Find.{InMembers}
use Rattle.json_data.specs.Held.{Passed}
use Rattle.json_data.proofs.gathered.hold.Given as goal

abbrev pub decreases-loop-name : goal.decreases-loop-name
decreases-loop-name l = length l.members

-- the members that are held were passed, and those from here on follow
abbrev pub invariant-loop-name : goal.invariant-loop-name
invariant-loop-name l =
    (all : json.Members) → InMembers l.fn.members all → (rest : json.Members) × InMembers l.members rest × Passed l.held.items all rest
