use Rattle.std.proofs.Common.{◌≡◌, map, length, None, option_map}
use Rattle.json.specs.Json as json
use Rattle.json.specs.Find.{InMembers}
use Rattle.json_data.proofs.Members.{taken}
use Rattle.json_data.proofs.item.least_unknown_key.Given as goal

abbrev pub decreases-loop-key : goal.decreases-loop-key
decreases-loop-key l = length l.members

-- the keys from here on are still to be taken
abbrev pub invariant-loop-key : goal.invariant-loop-key
invariant-loop-key l =
    let names = map (λ name. name.now) l.names in
    (all : json.Members) → InMembers l.fn.members all → (rest : json.Members) × InMembers l.members rest ×
    (taken names all None ≡ taken names rest (option_map (λ name. name.now) l.least))
