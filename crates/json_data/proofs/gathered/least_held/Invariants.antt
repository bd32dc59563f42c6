use Rattle.std.proofs.Common.{◌≡◌, drop, map, option_map, None}
use Rattle.json_data.specs.Held.{least_held}
use Rattle.json_data.proofs.gathered.least_held.Given as goal

-- those from here on are left to take
abbrev pub invariant-loop-member : goal.invariant-loop-member
invariant-loop-member l =
    let names = map (λ name. name.now) l.names in
    least_held names (drop l.member-index l.held) (option_map (λ name. name.now) l.least) ≡ least_held names l.held None
